-- Reading the fields of a rule, one after another.
use Rattle.std.proofs.Common.{◌≡◌, ◌≤◌, ℕ, zero, suc, ◌+◌, true, false, cond, List, [], ◌∷◌, length, drop, Result, Ok, Err, refl, sym, ap, ◌∙◌, arith}
use Rattle.std.proofs.lemmas.List.{drop-drop, length-drop}
use Rattle.lic_ere.specs.Located.{Located, with_remaining, further}
use Rattle.lic_elements.specs.declared.rule.tag.Tag.{Tag}
use Rattle.lic_elements.specs.declared.fault.MarkupFault.{MarkupFault}
use Rattle.lic_elements.specs.declared.fault.MarkupCause.TheVariants.{NotClosed}
use Rattle.lic_elements.specs.Signs.{semicolon, greater}
use Rattle.lic_elements.specs.Texts.{begins_with, begins_with_two, spaces, trim_start}
use Rattle.lic_elements.specs.Faults.{fault_at, map_ok, ◌>>=◌}
use Rattle.lic_elements.specs.Rules.{Rule, Values, no_values, field_or_none, fields_at, rule_of, rule_at}
use Rattle.lic_elements.proofs.FaultLemmas.{map_ok-same, map_ok-map_ok, with_remaining-further}
use Rattle.lic_elements.proofs.RuleLemmas.{read}

-- what comes after a reading is no longer than what it was read from
pub read-shorter : {A : Type 0} (rest : List Located) (r : Result (A × ℕ) MarkupFault) (a : A) (after : List Located)
    → read rest r ≡ Ok (a, after) → length after ≤ length rest
read-shorter {A = A} rest (Ok y) a after is =
    let two : drop y.1 rest ≡ after = ap (λ (r : Result (A × List Located) MarkupFault). elim r [ Ok z ↦ z.1 | Err e ↦ after ]) is in
    omega (arith, ap length two, length-drop y.1 rest)
read-shorter rest (Err e) a after is = absurd cc

module _ (rule : ℕ) (tag : Tag) where
  -- the fields from here on
  abbrev pub fields_of : Values → List Located → Result (Values × List Located) MarkupFault
  fields_of values rest = read rest (fields_at rule tag values 0 rest)

  pub fields-skipped : (values : Values) (n : ℕ) (xs : List Located) → read xs (fields_at rule tag values n xs) ≡ fields_of values (drop n xs)
  unfolding fields_at
  fields-skipped values zero xs = refl
  fields-skipped values (suc n) [] = refl
  fields-skipped values (suc n) (x ∷ xs) =
      map_ok-map_ok (with_remaining (x ∷ xs)) (further 1) (fields_at rule tag values n xs)
      ∙ map_ok-same (λ y. with_remaining (x ∷ xs) (further 1 y)) (with_remaining xs) (fields_at rule tag values n xs) (λ y. with_remaining-further 1 (x ∷ xs) y)
      ∙ fields-skipped values n xs

  pub fields-end : (values : Values) (rest : List Located) (x : Located) (after : List Located) → rest ≡ x ∷ after
      → begins_with_two greater rest ≡ true → fields_of values rest ≡ Ok (values, drop 2 rest)
  unfolding fields_at
  fields-end values rest x after is found =
      let here : begins_with_two greater (x ∷ after) ≡ true = ap (begins_with_two greater) (sym is) ∙ found in
      ap (fields_of values) is ∙ rw here refl ∙ ap (λ (l : List Located). Ok (values, drop 2 l)) (sym is)

  module _ (values : Values) (x : Located) (after : List Located) where
    abbrev next : Result (Values × ℕ) MarkupFault → Result (Values × ℕ) MarkupFault
    next r = map_ok (further 1) (r >>= λ y. fields_at rule tag y.0 (spaces after + y.1) after)

    fields-next : begins_with_two greater (x ∷ after) ≡ false → begins_with semicolon (x ∷ after) ≡ true
        → fields_at rule tag values 0 (x ∷ after) ≡ next (field_or_none rule tag values (trim_start after))
    unfolding fields_at
    fields-next one two =
        ap (λ b. cond b (Ok (values, 2))
        (cond (begins_with semicolon (x ∷ after)) (next (field_or_none rule tag values (trim_start after)))
        (Err (fault_at rule NotClosed)))) one
        ∙ ap (λ b. cond b (next (field_or_none rule tag values (trim_start after))) (Err (fault_at rule NotClosed))) two

    next_turn : (r : Result (Values × ℕ) MarkupFault) (more : Values) (following : List Located)
        → read (trim_start after) r ≡ Ok (more, following) → read (x ∷ after) (next r) ≡ fields_of more following
    next_turn (Err e) more following is = absurd cc
    next_turn (Ok y) more following is =
        let one : y.0 ≡ more = ap (λ (r : Result (Values × List Located) MarkupFault). elim r [ Ok z ↦ z.0 | Err e ↦ more ]) is in
        let two : drop y.1 (trim_start after) ≡ following = ap (λ (r : Result (Values × List Located) MarkupFault). elim r [ Ok z ↦ z.1 | Err e ↦ following ]) is in
        let all : Result (Values × ℕ) MarkupFault = fields_at rule tag y.0 (spaces after + y.1) after in
        map_ok-map_ok (with_remaining (x ∷ after)) (further 1) all
        ∙ map_ok-same (λ z. with_remaining (x ∷ after) (further 1 z)) (with_remaining after) all (λ z. with_remaining-further 1 (x ∷ after) z)
        ∙ fields-skipped y.0 (spaces after + y.1) after
        ∙ (λ i. fields_of (one i) ((sym (drop-drop y.1 (spaces after) after) ∙ two) i))

    next_fails : (r : Result (Values × ℕ) MarkupFault) (e : MarkupFault) → read (trim_start after) r ≡ Err e → read (x ∷ after) (next r) ≡ Err e
    next_fails (Ok y) e is = absurd cc
    next_fails (Err d) e is = ap (λ (r : Result (Values × List Located) MarkupFault). elim r [ Ok z ↦ Err e | Err f ↦ Err f ]) is

    -- one more field
    pub fields_turn : (rest front : List Located) (more : Values) (following : List Located)
        (total : Result (Values × List Located) MarkupFault) → rest ≡ x ∷ after → front ≡ trim_start after
        → begins_with_two greater rest ≡ false → begins_with semicolon rest ≡ true
        → read front (field_or_none rule tag values front) ≡ Ok (more, following) → fields_of values rest ≡ total
        → fields_of more following ≡ total
    fields_turn rest front more following total is trimmed one two got so_far =
        sym (ap (read (x ∷ after)) (fields-next (ap (begins_with_two greater) (sym is) ∙ one)
        (ap (begins_with semicolon) (sym is) ∙ two))
        ∙ next_turn _ more following (ap (λ (l : List Located). read l (field_or_none rule tag values l))
        (sym trimmed) ∙ got))
        ∙ ap (fields_of values) (sym is) ∙ so_far

    -- a fault in a field
    pub fields_fail : (rest front : List Located) (e : MarkupFault) → rest ≡ x ∷ after → front ≡ trim_start after
        → begins_with_two greater rest ≡ false → begins_with semicolon rest ≡ true
        → read front (field_or_none rule tag values front) ≡ Err e → fields_of values rest ≡ Err e
    fields_fail rest front e is trimmed one two got =
        ap (fields_of values) is ∙ ap (read (x ∷ after))
        (fields-next (ap (begins_with_two greater) (sym is) ∙ one) (ap (begins_with semicolon) (sym is) ∙ two))
        ∙ next_fails _ e (ap (λ (l : List Located). read l (field_or_none rule tag values l)) (sym trimmed) ∙ got)

  -- neither `;` nor `>>`
  pub fields-refused : (values : Values) (rest : List Located) (x : Located) (after : List Located) → rest ≡ x ∷ after
      → begins_with_two greater rest ≡ false → begins_with semicolon rest ≡ false
      → fields_of values rest ≡ Err (fault_at rule NotClosed)
  unfolding fields_at
  fields-refused values rest x after is one two =
      let first : begins_with_two greater (x ∷ after) ≡ false = ap (begins_with_two greater) (sym is) ∙ one in
      let second : begins_with semicolon (x ∷ after) ≡ false = ap (begins_with semicolon) (sym is) ∙ two in
      ap (fields_of values) is
      ∙ ap (λ b. read (x ∷ after) (cond b (Ok (values, 2))
      (cond (begins_with semicolon (x ∷ after))
      (next values x after (field_or_none rule tag values (trim_start after)))
      (Err (fault_at rule NotClosed))))) first
      ∙ ap (λ b. read (x ∷ after) (cond b (next values x after (field_or_none rule tag values (trim_start after))) (Err (fault_at rule NotClosed)))) second

  pub fields-open : (values : Values) (rest : List Located) → length rest ≡ 0 → fields_of values rest ≡ Err (fault_at rule NotClosed)
  unfolding fields_at
  fields-open values [] none = refl
  fields-open values (x ∷ rest) none = absurd (omega arith)

pub trim_start-shorter : (all front : List Located) → front ≡ trim_start all → length front ≤ length all
trim_start-shorter all front is = omega (arith, ap length is, length-drop (spaces all) all)

-- a rule whose fields were read
module _ (offset : ℕ) (tag : Tag) (rest following_it : List Located) (values : Values) (rule : Rule) (is : rule_of offset tag values ≡ Ok rule) where
  by_fields : (r : Result (Values × ℕ) MarkupFault) → read (trim_start rest) r ≡ Ok (values, following_it)
      → read rest (r >>= λ fields. map_ok (λ rule. (rule, spaces rest + fields.1)) (rule_of offset tag fields.0)) ≡ Ok (rule, following_it)
  by_fields (Err e) got = absurd cc
  by_fields (Ok y) got =
      let one : y.0 ≡ values = ap (λ (r : Result (Values × List Located) MarkupFault). elim r [ Ok z ↦ z.0 | Err e ↦ values ]) got in
      let two : drop y.1 (trim_start rest) ≡ following_it = ap (λ (r : Result (Values × List Located) MarkupFault). elim r [ Ok z ↦ z.1 | Err e ↦ following_it ]) got in
      ap (λ v. read rest (map_ok (λ rule. (rule, spaces rest + y.1)) (rule_of offset tag v))) one
      ∙ ap (λ m. read rest (map_ok (λ rule. (rule, spaces rest + y.1)) m)) is
      ∙ ap (λ (l : List Located). Ok (rule, l)) (sym (drop-drop y.1 (spaces rest) rest) ∙ two)

  pub read_by_fields : (front : List Located) → front ≡ trim_start rest → read front (fields_at offset tag no_values 0 front) ≡ Ok (values, following_it)
      → read rest (rule_at offset tag rest) ≡ Ok (rule, following_it)
  unfolding rule_at
  read_by_fields front trimmed got =
      by_fields (fields_at offset tag no_values 0 (trim_start rest))
      (ap (λ (l : List Located). read l (fields_at offset tag no_values 0 l)) (sym trimmed) ∙ got)
