-- The first fault that is met is the one that a rule is refused by.
use Rattle.std.proofs.Common.{◌≡◌, ℕ, ◌+◌, Bool, true, false, cond, ◌||◌, List, [], ◌∷◌, ◌++◌, drop, Result, Ok, Err, refl, sym, ap, ◌∙◌, eq-eqb, eqb}
use Rattle.std.proofs.lemmas.Bool.{false≢true}
use Rattle.std.proofs.lemmas.List.{drop-drop}
use Rattle.lic_ere.specs.Located.{Located, further}
use Rattle.lic_elements.specs.declared.rule.tag.Tag.{Tag}
use Rattle.lic_elements.specs.declared.fault.MarkupFault.{MarkupFault}
use Rattle.lic_elements.specs.declared.fault.MarkupCause.TheVariants.{NotClosed, FieldMissing, NoEquals}
use Rattle.lic_elements.specs.Signs.{double_quote, semicolon, equals, greater, backslash}
use Rattle.lic_elements.specs.Texts.{text_of, offset_of, begins_with, begins_with_two, spaces, trim_end, trim_start}
use Rattle.lic_elements.specs.Faults.{fault_at, map_ok, ◌>>=◌}
use Rattle.lic_elements.specs.Rules.{Values, no_values, field_of, has_value, with_value, one_more, name_at, quoted_at, plain_at, value_at, field_at, fields_at, Rule, rule_of, rule_at}
use Rattle.lic_elements.specs.Markup.{UpTo, IsTag, ends_field, ends_name, ends_quote}
use Rattle.lic_elements.specs.RuleFaults.{Nowhere, is_second, AreSoundFields, none, empty, further as one_further, IsOpenValue, quoted, plain, IsFieldFault, open_name, no_equals, twice, open_value, IsFaultAfter, not_closed, in_field, missing, IsRuleFault, at_fault}
use Rattle.lic_elements.proofs.RuleLemmas.{read, name-refused, name-continues, name-open, quoted-continues, quoted-open, plain-continues, plain-open}
use Rattle.lic_elements.proofs.FieldLemmas.{fields_of, fields-end, fields_turn, fields_fail, fields-refused, fields-open}
use Rattle.lic_elements.proofs.Spelled.{got, not_here, past, ends_from, value_by, value_is, name_read, neither, read_was}
use Rattle.lic_elements.proofs.RuleSpelled.{value_then, meaning, field_is, none_read, some_read, not_two_signs, rule_then, rule_is}
use Rattle.lic_elements.proofs.RuleFaultSpelled.{failed, same_fault, view_failed, nowhere-here, nowhere-past, HeldFor, held_none, held_on, second_is, lacks}

-- ---- names

module _ (rule start : ℕ) where
  name_open : (cs : List Located) → Nowhere ends_name cs → name_at rule start cs ≡ Err (fault_at rule NotClosed)
  name_open [] n = name-open rule start [] refl
  name_open (x ∷ cs) n =
      let no = neither (begins_with equals (x ∷ cs)) (ends_field (x ∷ cs)) (nowhere-here ends_name x cs n) in
      name-continues rule start (x ∷ cs) x cs refl no.0 no.1 ∙ ap (map_ok (one_more x)) (name_open cs (nowhere-past ends_name x cs n))

  name_unequal : (front cs rest : List Located) → UpTo ends_name cs front rest → begins_with equals rest ≡ false
      → name_at rule start cs ≡ Err (fault_at start NoEquals)
  name_unequal [] cs [] up other = absurd (false≢true up.here)
  name_unequal [] cs (y ∷ rest) up other =
      ap (name_at rule start) up.parts
      ∙ name-refused rule start (y ∷ rest) y rest refl other (sym (ap (λ b. b || ends_field (y ∷ rest)) other) ∙ up.here)
  name_unequal (x ∷ front) cs rest up unequal =
      let l : List Located = front ++ rest in
      let no = neither (begins_with equals (x ∷ l)) (ends_field (x ∷ l)) (not_here ends_name x cs front rest up) in
      ap (name_at rule start) up.parts
      ∙ name-continues rule start (x ∷ l) x l refl no.0 no.1
      ∙ ap (map_ok (one_more x)) (name_unequal front l rest (past ends_name x cs front rest up) unequal)

-- ---- values

module _ (rule : ℕ) where
  quoted_open : (cs : List Located) → Nowhere ends_quote cs → quoted_at rule cs ≡ Err (fault_at rule NotClosed)
  quoted_open [] n = quoted-open rule [] refl
  quoted_open (x ∷ cs) n =
      quoted-continues rule (x ∷ cs) x cs refl (nowhere-here ends_quote x cs n)
      ∙ ap (map_ok (one_more x)) (quoted_open cs (nowhere-past ends_quote x cs n))

  plain_open : (escaped : Bool) (cs : List Located) → Nowhere (ends_from rule escaped) cs → plain_at rule escaped cs ≡ Err (fault_at rule NotClosed)
  plain_open escaped [] n = plain-open rule escaped [] refl
  plain_open escaped (x ∷ cs) n =
      plain-continues rule escaped (x ∷ cs) x cs refl (nowhere-here (ends_from rule escaped) x cs n)
      ∙ ap (map_ok (one_more x)) (plain_open (eqb x.1 backslash) cs (nowhere-past (ends_from rule escaped) x cs n))

  value_open : {cs : List Located} → IsOpenValue cs → value_at rule cs ≡ Err (fault_at rule NotClosed)
  value_open (quoted {quote = x} {cs = cs} is n) =
      value_is rule (x ∷ cs) ∙ ap (λ b. value_by rule b (x ∷ cs)) (eq-eqb x.1 double_quote is) ∙ ap (map_ok (further 1)) (quoted_open cs n)
  value_open (plain {cs = cs} is n) =
      value_is rule cs ∙ ap (λ b. value_by rule b cs) is
      ∙ ap (map_ok {A = List Located × ℕ} (λ v. (trim_end v.0, v.1))) (plain_open false cs n)

-- ---- fields

module _ (rule : ℕ) (tag : Tag) (values : Values) (names : List (List ℕ)) (held : HeldFor tag values names) where
  -- a field whose name was read, and is a second one or not
  named : (cs name following : List Located) (sign : Located) (t : Bool) → UpTo ends_name cs name (sign ∷ following)
      → sign.1 ≡ equals → is_second tag (text_of (trim_end name)) names ≡ t
      → (k : ℕ) × (drop k cs ≡ following)
      × (field_at rule (offset_of cs) tag values cs
      ≡ value_then rule (offset_of cs) tag values cs t (meaning rule (offset_of cs) tag values (name, k)) (name, k))
  named cs name following sign t up is second =
      let first = read_was cs (name_at rule (offset_of cs) cs) name following (name_read rule (offset_of cs) name sign cs following up is) in (
        first.0,
        first.2,
        field_is rule (offset_of cs) tag values cs
            ∙ ap (λ (r : Result (List Located × ℕ) MarkupFault). r >>= λ name.
            value_then rule (offset_of cs) tag values cs
            (has_value (meaning rule (offset_of cs) tag values name) values)
            (meaning rule (offset_of cs) tag values name) name) first.1
            ∙ ap (λ b. value_then rule (offset_of cs) tag values cs b (meaning rule (offset_of cs) tag values (name, first.0)) (name, first.0))
            (second_is values (text_of (trim_end name)) names tag held ∙ second),
      )

  field_refused : (cs : List Located) {e : MarkupFault} → IsFieldFault rule tag names cs e → field_at rule (offset_of cs) tag values cs ≡ Err e
  field_refused cs (open_name n) =
      field_is rule (offset_of cs) tag values cs
      ∙ ap (λ (r : Result (List Located × ℕ) MarkupFault). r >>= λ name.
      value_then rule (offset_of cs) tag values cs
      (has_value (meaning rule (offset_of cs) tag values name) values)
      (meaning rule (offset_of cs) tag values name) name) (name_open rule (offset_of cs) cs n)
  field_refused cs (no_equals {name = name} {rest = rest} up other) =
      field_is rule (offset_of cs) tag values cs
      ∙ ap (λ (r : Result (List Located × ℕ) MarkupFault). r >>= λ name.
      value_then rule (offset_of cs) tag values cs
      (has_value (meaning rule (offset_of cs) tag values name) values)
      (meaning rule (offset_of cs) tag values name) name) (name_unequal rule (offset_of cs) name cs rest up other)
  field_refused cs (twice {name = name} {following = following} {sign = sign} up is second) = (named cs name following sign true up is second).2
  field_refused cs (open_value {name = name} {following = following} {sign = sign} up is second value) =
      let was = named cs name following sign false up is second in
      was.2
      ∙ ap (map_ok {A = List Located × ℕ} (λ value. (
        with_value (meaning rule (offset_of cs) tag values (name, was.0)) value.0 values,
        was.0 + (spaces (drop was.0 cs) + value.1),
      ))) (ap (λ (l : List Located). value_at rule (trim_start l)) was.1 ∙ value_open rule value)

-- ---- all fields of a rule

module _ (rule : ℕ) (tag : Tag) where
  -- after sound fields the values are those of these fields
  sound_read : (start : List Located) {here : List Located} {names : List (List ℕ)} → AreSoundFields tag start here names
      → (values : Values) × HeldFor tag values names × (fields_of rule tag no_values start ≡ fields_of rule tag values here)
  sound_read start none = (no_values, held_none tag, refl)
  sound_read start (empty {x = x} {rest = rest} {names = names} sound is ends) =
      let was = sound_read start sound in (
        was.0,
        was.1,
        was.2 ∙ sym (fields_turn rule tag was.0 x rest (x ∷ rest) (trim_start rest) was.0 (trim_start rest)
            (fields_of rule tag was.0 (x ∷ rest)) refl refl (not_two_signs rule tag x rest is) (eq-eqb x.1 semicolon is)
            (none_read rule tag was.0 (trim_start rest) ends) refl),
      )
  sound_read start (one_further {x = x} {rest = rest} {more = more} {value = value} {name = name} {names = names} sound is continues spelled second) =
      let was = sound_read start sound in
      let now : Values = with_value (field_of tag name) value was.0 in (
        now,
        held_on was.0 name value names tag was.1,
        was.2 ∙ sym (fields_turn rule tag was.0 x rest (x ∷ rest) (trim_start rest) now more
            (fields_of rule tag was.0 (x ∷ rest)) refl refl (not_two_signs rule tag x rest is) (eq-eqb x.1 semicolon is)
            (some_read rule tag was.0 (trim_start rest) more value name continues spelled
            (second_is was.0 name names tag was.1 ∙ second)) refl),
      )

-- ---- rules

-- the rule that is made of the fields
abbrev made : ℕ → Tag → Result (Values × List Located) MarkupFault → Result (Rule × List Located) MarkupFault
made offset tag r = r >>= λ y. map_ok (λ rule. (rule, y.1)) (rule_of offset tag y.0)

made_is : (offset : ℕ) (tag : Tag) (following : List Located)
    → read following (rule_at offset tag following) ≡ made offset tag (fields_of offset tag no_values (trim_start following))
made_is offset tag following = ap (read following) (rule_is offset tag following) ∙ by (fields_at offset tag no_values 0 (trim_start following))
  where
    of_rule : (y : Values × ℕ) (m : Result Rule MarkupFault)
        → read following (map_ok (λ rule. (rule, spaces following + y.1)) m) ≡ map_ok (λ rule. (rule, drop y.1 (trim_start following))) m
    of_rule y (Ok r) = ap (λ (l : List Located). got r l) (sym (drop-drop y.1 (spaces following) following))
    of_rule y (Err e) = refl

    by : (r : Result (Values × ℕ) MarkupFault)
        → read following (r >>= rule_then offset tag following) ≡ made offset tag (read (trim_start following) r)
    by (Ok y) = of_rule y (rule_of offset tag y.0)
    by (Err e) = refl

module _ (offset : ℕ) (tag : Tag) (values : Values) (names : List (List ℕ)) (held : HeldFor tag values names) where
  not_closed_here : (cs : List Located) → ends_field cs ≡ false → fields_of offset tag values cs ≡ Err (fault_at offset NotClosed)
  not_closed_here [] h = fields-open offset tag values [] refl
  not_closed_here (x ∷ cs) h =
      let no = neither (begins_with semicolon (x ∷ cs)) (begins_with_two greater (x ∷ cs)) h in
      fields-refused offset tag values (x ∷ cs) x cs refl no.1 no.0

  field_here : (x : Located) (cs : List Located) {e : MarkupFault} → x.1 ≡ semicolon → (front : List Located)
      → front ≡ trim_start cs → ends_field front ≡ false → IsFieldFault offset tag names front e
      → fields_of offset tag values (x ∷ cs) ≡ Err e
  field_here x cs {e = e} is [] at continues fault =
      let only : fault_at offset NotClosed ≡ e =
      same_fault {A = Values × ℕ} _ e (sym (none_there values) ∙ field_refused offset tag values names held [] fault) in
      sym (fields_turn offset tag values x cs (x ∷ cs) [] values [] (fields_of offset tag values (x ∷ cs)) refl at
      (not_two_signs offset tag x cs is) (eq-eqb x.1 semicolon is) refl refl)
      ∙ fields-open offset tag values [] refl ∙ ap (λ (d : MarkupFault). failed d) only
    where
      none_there : (values : Values) → field_at offset 0 tag values [] ≡ failed (fault_at offset NotClosed)
      none_there values =
          field_is offset 0 tag values []
          ∙ ap (λ (r : Result (List Located × ℕ) MarkupFault). r >>= λ name.
          value_then offset 0 tag values [] (has_value (meaning offset 0 tag values name) values)
          (meaning offset 0 tag values name) name) (name-open offset 0 [] refl)
  field_here x cs {e = e} is (z ∷ zs) at continues fault =
      fields_fail offset tag values x cs (x ∷ cs) (z ∷ zs) e refl at (not_two_signs offset tag x cs is)
      (eq-eqb x.1 semicolon is)
      (ap (λ b. read (z ∷ zs) (cond b (Ok (values, 0)) (field_at offset z.0 tag values (z ∷ zs)))) continues
      ∙ ap (read (z ∷ zs)) (field_refused offset tag values names held (z ∷ zs) fault))

  missing_here : (cs : List Located) → begins_with_two greater cs ≡ true
      → rule_of offset tag values ≡ Err (fault_at offset FieldMissing)
      → made offset tag (fields_of offset tag values cs) ≡ Err (fault_at offset FieldMissing)
  missing_here [] ends lacking = absurd (false≢true ends)
  missing_here (x ∷ cs) ends lacking =
      ap (made offset tag) (fields-end offset tag values (x ∷ cs) x cs refl ends)
      ∙ ap (map_ok {A = Rule} (λ rule. (rule, drop 2 (x ∷ cs)))) lacking

  fault_refused : {cs : List Located} {e : MarkupFault} → IsFaultAfter offset tag names cs e
      → made offset tag (fields_of offset tag values cs) ≡ Err e
  fault_refused (not_closed {cs = cs} h) = ap (made offset tag) (not_closed_here cs h)
  fault_refused (in_field {x = x} {cs = cs} is continues fault) = ap (made offset tag) (field_here x cs is (trim_start cs) refl continues fault)
  fault_refused (missing {cs = cs} name ends some absent) = missing_here cs ends (lacks offset names tag values name held some absent)

-- a rule at fault, and where it is refused
pub record WasRefused (cs : List Located) (e : MarkupFault) : Type 0 where
  pub tag : Tag
  pub following : List Located
  pub is : IsTag cs following tag
  pub refuses : rule_at (offset_of cs) tag following ≡ Err e

-- a rule at fault is refused by its fault
pub rule_refused : {cs : List Located} {e : MarkupFault} → IsRuleFault cs e → WasRefused cs e
rule_refused {cs = cs} {e = e} (at_fault {following = following} {rest = rest} {tag = tag} {names = names} is sound fault) =
    let was = sound_read (offset_of cs) tag (trim_start following) sound in
    record {
      tag = tag;
      following = following;
      is = is;
      refuses =
          view_failed (λ (y : Rule × ℕ). (y.0, drop y.1 following)) (rule_at (offset_of cs) tag following) e
          (made_is (offset_of cs) tag following ∙ ap (made (offset_of cs) tag) was.2
          ∙ fault_refused (offset_of cs) tag was.0 names was.1 fault);
    }
