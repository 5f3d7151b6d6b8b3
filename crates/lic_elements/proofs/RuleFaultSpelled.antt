-- The fault that a rule is refused by is the first that is met.
use Rattle.std.proofs.Common.{◌≡◌, ℕ, zero, suc, ◌+◌, ◌≤◌, Bool, true, false, cond, ◌&&◌, ◌||◌, List, [], ◌∷◌, ◌++◌, length, drop, Option, Some, None, Result, Ok, Err, refl, sym, ap, ap₂, subst, ◌∙◌, arith, eqb}
use Rattle.std.specs.Prelude.{codes}
use Rattle.std.specs.Option.{is_some}
use Rattle.std.specs.Str.{bytes_eq}
use Rattle.std.proofs.lemmas.Bool.{eqb-true, false≢true}
use Rattle.std.proofs.lemmas.Slice.Eq.{bytes_eq-Decides}
use Rattle.lic_ere.specs.Located.{Located, further}
use Rattle.lic_elements.specs.declared.rule.tag.Tag.{Tag}
use Rattle.lic_elements.specs.declared.rule.tag.Tag.TheVariants.{Var, BeginOptional, EndOptional}
use Rattle.lic_elements.specs.declared.fault.MarkupFault.{MarkupFault}
use Rattle.lic_elements.specs.declared.fault.MarkupCause.TheVariants.{NotClosed, FieldMissing, NoEquals}
use Rattle.lic_elements.specs.Signs.{double_quote, semicolon, equals, greater, backslash}
use Rattle.lic_elements.specs.Texts.{text_of, offset_of, begins_with, begins_with_two, spaces, trim_end, trim_start}
use Rattle.lic_elements.specs.Faults.{fault_at, map_ok, ◌>>=◌}
use Rattle.lic_elements.specs.Rules.{Values, no_values, field_of, has_value, with_value, at_end, ends_quoted, ends_plain, one_more, name_at, quoted_at, plain_at, value_at, field_at, field_or_none, fields_at, variable, begin, finish, complete, rule_of, rule_at}
use Rattle.lic_elements.specs.Markup.{UpTo, IsTag, IsField, ends_field, ends_name, ends_quote}
use Rattle.lic_elements.specs.RuleFaults.{Nowhere, needed, is_among, is_second, AreSoundFields, none, empty, further as one_further, IsOpenValue, quoted, plain, IsFieldFault, open_name, no_equals, twice, open_value, IsFaultAfter, not_closed, in_field, missing, IsRuleFault, at_fault}
use Rattle.lic_elements.proofs.RuleLemmas.{read, name-ends, name-refused, name-continues, name-open, quoted-ends, quoted-continues, quoted-open, plain-ends, plain-continues, plain-open}
use Rattle.lic_elements.proofs.FieldLemmas.{read-shorter, fields_of, fields-end, fields_turn, fields_fail, fields-refused, fields-open, trim_start-shorter}
use Rattle.lic_elements.proofs.Spelled.{empty_no, head_same, tail_same, here_at, later, ends_from, value_by, value_is, name_spelled}
use Rattle.lic_elements.proofs.RuleSpelled.{value_then, meaning, field_is, field_spelled, other_word, meant_by, none_read, rule_then, rule_is}

-- ---- readings that fail

abbrev pub failed : {A : Type 0} → MarkupFault → Result A MarkupFault
failed e = Err e

pub same_fault : {A : Type 0} (d e : MarkupFault) → failed {A = A} d ≡ failed e → d ≡ e
same_fault {A = A} d e h = ap (λ (o : Result A MarkupFault). elim o [ Ok x ↦ d | Err f ↦ f ]) h

pub not_failed : {A B : Type 0} (x : A) (e : MarkupFault) → Ok x ≡ failed e → B
not_failed x e h = absurd (never h)
  where
    never : Ok x ≡ failed e → ⊥
    never h = cc

-- what is viewed fails as the view does
pub view_failed : {A B : Type 0} (f : A → B) (r : Result A MarkupFault) (e : MarkupFault) → map_ok f r ≡ failed e → r ≡ failed e
view_failed f (Ok x) e h = not_failed (f x) e h
view_failed f (Err d) e h = ap (λ (d : MarkupFault). failed d) (same_fault d e h)

-- ---- what occurs nowhere

pub nowhere-nil : (holds : List Located → List Located → Bool) → Nowhere holds []
nowhere-nil holds = record { never = λ before x after e. absurd (empty_no before x after e) }

nowhere-first : (holds : List Located → List Located → Bool) (x : Located) (cs : List Located)
    → holds [] (x ∷ cs) ≡ false → Nowhere (λ before. holds (x ∷ before)) cs
    → (before : List Located) (y : Located) (after : List Located) → x ∷ cs ≡ before ++ y ∷ after → holds before (y ∷ after) ≡ false
nowhere-first holds x cs here more [] y after e = ap (λ (l : List Located). holds [] l) (sym e) ∙ here
nowhere-first holds x cs here more (z ∷ before) y after e =
    ap (λ (w : Located). holds (w ∷ before) (y ∷ after)) (sym (head_same x z cs (before ++ y ∷ after) e))
    ∙ more.never before y after (tail_same x z cs (before ++ y ∷ after) e)

pub nowhere-cons : (holds : List Located → List Located → Bool) (x : Located) (cs : List Located)
    → holds [] (x ∷ cs) ≡ false → Nowhere (λ before. holds (x ∷ before)) cs → Nowhere holds (x ∷ cs)
nowhere-cons holds x cs here more = record { never = nowhere-first holds x cs here more }

pub nowhere-here : (holds : List Located → List Located → Bool) (x : Located) (cs : List Located) → Nowhere holds (x ∷ cs) → holds [] (x ∷ cs) ≡ false
nowhere-here holds x cs n = n.never [] x cs refl

pub nowhere-past : (holds : List Located → List Located → Bool) (x : Located) (cs : List Located)
    → Nowhere holds (x ∷ cs) → Nowhere (λ before. holds (x ∷ before)) cs
nowhere-past holds x cs n = record { never = λ before y after e. n.never (x ∷ before) y after (ap (λ l. x ∷ l) e) }

-- ---- names

module _ (rule start : ℕ) where
  -- what is wrong with a name in a field that begins at `start`
  data NameFault (cs : List Located) : MarkupFault → Type 0 where
    unended : Nowhere ends_name cs → NameFault cs (fault_at rule NotClosed)
    unequal : {name rest : List Located} → UpTo ends_name cs name rest → begins_with equals rest ≡ false
        → NameFault cs (fault_at start NoEquals)

  name_later : (x : Located) (cs : List Located) {e : MarkupFault} → ends_name [] (x ∷ cs) ≡ false → NameFault cs e → NameFault (x ∷ cs) e
  name_later x cs on (unended n) = unended (nowhere-cons ends_name x cs on n)
  name_later x cs on (unequal {name = name} {rest = rest} up other) = unequal (later ends_name x cs name rest on up) other

  name_by : (x : Located) (cs : List Located) (e : MarkupFault) (t u : Bool) → begins_with equals (x ∷ cs) ≡ t → at_end (x ∷ cs) ≡ u
      → (name_at rule start cs ≡ failed e → NameFault cs e) → name_at rule start (x ∷ cs) ≡ failed e → NameFault (x ∷ cs) e
  name_by x cs e true u one two others h = not_failed ([], 1) e (sym (name-ends rule start (x ∷ cs) x cs refl one) ∙ h)
  name_by x cs e false true one two others h =
      subst (NameFault (x ∷ cs)) (same_fault _ e (sym (name-refused rule start (x ∷ cs) x cs refl one two) ∙ h))
      (unequal (here_at ends_name (x ∷ cs) (ap (λ b. b || ends_field (x ∷ cs)) one ∙ two)) one)
  name_by x cs e false false one two others h =
      name_later x cs (ap (λ b. b || ends_field (x ∷ cs)) one ∙ two)
      (others (view_failed (one_more x) (name_at rule start cs) e
      (sym (name-continues rule start (x ∷ cs) x cs refl one two) ∙ h)))

  name_faulty : (cs : List Located) (e : MarkupFault) → name_at rule start cs ≡ failed e → NameFault cs e
  name_faulty [] e h = subst (NameFault []) (same_fault _ e (sym (name-open rule start [] refl) ∙ h)) (unended (nowhere-nil ends_name))
  name_faulty (x ∷ cs) e h = name_by x cs e (begins_with equals (x ∷ cs)) (at_end (x ∷ cs)) refl refl (λ h. name_faulty cs e h) h

-- ---- values

module _ (rule : ℕ) (e : MarkupFault) where
  -- the rule is not closed, since nothing here ends its value
  abbrev NotEnded : Type 0 → Type 0
  NotEnded A = (fault_at rule NotClosed ≡ e) × A

  quoted_by : (x : Located) (cs : List Located) (t : Bool) → ends_quoted (x ∷ cs) ≡ t
      → (quoted_at rule cs ≡ failed e → NotEnded (Nowhere ends_quote cs)) → quoted_at rule (x ∷ cs) ≡ failed e → NotEnded (Nowhere ends_quote (x ∷ cs))
  quoted_by x cs true one others h = not_failed ([], 1) e (sym (quoted-ends rule (x ∷ cs) x cs refl one) ∙ h)
  quoted_by x cs false one others h =
      let more = others (view_failed (one_more x) (quoted_at rule cs) e
      (sym (quoted-continues rule (x ∷ cs) x cs refl one) ∙ h)) in
      (more.0, nowhere-cons ends_quote x cs one more.1)

  quoted_faulty : (cs : List Located) → quoted_at rule cs ≡ failed e → NotEnded (Nowhere ends_quote cs)
  quoted_faulty [] h = (same_fault _ e (sym (quoted-open rule [] refl) ∙ h), nowhere-nil ends_quote)
  quoted_faulty (x ∷ cs) h = quoted_by x cs (ends_quoted (x ∷ cs)) refl (quoted_faulty cs) h

  plain_by : (escaped : Bool) (x : Located) (cs : List Located) (t : Bool) → ends_plain escaped (x ∷ cs) ≡ t
      → (plain_at rule (eqb x.1 backslash) cs ≡ failed e → NotEnded (Nowhere (ends_from rule (eqb x.1 backslash)) cs))
      → plain_at rule escaped (x ∷ cs) ≡ failed e → NotEnded (Nowhere (ends_from rule escaped) (x ∷ cs))
  plain_by escaped x cs true one others h = not_failed ([], 0) e (sym (plain-ends rule escaped (x ∷ cs) x cs refl one) ∙ h)
  plain_by escaped x cs false one others h =
      let more = others (view_failed (one_more x) (plain_at rule (eqb x.1 backslash) cs) e
      (sym (plain-continues rule escaped (x ∷ cs) x cs refl one) ∙ h)) in
      (more.0, nowhere-cons (ends_from rule escaped) x cs one more.1)

  plain_faulty : (escaped : Bool) (cs : List Located) → plain_at rule escaped cs ≡ failed e → NotEnded (Nowhere (ends_from rule escaped) cs)
  plain_faulty escaped [] h = (same_fault _ e (sym (plain-open rule escaped [] refl) ∙ h), nowhere-nil (ends_from rule escaped))
  plain_faulty escaped (x ∷ cs) h = plain_by escaped x cs (ends_plain escaped (x ∷ cs)) refl (plain_faulty (eqb x.1 backslash) cs) h

  value_fault_by : (cs : List Located) (t : Bool) → begins_with double_quote cs ≡ t → value_by rule t cs ≡ failed e → NotEnded (IsOpenValue cs)
  value_fault_by [] true one h = absurd cc
  value_fault_by (x ∷ cs) true one h =
      let more = quoted_faulty cs (view_failed (further 1) (quoted_at rule cs) e h) in
      (more.0, quoted (eqb-true _ _ one) more.1)
  value_fault_by cs false one h =
      let more = plain_faulty false cs (view_failed (λ v. (trim_end v.0, v.1)) (plain_at rule false cs) e h) in
      (more.0, plain one more.1)

  value_faulty : (cs : List Located) → value_at rule cs ≡ failed e → NotEnded (IsOpenValue cs)
  value_faulty cs h = value_fault_by cs (begins_with double_quote cs) refl (sym (value_is rule cs) ∙ h)

-- ---- which fields were read

-- the values of a variable were read from fields of these names
pub record Held (values : Values) (names : List (List ℕ)) : Type 0 where
  pub name : is_some values.name ≡ is_among (codes "name") names
  pub original : is_some values.original ≡ is_among (codes "original") names
  pub pattern : is_some values.pattern ≡ is_among (codes "match") names

pub HeldFor : Tag → Values → List (List ℕ) → Type 0
HeldFor Var values names = Held values names
HeldFor BeginOptional values names = Unit {0}
HeldFor EndOptional values names = Unit {0}

pub held_none : (tag : Tag) → HeldFor tag no_values []
unfolding HeldFor
held_none Var = record { name = refl; original = refl; pattern = refl }
held_none BeginOptional = tt
held_none EndOptional = tt

-- the same texts, the other way round
turned_true : (a b : List ℕ) → bytes_eq a b ≡ true → bytes_eq b a ≡ true
turned_true a b h =
    let same : a ≡ b = (bytes_eq-Decides a b).0 h in
    ap (λ (l : List ℕ). bytes_eq l a) (sym same) ∙ ap (λ (l : List ℕ). bytes_eq a l) same ∙ h

turned_false : (a b : List ℕ) (t : Bool) → bytes_eq b a ≡ t → bytes_eq a b ≡ false → bytes_eq b a ≡ false
turned_false a b false is h = is
turned_false a b true is h = absurd (false≢true (sym h ∙ turned_true b a is))

module _ (values : Values) (word : List ℕ) (value : List Located) (names : List (List ℕ)) where
  not_it : (of : List ℕ) (t : Bool) → t ≡ is_among of names → bytes_eq word of ≡ false → t ≡ is_among of (word ∷ names)
  not_it of t h differ = h ∙ sym (ap (λ b. b || is_among of names) (turned_false word of (bytes_eq of word) refl differ))

  it : (of : List ℕ) → bytes_eq word of ≡ true → true ≡ is_among of (word ∷ names)
  it of same = sym (ap (λ b. b || is_among of names) (turned_true word of same))

  held_by : (b1 b2 b3 : Bool) → bytes_eq word (codes "name") ≡ b1 → bytes_eq word (codes "original") ≡ b2 → bytes_eq word (codes "match") ≡ b3
      → Held values names → Held (with_value (meant_by b1 b2 b3) value values) (word ∷ names)
  held_by true b2 b3 h1 h2 h3 held =
      record {
        name = it (codes "name") h1;
        original = not_it (codes "original") _ held.original (other_word word (codes "name") (codes "original") refl h1);
        pattern = not_it (codes "match") _ held.pattern (other_word word (codes "name") (codes "match") refl h1);
      }
  held_by false true b3 h1 h2 h3 held =
      record {
        name = not_it (codes "name") _ held.name h1;
        original = it (codes "original") h2;
        pattern = not_it (codes "match") _ held.pattern (other_word word (codes "original") (codes "match") refl h2);
      }
  held_by false false true h1 h2 h3 held =
      record {
        name = not_it (codes "name") _ held.name h1;
        original = not_it (codes "original") _ held.original h2;
        pattern = it (codes "match") h3;
      }
  held_by false false false h1 h2 h3 held =
      record {
        name = not_it (codes "name") _ held.name h1;
        original = not_it (codes "original") _ held.original h2;
        pattern = not_it (codes "match") _ held.pattern h3;
      }

  pub held_on : (tag : Tag) → HeldFor tag values names → HeldFor tag (with_value (field_of tag word) value values) (word ∷ names)
  unfolding HeldFor
  held_on Var held = held_by (bytes_eq word (codes "name")) (bytes_eq word (codes "original")) (bytes_eq word (codes "match")) refl refl refl held
  held_on BeginOptional held = tt
  held_on EndOptional held = tt

module _ (values : Values) (word : List ℕ) (names : List (List ℕ)) where
  same_among : (of : List ℕ) (t : Bool) → t ≡ is_among of names → bytes_eq word of ≡ true → t ≡ is_among word names
  same_among of t h same = h ∙ ap (λ (l : List ℕ). is_among l names) (sym ((bytes_eq-Decides word of).0 same))

  second_by : (b1 b2 b3 : Bool) → bytes_eq word (codes "name") ≡ b1 → bytes_eq word (codes "original") ≡ b2 → bytes_eq word (codes "match") ≡ b3
      → Held values names → has_value (meant_by b1 b2 b3) values ≡ ((b1 || (b2 || (b3 || false))) && is_among word names)
  second_by true b2 b3 h1 h2 h3 held = same_among (codes "name") _ held.name h1
  second_by false true b3 h1 h2 h3 held = same_among (codes "original") _ held.original h2
  second_by false false true h1 h2 h3 held = same_among (codes "match") _ held.pattern h3
  second_by false false false h1 h2 h3 held = refl

  pub second_is : (tag : Tag) → HeldFor tag values names → has_value (field_of tag word) values ≡ is_second tag word names
  unfolding HeldFor
  second_is Var held = second_by (bytes_eq word (codes "name")) (bytes_eq word (codes "original")) (bytes_eq word (codes "match")) refl refl refl held
  second_is BeginOptional held = refl
  second_is EndOptional held = refl

-- ---- fields

module _ (rule : ℕ) (tag : Tag) (values : Values) (names : List (List ℕ)) (held : HeldFor tag values names) where
  abbrev Faulty : List Located → MarkupFault → Type 0
  Faulty cs e = IsFieldFault rule tag names cs e

  -- a field whose name cannot be read
  name_fault : (cs : List Located) (e : MarkupFault) → NameFault rule (offset_of cs) cs e → Faulty cs e
  name_fault cs e (unended n) = open_name n
  name_fault cs e (unequal up other) = no_equals up other

  twice_by : (cs : List Located) (e : MarkupFault) (name : List Located × ℕ) (sign : Located)
      → UpTo ends_name cs name.0 (sign ∷ drop name.1 cs) → sign.1 ≡ equals → (t : Bool)
      → has_value (meaning rule (offset_of cs) tag values name) values ≡ t
      → value_then rule (offset_of cs) tag values cs t (meaning rule (offset_of cs) tag values name) name ≡ failed e
      → Faulty cs e
  twice_by cs e name sign up is true t h =
      subst (Faulty cs) (same_fault _ e h) (twice up is (sym (second_is values (text_of (trim_end name.0)) names tag held) ∙ t))
  twice_by cs e name sign up is false t h =
      let more = value_faulty rule e (trim_start (drop name.1 cs))
      (view_failed (λ value. (
        with_value (meaning rule (offset_of cs) tag values name) value.0 values,
        name.1 + (spaces (drop name.1 cs) + value.1),
      )) (value_at rule (trim_start (drop name.1 cs))) e h) in
      subst (Faulty cs) more.0
      (open_value up is (sym (second_is values (text_of (trim_end name.0)) names tag held) ∙ t) more.1)

  field_by : (cs : List Located) (e : MarkupFault) (r : Result (List Located × ℕ) MarkupFault)
      → name_at rule (offset_of cs) cs ≡ r
      → (r >>= λ name. value_then rule (offset_of cs) tag values cs
      (has_value (meaning rule (offset_of cs) tag values name) values)
      (meaning rule (offset_of cs) tag values name) name) ≡ failed e
      → Faulty cs e
  field_by cs e (Err d) was h =
      name_fault cs e (name_faulty rule (offset_of cs) cs e (was ∙ ap (λ (d : MarkupFault). failed d) (same_fault d e h)))
  field_by cs e (Ok name) was h =
      let up = name_spelled rule (offset_of cs) cs name.0 (drop name.1 cs) (ap (read cs) was) in
      twice_by cs e name up.0 up.1 up.2 (has_value (meaning rule (offset_of cs) tag values name) values) refl h

  field_faulty : (cs : List Located) (e : MarkupFault) → field_at rule (offset_of cs) tag values cs ≡ failed e → Faulty cs e
  field_faulty cs e h = field_by cs e (name_at rule (offset_of cs) cs) refl (sym (field_is rule (offset_of cs) tag values cs) ∙ h)

-- ---- all fields of a rule

module _ (rule : ℕ) (tag : Tag) (start : List Located) where
  -- the fields that were read, after which the rule ends or is at fault
  abbrev pub Outcome : Result (Values × List Located) MarkupFault → Type 0
  Outcome (Ok y) =
      (here : List Located) × (names : List (List ℕ)) × AreSoundFields tag start here names
      × (begins_with_two greater here ≡ true) × HeldFor tag y.0 names
  Outcome (Err e) =
      (here : List Located) × (names : List (List ℕ)) × AreSoundFields tag start here names
      × IsFaultAfter rule tag names here e

  abbrev Spelled : ℕ → Type 0
  Spelled n = (values : Values) (names : List (List ℕ)) (cs : List Located) → length cs ≤ n
      → AreSoundFields tag start cs names → HeldFor tag values names → Outcome (fields_of rule tag values cs)

  module _ (n : ℕ) (others : Spelled n) (values : Values) (names : List (List ℕ)) (x : Located) (after : List Located)
      (long : length (x ∷ after) ≤ suc n) (sound : AreSoundFields tag start (x ∷ after) names)
      (held : HeldFor tag values names) (one : begins_with_two greater (x ∷ after) ≡ false)
      (two : begins_with semicolon (x ∷ after) ≡ true) where
    -- a field, or none, was read
    go_on : (front : List Located) → trim_start after ≡ front → (more : Values) (following : List Located)
        (now : List (List ℕ)) → read front (field_or_none rule tag values front) ≡ Ok (more, following)
        → length following ≤ length front
        → AreSoundFields tag start following now → HeldFor tag more now → Outcome (fields_of rule tag values (x ∷ after))
    go_on front at more following now gave shorter sound held =
        let front_shorter : length front ≤ length after = trim_start-shorter after front (sym at) in
        subst Outcome (fields_turn rule tag values x after (x ∷ after) front more following
        (fields_of rule tag values (x ∷ after)) refl (sym at) one two gave refl)
        (others more now following (omega (arith, long, shorter, front_shorter)) sound held)

    -- the field is at fault
    stop : (front : List Located) → trim_start after ≡ front → (e : MarkupFault)
        → read front (field_or_none rule tag values front) ≡ Err e → ends_field front ≡ false
        → IsFieldFault rule tag names front e → Outcome (fields_of rule tag values (x ∷ after))
    stop front at e gave continues fault =
        subst Outcome (sym (fields_fail rule tag values x after (x ∷ after) front e refl (sym at) one two gave)) (
          x ∷ after,
          names,
          sound,
          in_field (eqb-true _ _ two) (ap ends_field at ∙ continues) (subst (λ l. IsFieldFault rule tag names l e) (sym at) fault),
        )

    field_by_reading : (z : Located) (zs : List Located) → trim_start after ≡ z ∷ zs → at_end (z ∷ zs) ≡ false
        → (r : Result (Values × ℕ) MarkupFault) → field_at rule z.0 tag values (z ∷ zs) ≡ r
        → Outcome (fields_of rule tag values (x ∷ after))
    field_by_reading z zs at continues r was = by r was gave
      where
        gave : read (z ∷ zs) (field_or_none rule tag values (z ∷ zs)) ≡ read (z ∷ zs) r
        gave = ap (λ b. read (z ∷ zs) (cond b (Ok (values, 0)) (field_at rule z.0 tag values (z ∷ zs)))) continues ∙ ap (read (z ∷ zs)) was

        by : (r : Result (Values × ℕ) MarkupFault) → field_at rule z.0 tag values (z ∷ zs) ≡ r
            → read (z ∷ zs) (field_or_none rule tag values (z ∷ zs)) ≡ read (z ∷ zs) r
            → Outcome (fields_of rule tag values (x ∷ after))
        by (Err e) was gave = stop (z ∷ zs) at e gave continues (field_faulty rule tag values names held (z ∷ zs) e was)
        by (Ok y) was gave =
            let following : List Located = drop y.1 (z ∷ zs) in
            let w = field_spelled rule z.0 tag values (z ∷ zs) following y.0 (ap (read (z ∷ zs)) was) in
            go_on (z ∷ zs) at y.0 following (w.name ∷ names) gave
            (read-shorter (z ∷ zs) (field_or_none rule tag values (z ∷ zs)) y.0 following gave)
            (one_further sound (eqb-true _ _ two) (ap ends_field at ∙ continues)
            (subst (λ l. IsField l following w.name w.value) (sym at) w.is) (sym (second_is values w.name names tag held) ∙ w.once))
            (subst (λ m. HeldFor tag m (w.name ∷ names)) w.gives (held_on values w.name w.value names tag held))

    field_outcome : (z : Located) (zs : List Located) → trim_start after ≡ z ∷ zs → (t : Bool) → at_end (z ∷ zs) ≡ t
        → Outcome (fields_of rule tag values (x ∷ after))
    field_outcome z zs at true ends =
        let as_long : length (z ∷ zs) ≤ length (z ∷ zs) = omega arith in
        go_on (z ∷ zs) at values (z ∷ zs) names (none_read rule tag values (z ∷ zs) ends) as_long
        (subst (λ l. AreSoundFields tag start l names) at (empty sound (eqb-true _ _ two) (ap ends_field at ∙ ends))) held
    field_outcome z zs at false continues = field_by_reading z zs at continues (field_at rule z.0 tag values (z ∷ zs)) refl

    front_outcome : (front : List Located) → trim_start after ≡ front → Outcome (fields_of rule tag values (x ∷ after))
    front_outcome [] at =
        subst Outcome (sym (fields-open rule tag values [] refl)
        ∙ fields_turn rule tag values x after (x ∷ after) [] values [] (fields_of rule tag values (x ∷ after)) refl
        (sym at) one two refl refl) (
          x ∷ after,
          names,
          sound,
          in_field (eqb-true _ _ two) (ap ends_field at) (open_name (subst (Nowhere ends_name) (sym at) (nowhere-nil ends_name))),
        )
    front_outcome (z ∷ zs) at = field_outcome z zs at (at_end (z ∷ zs)) refl

  signs_by : (n : ℕ) → Spelled n → (values : Values) (names : List (List ℕ)) (x : Located) (after : List Located)
      → length (x ∷ after) ≤ suc n → AreSoundFields tag start (x ∷ after) names → HeldFor tag values names
      → (t u : Bool) → begins_with_two greater (x ∷ after) ≡ t → begins_with semicolon (x ∷ after) ≡ u
      → Outcome (fields_of rule tag values (x ∷ after))
  signs_by n others values names x after long sound held true u one two =
      subst Outcome (sym (fields-end rule tag values (x ∷ after) x after refl one)) (x ∷ after, names, sound, one, held)
  signs_by n others values names x after long sound held false false one two =
      subst Outcome (sym (fields-refused rule tag values (x ∷ after) x after refl one two))
      (x ∷ after, names, sound, not_closed (ap₂ (λ (a b : Bool). a || b) two one))
  signs_by n others values names x after long sound held false true one two =
      front_outcome n others values names x after long sound held one two (trim_start after) refl

  outcome : (n : ℕ) → Spelled n
  outcome n values names [] long sound held =
      subst Outcome (sym (fields-open rule tag values [] refl)) ([], names, sound, not_closed refl)
  outcome zero values names (x ∷ after) long sound held = absurd (omega (arith, long))
  outcome (suc n) values names (x ∷ after) long sound held =
      signs_by n (outcome n) values names x after long sound held (begins_with_two greater (x ∷ after)) (begins_with semicolon (x ∷ after)) refl refl

-- ---- rules

module _ (offset : ℕ) (names : List (List ℕ)) where
  lacking_by : (e : MarkupFault) (cs : List Located) → begins_with_two greater cs ≡ true
      → (name original : Option (List ℕ)) (pattern : Option (ℕ × List ℕ)) → is_some name ≡ is_among (codes "name") names
      → is_some original ≡ is_among (codes "original") names → is_some pattern ≡ is_among (codes "match") names
      → complete offset name original pattern ≡ failed e → IsFaultAfter offset Var names cs e
  lacking_by e cs ends None original pattern h1 h2 h3 h =
      subst (IsFaultAfter offset Var names cs) (same_fault _ e h) (missing (codes "name") ends refl (sym h1))
  lacking_by e cs ends (Some n) None pattern h1 h2 h3 h =
      subst (IsFaultAfter offset Var names cs) (same_fault _ e h) (missing (codes "original") ends refl (sym h2))
  lacking_by e cs ends (Some n) (Some o) None h1 h2 h3 h =
      subst (IsFaultAfter offset Var names cs) (same_fault _ e h) (missing (codes "match") ends refl (sym h3))
  lacking_by e cs ends (Some n) (Some o) (Some p) h1 h2 h3 h = not_failed (variable n o p.0 p.1) e h

  -- what is wrong at the end of a rule
  lacking : (tag : Tag) (values : Values) (e : MarkupFault) (cs : List Located) → begins_with_two greater cs ≡ true
      → HeldFor tag values names → rule_of offset tag values ≡ failed e → IsFaultAfter offset tag names cs e
  unfolding HeldFor
  lacking Var values e cs ends held h = lacking_by e cs ends values.name values.original values.pattern held.name held.original held.pattern h
  lacking BeginOptional values e cs ends held h = not_failed (begin offset) e h
  lacking EndOptional values e cs ends held h = not_failed (finish offset) e h

  no_name : (name original : Option (List ℕ)) (pattern : Option (ℕ × List ℕ)) → is_some name ≡ false
      → complete offset name original pattern ≡ Err (fault_at offset FieldMissing)
  no_name None original pattern h = refl
  no_name (Some n) original pattern h = absurd cc

  no_original : (name original : Option (List ℕ)) (pattern : Option (ℕ × List ℕ)) → is_some original ≡ false
      → complete offset name original pattern ≡ Err (fault_at offset FieldMissing)
  no_original None original pattern h = refl
  no_original (Some n) None pattern h = refl
  no_original (Some n) (Some o) pattern h = absurd cc

  no_pattern : (name original : Option (List ℕ)) (pattern : Option (ℕ × List ℕ)) → is_some pattern ≡ false
      → complete offset name original pattern ≡ Err (fault_at offset FieldMissing)
  no_pattern None original pattern h = refl
  no_pattern (Some n) None pattern h = refl
  no_pattern (Some n) (Some o) None h = refl
  no_pattern (Some n) (Some o) (Some p) h = absurd cc

  none_of : (name of : List ℕ) (t : Bool) → bytes_eq name of ≡ true → is_among name names ≡ false → t ≡ is_among of names → t ≡ false
  none_of name of t same absent h = h ∙ ap (λ (l : List ℕ). is_among l names) (sym ((bytes_eq-Decides name of).0 same)) ∙ absent

  lacks_by : (values : Values) (name : List ℕ) (b1 b2 b3 : Bool) → bytes_eq name (codes "name") ≡ b1
      → bytes_eq name (codes "original") ≡ b2 → bytes_eq name (codes "match") ≡ b3 → Held values names
      → (b1 || (b2 || (b3 || false))) ≡ true → is_among name names ≡ false
      → complete offset values.name values.original values.pattern ≡ Err (fault_at offset FieldMissing)
  lacks_by values name true b2 b3 h1 h2 h3 held some absent =
      no_name values.name values.original values.pattern (none_of name (codes "name") _ h1 absent held.name)
  lacks_by values name false true b3 h1 h2 h3 held some absent =
      no_original values.name values.original values.pattern (none_of name (codes "original") _ h2 absent held.original)
  lacks_by values name false false true h1 h2 h3 held some absent =
      no_pattern values.name values.original values.pattern (none_of name (codes "match") _ h3 absent held.pattern)
  lacks_by values name false false false h1 h2 h3 held some absent = absurd cc

  -- a rule that lacks a field is refused
  pub lacks : (tag : Tag) (values : Values) (name : List ℕ) → HeldFor tag values names
      → is_among name (needed tag) ≡ true → is_among name names ≡ false → rule_of offset tag values ≡ Err (fault_at offset FieldMissing)
  unfolding HeldFor
  lacks Var values name held some absent =
      lacks_by values name (bytes_eq name (codes "name")) (bytes_eq name (codes "original")) (bytes_eq name (codes "match")) refl refl refl held some absent
  lacks BeginOptional values name held some absent = absurd cc
  lacks EndOptional values name held some absent = absurd cc

rule_by : (cs following : List Located) (tag : Tag) (e : MarkupFault) → IsTag cs following tag
    → (r : Result (Values × ℕ) MarkupFault)
    → Outcome (offset_of cs) tag (trim_start following) (read (trim_start following) r)
    → (r >>= rule_then (offset_of cs) tag following) ≡ failed e → IsRuleFault cs e
rule_by cs following tag e is (Err d) out h =
    at_fault is out.2 (subst (IsFaultAfter (offset_of cs) tag out.1 out.0) (same_fault d e h) out.3)
rule_by cs following tag e is (Ok y) out h =
    at_fault is out.2
    (lacking (offset_of cs) out.1 tag y.0 e out.0 out.3 out.4
    (view_failed (λ rule. (rule, spaces following + y.1)) (rule_of (offset_of cs) tag y.0) e h))

-- a rule that is refused is at fault so
pub rule_faulty : (cs following : List Located) (tag : Tag) (e : MarkupFault) → IsTag cs following tag → rule_at (offset_of cs) tag following ≡ Err e → IsRuleFault cs e
rule_faulty cs following tag e is h =
    let front : List Located = trim_start following in
    rule_by cs following tag e is (fields_at (offset_of cs) tag no_values 0 front)
    (outcome (offset_of cs) tag front (length front) no_values [] front (omega arith) none (held_none tag))
    (sym (rule_is (offset_of cs) tag following) ∙ h)
