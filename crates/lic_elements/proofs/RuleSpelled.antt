-- Fields and rules that are read are those of the markup.
use Rattle.std.proofs.Common.{◌≡◌, ℕ, zero, suc, ◌+◌, ◌≤◌, Bool, true, false, cond, ◌==◌, ◌&&◌, List, [], ◌∷◌, ◌++◌, length, map, drop, Option, Some, None, Result, Ok, Err, refl, sym, ap, ap₂, subst, ◌∙◌, arith, eq-eqb, append-nil}
use Rattle.std.specs.Prelude.{codes}
use Rattle.std.specs.Option.{is_some}
use Rattle.std.specs.Str.{bytes_eq}
use Rattle.std.proofs.lemmas.Bool.{eqb-true, false≢true}
use Rattle.std.proofs.lemmas.List.{drop-drop}
use Rattle.std.proofs.lemmas.Slice.Eq.{bytes_eq-Decides}
use Rattle.lic_ere.specs.Located.{Located}
use Rattle.lic_elements.specs.declared.rule.tag.Tag.{Tag}
use Rattle.lic_elements.specs.declared.rule.tag.Tag.TheVariants.{Var, BeginOptional, EndOptional}
use Rattle.lic_elements.specs.declared.rule.fields.Field.{Field}
use Rattle.lic_elements.specs.declared.rule.fields.Field.TheVariants.{Name, Original, Match, Other}
use Rattle.lic_elements.specs.declared.fault.MarkupFault.{MarkupFault}
use Rattle.lic_elements.specs.Signs.{semicolon, equals, greater}
use Rattle.lic_elements.specs.Texts.{text_of, offset_of, unescaped, begins_with, begins_with_two, spaces, trim_end, trim_start}
use Rattle.lic_elements.specs.Faults.{map_ok, ◌>>=◌}
use Rattle.lic_elements.specs.Rules as rules
use Rattle.lic_elements.specs.Rules.{Values, no_values, field_of, has_value, with_value, at_end, second_field, name_at, value_at, field_at, field_or_none, fields_at, Rule, complete, rule_of, rule_at}
use Rattle.lic_elements.specs.Markup.{UpTo, ends_field, ends_name, IsValue, IsField, field, IsFields, closed, empty, further as one_further, values_of, IsTag, IsRule, variable, begin, finish}
use Rattle.lic_elements.proofs.RuleLemmas.{read}
use Rattle.lic_elements.proofs.FieldLemmas.{read-shorter, fields_of, fields-end, fields_turn, fields_fail, fields-refused, fields-open, trim_start-shorter}
use Rattle.lic_elements.proofs.TagSpelled.{both}
use Rattle.lic_elements.proofs.Spelled.{got, same_value, same_rest, refused, name_spelled, name_read, value_spelled, value_read, empty_no, read_was}

-- ---- one field

module _ (rule start : ℕ) (tag : Tag) (values : Values) where
  -- a field whose name was read
  abbrev pub value_then : List Located → Bool → Field → List Located × ℕ → Result (Values × ℕ) MarkupFault
  value_then cs twice meant name =
      cond twice (Err (second_field rule start))
      (map_ok (λ value. (with_value meant value.0 values, name.1 + (spaces (drop name.1 cs) + value.1)))
      (value_at rule (trim_start (drop name.1 cs))))

  abbrev pub meaning : List Located × ℕ → Field
  meaning name = field_of tag (text_of (trim_end name.0))

  pub field_is : (cs : List Located)
      → field_at rule start tag values cs
      ≡ (name_at rule start cs >>= λ name. value_then cs (has_value (meaning name) values) (meaning name) name)
  unfolding field_at
  field_is cs = refl

  -- what a field says, and that it is no second one
  pub record WasField (cs rest : List Located) (v : Values) : Type 0 where
    pub name : List ℕ
    pub value : List Located
    pub is : IsField cs rest name value
    pub once : has_value (field_of tag name) values ≡ false
    pub gives : with_value (field_of tag name) value values ≡ v

  drops : (cs : List Located) (n k : ℕ) → drop k (trim_start (drop n cs)) ≡ drop (n + (spaces (drop n cs) + k)) cs
  drops cs n k = drop-drop k (spaces (drop n cs)) (drop n cs) ∙ drop-drop (spaces (drop n cs) + k) n cs

  value_by : (cs rest : List Located) (v : Values) (name : List Located × ℕ) (sign : Located)
      → UpTo ends_name cs name.0 (sign ∷ drop name.1 cs) → sign.1 ≡ equals → has_value (meaning name) values ≡ false
      → (r : Result (List Located × ℕ) MarkupFault) → value_at rule (trim_start (drop name.1 cs)) ≡ r
      → read cs (map_ok (λ value. (with_value (meaning name) value.0 values, name.1 + (spaces (drop name.1 cs) + value.1))) r) ≡ got v rest → WasField cs rest v
  value_by cs rest v name sign up is once (Err d) was e = refused d v rest e
  value_by cs rest v name sign up is once (Ok y) was e =
      let following : List Located = drop name.1 cs in
      let spelled : IsValue (trim_start following) (drop y.1 (trim_start following)) y.0 =
      value_spelled rule (trim_start following) y.0 (drop y.1 (trim_start following))
      (ap (read (trim_start following)) was) in
      let ends : drop y.1 (trim_start following) ≡ rest =
      drops cs name.1 y.1 ∙ same_rest (with_value (meaning name) y.0 values) v
      (drop (name.1 + (spaces following + y.1)) cs) rest e in
      record {
        name = text_of (trim_end name.0);
        value = y.0;
        is = field up is (subst (λ l. IsValue (trim_start following) l y.0) ends spelled);
        once = once;
        gives = same_value (with_value (meaning name) y.0 values) v (drop (name.1 + (spaces following + y.1)) cs) rest e;
      }

  twice_by : (cs rest : List Located) (v : Values) (name : List Located × ℕ) (sign : Located)
      → UpTo ends_name cs name.0 (sign ∷ drop name.1 cs) → sign.1 ≡ equals → (t : Bool)
      → has_value (meaning name) values ≡ t
      → read cs (value_then cs t (meaning name) name) ≡ got v rest → WasField cs rest v
  twice_by cs rest v name sign up is true h e = refused (second_field rule start) v rest e
  twice_by cs rest v name sign up is false h e = value_by cs rest v name sign up is h (value_at rule (trim_start (drop name.1 cs))) refl e

  name_by : (cs rest : List Located) (v : Values) (r : Result (List Located × ℕ) MarkupFault) → name_at rule start cs ≡ r
      → read cs (r >>= λ name. value_then cs (has_value (meaning name) values) (meaning name) name) ≡ got v rest → WasField cs rest v
  name_by cs rest v (Err d) was e = refused d v rest e
  name_by cs rest v (Ok name) was e =
      let up = name_spelled rule start cs name.0 (drop name.1 cs) (ap (read cs) was) in
      twice_by cs rest v name up.0 up.1 up.2 (has_value (meaning name) values) refl e

  pub field_spelled : (cs rest : List Located) (v : Values) → read cs (field_at rule start tag values cs) ≡ got v rest → WasField cs rest v
  field_spelled cs rest v e = name_by cs rest v (name_at rule start cs) refl (sym (ap (read cs) (field_is cs)) ∙ e)

  pub field_read : {cs rest value : List Located} {name : List ℕ} → IsField cs rest name value → has_value (field_of tag name) values ≡ false
      → read cs (field_at rule start tag values cs) ≡ got (with_value (field_of tag name) value values) rest
  field_read (field {cs = cs} {following = following} {rest = rest} {name = name} {value = value} {sign = sign} up is spelled) once =
      let first = read_was cs (name_at rule start cs) name following (name_read rule start name sign cs following up is) in
      let n : ℕ = first.0 in
      let here : drop n cs ≡ following = first.2 in
      let second = read_was (trim_start following) (value_at rule (trim_start following)) value rest (value_read rule spelled) in
      let meant : Field = meaning (name, n) in
      let gives : value_at rule (trim_start (drop n cs)) ≡ Ok (value, second.0) = ap (λ (l : List Located). value_at rule (trim_start l)) here ∙ second.1 in
      ap (read cs) (field_is cs ∙ ap (λ (r : Result (List Located × ℕ) MarkupFault). r >>= λ name.
      value_then cs (has_value (meaning name) values) (meaning name) name) first.1)
      ∙ ap (λ b. read cs (value_then cs b meant (name, n))) once
      ∙ ap (λ (r : Result (List Located × ℕ) MarkupFault). read cs
      (map_ok (λ value. (with_value meant value.0 values, n + (spaces (drop n cs) + value.1))) r)) gives
      ∙ ap (λ (l : List Located). got (with_value meant value values) l)
      (sym (drops cs n second.0) ∙ ap (λ (l : List Located). drop second.0 (trim_start l)) here ∙ second.2)

-- ---- the values of fields

abbrev list_of : {A : Type 0} → Option A → List A
list_of None = []
list_of (Some x) = x ∷ []

-- a value, after those of the fields with its name among these
abbrev Slot : {A : Type 0} → (List Located → A) → Option A → List (List Located) → Option A → Type 0
Slot f o values p = list_of o ++ map f values ≡ list_of p

abbrev bare : List Located → List ℕ
bare value = text_of (unescaped value)

abbrev with_offset : List Located → ℕ × List ℕ
with_offset value = (offset_of value, text_of value)

-- the values of a variable, after those of these fields
record Adds (values : Values) (fs : List (List ℕ × List Located)) (v : Values) : Type 0 where
  pub name : Slot bare values.name (values_of (codes "name") fs) v.name
  pub original : Slot bare values.original (values_of (codes "original") fs) v.original
  pub pattern : Slot with_offset values.pattern (values_of (codes "match") fs) v.pattern

AddsFor : Tag → Values → List (List ℕ × List Located) → Values → Type 0
AddsFor Var values fs v = Adds values fs v
AddsFor BeginOptional values fs v = values ≡ v
AddsFor EndOptional values fs v = values ≡ v

module _ {A : Type 0} (f : List Located → A) (o p : Option A) (y : List Located) (zs : List (List Located)) where
  none_held : (o : Option A) → is_some o ≡ false → list_of o ≡ []
  none_held None h = refl
  none_held (Some x) h = absurd (false≢true (sym h))

  mine_back : (b : Bool) → b ≡ true → is_some o ≡ false → Slot f (Some (f y)) zs p → Slot f o (cond b (y ∷ zs) zs) p
  mine_back true h none s = ap (λ (l : List A). l ++ map f (y ∷ zs)) (none_held o none) ∙ s
  mine_back false h none s = absurd (false≢true h)

  other_back : (b : Bool) → b ≡ false → Slot f o zs p → Slot f o (cond b (y ∷ zs) zs) p
  other_back true h s = absurd (false≢true (sym h))
  other_back false h s = s

  other_on : (b : Bool) → b ≡ false → Slot f o (cond b (y ∷ zs) zs) p → Slot f o zs p
  other_on true h s = absurd (false≢true (sym h))
  other_on false h s = s

  not_two : (o p : Option A) → Slot f o (y ∷ zs) p → (is_some o ≡ false) × Slot f (Some (f y)) zs p
  not_two None p s = (refl, s)
  not_two (Some x) None s = absurd cc
  not_two (Some x) (Some z) s = absurd (no (ap (drop 1) s))
    where
      no : f y ∷ map f zs ≡ [] → ⊥
      no h = cc

  mine_on : (b : Bool) → b ≡ true → Slot f o (cond b (y ∷ zs) zs) p → (is_some o ≡ false) × Slot f (Some (f y)) zs p
  mine_on true h s = not_two o p s
  mine_on false h s = absurd (false≢true h)

abbrev pub meant_by : Bool → Bool → Bool → Field
meant_by b1 b2 b3 = cond b1 Name (cond b2 Original (cond b3 Match Other))

pub other_word : (word one two : List ℕ) → bytes_eq one two ≡ false → bytes_eq word one ≡ true → bytes_eq word two ≡ false
other_word word one two differ h = ap (λ (l : List ℕ). bytes_eq l two) ((bytes_eq-Decides word one).0 h) ∙ differ

module _ (values v : Values) (word : List ℕ) (value : List Located) (fs : List (List ℕ × List Located)) where
  back_by : (b1 b2 b3 : Bool) → bytes_eq word (codes "name") ≡ b1 → bytes_eq word (codes "original") ≡ b2 → bytes_eq word (codes "match") ≡ b3
      → has_value (meant_by b1 b2 b3) values ≡ false → Adds (with_value (meant_by b1 b2 b3) value values) fs v → Adds values ((word, value) ∷ fs) v
  back_by true b2 b3 h1 h2 h3 once a =
      record {
        name = mine_back bare values.name v.name value (values_of (codes "name") fs) _ h1 once a.name;
        original = other_back bare values.original v.original value (values_of (codes "original") fs) _ (other_word word (codes "name") (codes "original") refl h1) a.original;
        pattern = other_back with_offset values.pattern v.pattern value (values_of (codes "match") fs) _ (other_word word (codes "name") (codes "match") refl h1) a.pattern;
      }
  back_by false true b3 h1 h2 h3 once a =
      record {
        name = other_back bare values.name v.name value (values_of (codes "name") fs) _ h1 a.name;
        original = mine_back bare values.original v.original value (values_of (codes "original") fs) _ h2 once a.original;
        pattern = other_back with_offset values.pattern v.pattern value (values_of (codes "match") fs) _ (other_word word (codes "original") (codes "match") refl h2) a.pattern;
      }
  back_by false false true h1 h2 h3 once a =
      record {
        name = other_back bare values.name v.name value (values_of (codes "name") fs) _ h1 a.name;
        original = other_back bare values.original v.original value (values_of (codes "original") fs) _ h2 a.original;
        pattern = mine_back with_offset values.pattern v.pattern value (values_of (codes "match") fs) _ h3 once a.pattern;
      }
  back_by false false false h1 h2 h3 once a =
      record {
        name = other_back bare values.name v.name value (values_of (codes "name") fs) _ h1 a.name;
        original = other_back bare values.original v.original value (values_of (codes "original") fs) _ h2 a.original;
        pattern = other_back with_offset values.pattern v.pattern value (values_of (codes "match") fs) _ h3 a.pattern;
      }

  on_by : (b1 b2 b3 : Bool) → bytes_eq word (codes "name") ≡ b1 → bytes_eq word (codes "original") ≡ b2 → bytes_eq word (codes "match") ≡ b3
      → Adds values ((word, value) ∷ fs) v → (has_value (meant_by b1 b2 b3) values ≡ false) × Adds (with_value (meant_by b1 b2 b3) value values) fs v
  on_by true b2 b3 h1 h2 h3 a =
      let one = mine_on bare values.name v.name value (values_of (codes "name") fs) _ h1 a.name in (
        one.0,
        record {
          name = one.1;
          original = other_on bare values.original v.original value (values_of (codes "original") fs) _ (other_word word (codes "name") (codes "original") refl h1) a.original;
          pattern = other_on with_offset values.pattern v.pattern value (values_of (codes "match") fs) _ (other_word word (codes "name") (codes "match") refl h1) a.pattern;
        },
      )
  on_by false true b3 h1 h2 h3 a =
      let one = mine_on bare values.original v.original value (values_of (codes "original") fs) _ h2 a.original in (
        one.0,
        record {
          name = other_on bare values.name v.name value (values_of (codes "name") fs) _ h1 a.name;
          original = one.1;
          pattern = other_on with_offset values.pattern v.pattern value (values_of (codes "match") fs) _ (other_word word (codes "original") (codes "match") refl h2) a.pattern;
        },
      )
  on_by false false true h1 h2 h3 a =
      let one = mine_on with_offset values.pattern v.pattern value (values_of (codes "match") fs) _ h3 a.pattern in (
        one.0,
        record {
          name = other_on bare values.name v.name value (values_of (codes "name") fs) _ h1 a.name;
          original = other_on bare values.original v.original value (values_of (codes "original") fs) _ h2 a.original;
          pattern = one.1;
        },
      )
  on_by false false false h1 h2 h3 a = (
    refl,
    record {
      name = other_on bare values.name v.name value (values_of (codes "name") fs) _ h1 a.name;
      original = other_on bare values.original v.original value (values_of (codes "original") fs) _ h2 a.original;
      pattern = other_on with_offset values.pattern v.pattern value (values_of (codes "match") fs) _ h3 a.pattern;
    },
  )

  adds_back : (tag : Tag) → has_value (field_of tag word) values ≡ false
      → AddsFor tag (with_value (field_of tag word) value values) fs v → AddsFor tag values ((word, value) ∷ fs) v
  unfolding AddsFor
  adds_back Var once a = back_by (bytes_eq word (codes "name")) (bytes_eq word (codes "original")) (bytes_eq word (codes "match")) refl refl refl once a
  adds_back BeginOptional once a = a
  adds_back EndOptional once a = a

  adds_on : (tag : Tag) → AddsFor tag values ((word, value) ∷ fs) v
      → (has_value (field_of tag word) values ≡ false) × AddsFor tag (with_value (field_of tag word) value values) fs v
  unfolding AddsFor
  adds_on Var a = on_by (bytes_eq word (codes "name")) (bytes_eq word (codes "original")) (bytes_eq word (codes "match")) refl refl refl a
  adds_on BeginOptional a = (refl, a)
  adds_on EndOptional a = (refl, a)

adds_none : (tag : Tag) (values : Values) → AddsFor tag values [] values
unfolding AddsFor
adds_none Var values = record {
  name = append-nil (list_of values.name);
  original =
      append-nil (list_of values.original);
  pattern = append-nil (list_of values.pattern);
}
adds_none BeginOptional values = refl
adds_none EndOptional values = refl

same_held : {A : Type 0} (o p : Option A) → list_of o ≡ list_of p → o ≡ p
same_held None None e = refl
same_held None (Some y) e = absurd cc
same_held (Some x) None e = absurd cc
same_held (Some x) (Some y) e = ap (λ l. elim l [ [] ↦ Some x | z ∷ zs ↦ Some z ]) e

adds_nothing : (tag : Tag) (values v : Values) → AddsFor tag values [] v → values ≡ v
unfolding AddsFor
adds_nothing Var values v a =
    let one = same_held values.name v.name (sym (append-nil (list_of values.name)) ∙ a.name) in
    let two = same_held values.original v.original (sym (append-nil (list_of values.original)) ∙ a.original) in
    let three = same_held values.pattern v.pattern (sym (append-nil (list_of values.pattern)) ∙ a.pattern) in
    λ i. record { name = one i; original = two i; pattern = three i }
adds_nothing BeginOptional values v a = a
adds_nothing EndOptional values v a = a

-- ---- all fields of a rule

no_fields : {cs rest : List Located} {fs : List (List ℕ × List Located)} → IsFields cs rest fs → cs ≡ [] → ⊥
no_fields (closed one two) e = cc
no_fields (empty one two more) e = cc
no_fields (one_further one two three more) e = cc

pub no_field : {cs rest value : List Located} {name : List ℕ} → IsField cs rest name value → cs ≡ [] → ⊥
no_field (field {cs = cs} {following = following} {name = name} {sign = sign} up is value) e = empty_no name sign following (sym e ∙ up.parts)

module _ (rule : ℕ) (tag : Tag) where
  -- the fields after a `;`
  abbrev WereFields : Values → List Located → List Located → Values → Type 0
  WereFields values cs rest v = (fs : List (List ℕ × List Located)) × IsFields cs rest fs × AddsFor tag values fs v

  some_by : (start : ℕ) (values v more : Values) (x : Located) (after rest following : List Located) → x.1 ≡ semicolon → ends_field (trim_start after) ≡ false
      → WasField rule start tag values (trim_start after) following more → WereFields more following rest v → WereFields values (x ∷ after) rest v
  some_by start values v more x after rest following is continues was others = (
    (was.name, was.value) ∷ others.0,
    one_further is continues was.is others.1,
    adds_back values v was.name was.value others.0 tag was.once
        (subst (λ m. AddsFor tag m others.0 v) (sym was.gives) others.2),
  )

  none_by : (values v more : Values) (x : Located) (after rest following : List Located) → x.1 ≡ semicolon → ends_field (trim_start after) ≡ true
      → values ≡ more → trim_start after ≡ following → WereFields more following rest v → WereFields values (x ∷ after) rest v
  none_by values v more x after rest following is ends same at others =
      (others.0, empty is ends (subst (λ l. IsFields l rest others.0) (sym at) others.1), subst (λ m. AddsFor tag m others.0 v) (sym same) others.2)

  end_by : (values v more : Values) (x : Located) (after rest following : List Located) (z : Located) (zs : List Located)
      (t : Bool) → x.1 ≡ semicolon → trim_start after ≡ z ∷ zs → at_end (z ∷ zs) ≡ t
      → read (z ∷ zs) (cond t (Ok (values, 0)) (field_at rule z.0 tag values (z ∷ zs))) ≡ got more following
      → WereFields more following rest v → WereFields values (x ∷ after) rest v
  end_by values v more x after rest following z zs true is at h e others =
      none_by values v more x after rest following is (ap ends_field at ∙ h) (same_value values more (z ∷ zs) following e)
      (at ∙ same_rest values more (z ∷ zs) following e) others
  end_by values v more x after rest following z zs false is at h e others =
      some_by z.0 values v more x after rest following is (ap ends_field at ∙ h)
      (subst (λ l. WasField rule z.0 tag values l following more) (sym at) (field_spelled rule z.0 tag values (z ∷ zs) following more e)) others

  turn_by : (values v more : Values) (x : Located) (after rest following front : List Located) → x.1 ≡ semicolon → trim_start after ≡ front
      → read front (field_or_none rule tag values front) ≡ got more following → WereFields more following rest v → WereFields values (x ∷ after) rest v
  turn_by values v more x after rest following [] is at e others = absurd (no_fields others.1 (sym (same_rest values more [] following e)))
  turn_by values v more x after rest following (z ∷ zs) is at e others = end_by values v more x after rest following z zs (at_end (z ∷ zs)) is at refl e others

  closed_by : (values v : Values) (x : Located) (after rest : List Located)
      → begins_with_two greater (x ∷ after) ≡ true → got values (drop 2 (x ∷ after)) ≡ got v rest
      → WereFields values (x ∷ after) rest v
  closed_by values v x [] rest h e = absurd (false≢true (sym (none_of (x.1 == greater)) ∙ h))
    where
      none_of : (b : Bool) → (b && false) ≡ false
      none_of true = refl
      none_of false = refl
  closed_by values v x (y ∷ cs) rest h e =
      let two = both (x.1 == greater) (y.1 == greater) h in (
        [],
        subst (λ l. IsFields (x ∷ y ∷ cs) l []) (same_rest values v cs rest e)
            (closed (eqb-true _ _ two.0) (eqb-true _ _ two.1)),
        subst (λ w. AddsFor tag values [] w) (same_value values v cs rest e) (adds_none tag values),
      )

  Spelled : ℕ → Type 0
  Spelled n = (values v : Values) (cs rest : List Located) → length cs ≤ n → fields_of rule tag values cs ≡ got v rest → WereFields values cs rest v

  next_by : (n : ℕ) → Spelled n → (values v : Values) (x : Located) (after rest : List Located)
      → length (x ∷ after) ≤ suc n → begins_with_two greater (x ∷ after) ≡ false
      → begins_with semicolon (x ∷ after) ≡ true
      → (r : Result (Values × ℕ) MarkupFault) → field_or_none rule tag values (trim_start after) ≡ r
      → fields_of rule tag values (x ∷ after) ≡ got v rest → WereFields values (x ∷ after) rest v
  unfolding Spelled
  next_by n others values v x after rest long one two (Err d) was e =
      refused d v rest (sym (fields_fail rule tag values x after (x ∷ after) (trim_start after) d refl refl one two (ap (read (trim_start after)) was)) ∙ e)
  next_by n others values v x after rest long one two (Ok y) was e =
      let front : List Located = trim_start after in
      let following : List Located = drop y.1 front in
      let gave : read front (field_or_none rule tag values front) ≡ got y.0 following = ap (read front) was in
      let turned : fields_of rule tag y.0 following ≡ fields_of rule tag values (x ∷ after) =
      fields_turn rule tag values x after (x ∷ after) front y.0 following
      (fields_of rule tag values (x ∷ after)) refl refl one two gave refl in
      let shorter : length following ≤ length front = read-shorter front (field_or_none rule tag values front) y.0 following gave in
      let front_shorter : length front ≤ length after = trim_start-shorter after front refl in
      turn_by values v y.0 x after rest following front (eqb-true _ _ two) refl gave
      (others y.0 v following rest (omega (arith, long, shorter, front_shorter)) (turned ∙ e))

  signs_by : (n : ℕ) → Spelled n → (values v : Values) (x : Located) (after rest : List Located)
      → length (x ∷ after) ≤ suc n → (t u : Bool) → begins_with_two greater (x ∷ after) ≡ t
      → begins_with semicolon (x ∷ after) ≡ u
      → fields_of rule tag values (x ∷ after) ≡ got v rest → WereFields values (x ∷ after) rest v
  signs_by n others values v x after rest long true u one two e =
      closed_by values v x after rest one (sym (fields-end rule tag values (x ∷ after) x after refl one) ∙ e)
  signs_by n others values v x after rest long false false one two e =
      refused _ v rest (sym (fields-refused rule tag values (x ∷ after) x after refl one two) ∙ e)
  signs_by n others values v x after rest long false true one two e =
      next_by n others values v x after rest long one two (field_or_none rule tag values (trim_start after)) refl e

  spelled : (n : ℕ) → Spelled n
  unfolding Spelled
  spelled n values v [] rest long e = refused _ v rest (sym (fields-open rule tag values [] refl) ∙ e)
  spelled zero values v (x ∷ after) rest long e = absurd (omega (arith, long))
  spelled (suc n) values v (x ∷ after) rest long e =
      signs_by n (spelled n) values v x after rest long (begins_with_two greater (x ∷ after)) (begins_with semicolon (x ∷ after)) refl refl e

  fields_spelled : (values v : Values) (cs rest : List Located) → fields_of rule tag values cs ≡ got v rest → WereFields values cs rest v
  unfolding Spelled
  fields_spelled values v cs rest e = spelled (length cs) values v cs rest (omega arith) e

  -- what comes after a `;`
  pub none_read : (values : Values) (front : List Located) → at_end front ≡ true → read front (field_or_none rule tag values front) ≡ got values front
  none_read values [] h = absurd (false≢true h)
  none_read values (z ∷ zs) h = ap (λ b. read (z ∷ zs) (cond b (Ok (values, 0)) (field_at rule z.0 tag values (z ∷ zs)))) h

  pub some_read : (values : Values) (front more value : List Located) (name : List ℕ) → at_end front ≡ false
      → IsField front more name value → has_value (field_of tag name) values ≡ false
      → read front (field_or_none rule tag values front) ≡ got (with_value (field_of tag name) value values) more
  some_read values [] more value name h is once = absurd (no_field is refl)
  some_read values (z ∷ zs) more value name h is once =
      ap (λ b. read (z ∷ zs) (cond b (Ok (values, 0)) (field_at rule z.0 tag values (z ∷ zs)))) h ∙ field_read rule z.0 tag values is once

  pub not_two_signs : (x : Located) (cs : List Located) → x.1 ≡ semicolon → begins_with_two greater (x ∷ cs) ≡ false
  not_two_signs x cs is = ap (λ c. c == greater && begins_with greater cs) is

  fields_read : {cs rest : List Located} {fs : List (List ℕ × List Located)} → IsFields cs rest fs
      → (values v : Values) → AddsFor tag values fs v → fields_of rule tag values cs ≡ got v rest
  fields_read (closed {x = x} {y = y} {rest = rest} one two) values v a =
      fields-end rule tag values (x ∷ y ∷ rest) x (y ∷ rest) refl (ap₂ (λ p q. p && q) (eq-eqb x.1 greater one) (eq-eqb y.1 greater two))
      ∙ ap (λ w. got w rest) (adds_nothing tag values v a)
  fields_read (empty {x = x} {cs = cs} is ends others) values v a =
      sym (fields_turn rule tag values x cs (x ∷ cs) (trim_start cs) values (trim_start cs)
      (fields_of rule tag values (x ∷ cs)) refl refl (not_two_signs x cs is) (eq-eqb x.1 semicolon is)
      (none_read values (trim_start cs) ends) refl)
      ∙ fields_read others values v a
  fields_read (one_further {x = x} {cs = cs} {more = more} {name = name} {value = value} {fs = fs} is continues one others) values v a =
      let now = adds_on values v name value fs tag a in
      let next : Values = with_value (field_of tag name) value values in
      sym (fields_turn rule tag values x cs (x ∷ cs) (trim_start cs) next more
      (fields_of rule tag values (x ∷ cs)) refl refl (not_two_signs x cs is) (eq-eqb x.1 semicolon is)
      (some_read values (trim_start cs) more value name continues one now.0) refl)
      ∙ fields_read others next v now.1

-- ---- rules

abbrev pub rule_then : ℕ → Tag → List Located → Values × ℕ → Result (Rule × ℕ) MarkupFault
rule_then offset tag rest fields = map_ok (λ rule. (rule, spaces rest + fields.1)) (rule_of offset tag fields.0)

pub rule_is : (offset : ℕ) (tag : Tag) (rest : List Located)
    → rule_at offset tag rest ≡ (fields_at offset tag no_values 0 (trim_start rest) >>= rule_then offset tag rest)
unfolding rule_at
rule_is offset tag rest = refl

-- the fields of a rule, and the rule that they make
record WasRule (offset : ℕ) (tag : Tag) (following rest : List Located) (r : Rule) : Type 0 where
  pub values : Values
  pub fields : fields_of offset tag no_values (trim_start following) ≡ got values rest
  pub makes : rule_of offset tag values ≡ Ok r

abbrev made : Rule → Result Rule MarkupFault
made r = Ok r

was_by : (offset : ℕ) (tag : Tag) (following rest : List Located) (r : Rule) (f : Result (Values × ℕ) MarkupFault)
    → fields_at offset tag no_values 0 (trim_start following) ≡ f
    → read following (f >>= rule_then offset tag following) ≡ got r rest → WasRule offset tag following rest r
was_by offset tag following rest r (Err d) was e = refused d r rest e
was_by offset tag following rest r (Ok y) was e = made_by (rule_of offset tag y.0) refl e
  where
    made_by : (m : Result Rule MarkupFault) → rule_of offset tag y.0 ≡ m
        → read following (map_ok (λ rule. (rule, spaces following + y.1)) m) ≡ got r rest → WasRule offset tag following rest r
    made_by (Err d) is e = refused d r rest e
    made_by (Ok s) is e =
        record {
          values = y.0;
          fields = ap (read (trim_start following)) was
              ∙ ap (λ (l : List Located). got y.0 l)
              (drop-drop y.1 (spaces following) following ∙ same_rest s r (drop (spaces following + y.1) following) rest e);
          makes = is ∙ ap (λ t. made t) (same_value s r (drop (spaces following + y.1) following) rest e);
        }

one_value : {A : Type 0} (f : List Located → A) (zs : List (List Located)) (p : A) → map f zs ≡ p ∷ [] → (z : List Located) × (zs ≡ z ∷ []) × (f z ≡ p)
one_value f [] p e = absurd cc
one_value f (z ∷ []) p e = (z, refl, ap (λ l. elim l [ [] ↦ p | x ∷ xs ↦ x ]) e)
one_value f (z ∷ y ∷ zs) p e = absurd (no (ap (drop 1) e))
  where
    no : f y ∷ map f zs ≡ [] → ⊥
    no h = cc

same_made : (r s : Rule) → made r ≡ made s → r ≡ s
same_made r s e = ap (λ (o : Result Rule MarkupFault). elim o [ Ok x ↦ x | Err d ↦ r ]) e

variable_by : (offset : ℕ) (cs following rest : List Located) (r : Rule) (name original : Option (List ℕ))
    (pattern : Option (ℕ × List ℕ)) → IsTag cs following Var → complete offset name original pattern ≡ Ok r
    → (fs : List (List ℕ × List Located)) → IsFields (trim_start following) rest fs
    → Adds no_values fs (record { name = name; original = original; pattern = pattern }) → IsRule cs rest r
variable_by offset cs following rest r (Some n) (Some o) (Some p) tag is fs fields a =
    let one = one_value bare (values_of (codes "name") fs) n a.name in
    let two = one_value bare (values_of (codes "original") fs) o a.original in
    let three = one_value with_offset (values_of (codes "match") fs) p a.pattern in
    subst (λ s. IsRule cs rest s) ((λ i. rules.variable (one.2 i) (two.2 i) (three.2 i).0 (three.2 i).1) ∙ same_made (rules.variable n o p.0 p.1) r is)
    (variable tag fields one.1 two.1 three.1)
variable_by offset cs following rest r None original pattern tag is fs fields a = absurd cc
variable_by offset cs following rest r (Some n) None pattern tag is fs fields a = absurd cc
variable_by offset cs following rest r (Some n) (Some o) None tag is fs fields a = absurd cc

-- a rule that is read, after its tag, is one of the markup
pub rule_spelled : (offset : ℕ) (tag : Tag) (cs following rest : List Located) (r : Rule) → offset_of cs ≡ offset
    → IsTag cs following tag → read following (rule_at offset tag following) ≡ got r rest → IsRule cs rest r
unfolding AddsFor
rule_spelled offset Var cs following rest r at is e =
    let was = was_by offset Var following rest r (fields_at offset Var no_values 0 (trim_start following)) refl
    (sym (ap (read following) (rule_is offset Var following)) ∙ e) in
    let fields = fields_spelled offset Var no_values was.values (trim_start following) rest was.fields in
    variable_by offset cs following rest r was.values.name was.values.original was.values.pattern is was.makes fields.0 fields.1 fields.2
rule_spelled offset BeginOptional cs following rest r at is e =
    let was = was_by offset BeginOptional following rest r
    (fields_at offset BeginOptional no_values 0 (trim_start following)) refl
    (sym (ap (read following) (rule_is offset BeginOptional following)) ∙ e) in
    let fields = fields_spelled offset BeginOptional no_values was.values (trim_start following) rest was.fields in
    subst (λ s. IsRule cs rest s) (ap (λ p. rules.begin p) at ∙ same_made (rules.begin offset) r was.makes) (begin is fields.1)
rule_spelled offset EndOptional cs following rest r at is e =
    let was = was_by offset EndOptional following rest r (fields_at offset EndOptional no_values 0 (trim_start following)) refl
    (sym (ap (read following) (rule_is offset EndOptional following)) ∙ e) in
    let fields = fields_spelled offset EndOptional no_values was.values (trim_start following) rest was.fields in
    subst (λ s. IsRule cs rest s) (ap (λ p. rules.finish p) at ∙ same_made (rules.finish offset) r was.makes) (finish is fields.1)

read_by : (offset : ℕ) (tag : Tag) (following rest : List Located) (values : Values) (r : Rule)
    → fields_of offset tag no_values (trim_start following) ≡ got values rest → rule_of offset tag values ≡ Ok r
    → read following (rule_at offset tag following) ≡ got r rest
read_by offset tag following rest values r fields makes =
    let was = read_was (trim_start following) (fields_at offset tag no_values 0 (trim_start following)) values rest fields in
    ap (read following) (rule_is offset tag following ∙ ap (λ (f : Result (Values × ℕ) MarkupFault). f >>= rule_then offset tag following) was.1)
    ∙ ap (λ (m : Result Rule MarkupFault). read following (map_ok (λ rule. (rule, spaces following + was.0)) m)) makes
    ∙ ap (λ (l : List Located). got r l) (sym (drop-drop was.0 (spaces following) following) ∙ was.2)

-- a rule of the markup, after its tag
pub record WasRead (cs rest : List Located) (r : Rule) : Type 0 where
  pub tag : Tag
  pub following : List Located
  pub is : IsTag cs following tag
  pub read : read following (rule_at (offset_of cs) tag following) ≡ got r rest

-- a rule of the markup is read
pub rule_read : {cs rest : List Located} {r : Rule} → IsRule cs rest r → WasRead cs rest r
unfolding AddsFor
rule_read (variable {cs = cs} {following = following} {rest = rest} {fs = fs} {name = name} {original = original} {pattern = pattern} is fields one two three) =
    let values : Values = record { name = Some (bare name); original = Some (bare original); pattern = Some (with_offset pattern) } in
    let adds : Adds no_values fs values = record { name = ap (map bare) one; original = ap (map bare) two; pattern = ap (map with_offset) three } in
    record {
      tag = Var;
      following = following;
      is = is;
      read =
          read_by (offset_of cs) Var following rest values _
          (fields_read (offset_of cs) Var fields no_values values adds) refl;
    }
rule_read (begin {cs = cs} {following = following} {rest = rest} is fields) =
    record {
      tag = BeginOptional;
      following = following;
      is = is;
      read =
          read_by (offset_of cs) BeginOptional following rest no_values _
          (fields_read (offset_of cs) BeginOptional fields no_values no_values refl) refl;
    }
rule_read (finish {cs = cs} {following = following} {rest = rest} is fields) =
    record {
      tag = EndOptional;
      following = following;
      is = is;
      read =
          read_by (offset_of cs) EndOptional following rest no_values _
          (fields_read (offset_of cs) EndOptional fields no_values no_values refl) refl;
    }
