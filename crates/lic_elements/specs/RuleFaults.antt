-- Which fault a rule is refused by, and where: the first that is met from the left. The fields before it are sound.
use Rattle.std.specs.Prelude.{◌≡◌, ℕ, Bool, true, false, ◌||◌, ◌&&◌, List, [], ◌∷◌, ◌++◌, codes}
use Rattle.std.specs.Str.{bytes_eq}
use Rattle.lic_ere.specs.Located.{Located}
use Rattle.lic_elements.specs.declared.rule.tag.Tag.{Tag}
use Rattle.lic_elements.specs.declared.rule.tag.Tag.TheVariants.{Var, BeginOptional, EndOptional}
use Rattle.lic_elements.specs.declared.fault.MarkupFault.{MarkupFault}
use Rattle.lic_elements.specs.declared.fault.MarkupCause.TheVariants.{NotClosed, FieldMissing, FieldTwice, NoEquals}
use Rattle.lic_elements.specs.Signs.{double_quote, semicolon, equals, greater}
use Rattle.lic_elements.specs.Texts.{text_of, offset_of, begins_with, begins_with_two, trim_start, trim_end}
use Rattle.lic_elements.specs.Faults.{fault_at}
use Rattle.lic_elements.specs.Markup.{UpTo, IsTag, IsField, ends_field, ends_name, ends_quote, ends_value}

-- At none of these characters `holds` is true, which is given what is before an offset and what is from there on.
pub record Nowhere (holds : List Located → List Located → Bool) (cs : List Located) : Type 0 where
  pub never : (before : List Located) (x : Located) (after : List Located) → cs ≡ before ++ x ∷ after
      → holds before (x ∷ after) ≡ false

-- ---- the fields that a tag needs

-- their names; each occurs once
abbrev pub needed : Tag → List (List ℕ)
needed Var = codes "name" ∷ codes "original" ∷ codes "match" ∷ []
needed BeginOptional = []
needed EndOptional = []

-- a name is one of these
abbrev pub is_among : List ℕ → List (List ℕ) → Bool
is_among name [] = false
is_among name (n ∷ names) = bytes_eq name n || is_among name names

-- a field of this name, after fields of these names, is the second one where there is to be one
abbrev pub is_second : Tag → List ℕ → List (List ℕ) → Bool
is_second tag name names = is_among name (needed tag) && is_among name names

-- ---- what is before the fault

-- After a tag the characters cs begin with sound fields, each after a `;` and white space, and continue with others, where `;` or
-- `>>` has to be. The names of these fields, the last one first: none occurs twice that is to occur once.
pub data AreSoundFields (tag : Tag) (cs : List Located) : List Located → List (List ℕ) → Type 0 where
  none : AreSoundFields tag cs cs []
  -- after a `;` that another or `>>` follows there is no field
  empty : {x : Located} {rest : List Located} {names : List (List ℕ)} → AreSoundFields tag cs (x ∷ rest) names
      → x.1 ≡ semicolon → ends_field (trim_start rest) ≡ true → AreSoundFields tag cs (trim_start rest) names
  further : {x : Located} {rest more value : List Located} {name : List ℕ} {names : List (List ℕ)}
      → AreSoundFields tag cs (x ∷ rest) names → x.1 ≡ semicolon → ends_field (trim_start rest) ≡ false
      → IsField (trim_start rest) more name value → is_second tag name names ≡ false
      → AreSoundFields tag cs more (name ∷ names)

-- ---- the fault

-- a value that the text ends in: no `"` ends it, or without quotes no `>>` and no `;`
pub data IsOpenValue : List Located → Type 0 where
  quoted : {quote : Located} {cs : List Located} → quote.1 ≡ double_quote → Nowhere ends_quote cs → IsOpenValue (quote ∷ cs)
  plain : {cs : List Located} → begins_with double_quote cs ≡ false → Nowhere ends_value cs → IsOpenValue cs

-- The field that the characters cs begin with is at fault, in a rule at this offset, after fields of these names.
pub data IsFieldFault (offset : ℕ) (tag : Tag) (names : List (List ℕ)) (cs : List Located) : MarkupFault → Type 0 where
  -- the text ends before `=`, `;` and `>>`: the rule is not closed
  open_name : Nowhere ends_name cs → IsFieldFault offset tag names cs (fault_at offset NotClosed)
  -- `;` or `>>` comes before any `=`: the fault is at the field's first byte
  no_equals : {name rest : List Located} → UpTo ends_name cs name rest → begins_with equals rest ≡ false
      → IsFieldFault offset tag names cs (fault_at (offset_of cs) NoEquals)
  -- met at the `=` of the second one, whatever its value is: the fault is at the first byte of its name
  twice : {name following : List Located} {sign : Located} → UpTo ends_name cs name (sign ∷ following) → sign.1 ≡ equals
      → is_second tag (text_of (trim_end name)) names ≡ true
      → IsFieldFault offset tag names cs (fault_at (offset_of cs) FieldTwice)
  -- the text ends in the value: the rule is not closed
  open_value : {name following : List Located} {sign : Located} → UpTo ends_name cs name (sign ∷ following) → sign.1 ≡ equals
      → is_second tag (text_of (trim_end name)) names ≡ false → IsOpenValue (trim_start following)
      → IsFieldFault offset tag names cs (fault_at offset NotClosed)

-- the fault that is met where the characters cs come after sound fields of these names, in a rule at this offset
pub data IsFaultAfter (offset : ℕ) (tag : Tag) (names : List (List ℕ)) : List Located → MarkupFault → Type 0 where
  -- neither `;` nor `>>` is there
  not_closed : {cs : List Located} → ends_field cs ≡ false → IsFaultAfter offset tag names cs (fault_at offset NotClosed)
  -- the field after a `;` is at fault
  in_field : {x : Located} {cs : List Located} {e : MarkupFault} → x.1 ≡ semicolon → ends_field (trim_start cs) ≡ false
      → IsFieldFault offset tag names (trim_start cs) e → IsFaultAfter offset tag names (x ∷ cs) e
  -- at the rule's end a field that it needs was not there
  missing : {cs : List Located} (name : List ℕ) → begins_with_two greater cs ≡ true → is_among name (needed tag) ≡ true
      → is_among name names ≡ false → IsFaultAfter offset tag names cs (fault_at offset FieldMissing)

-- the fault of the rule that the characters cs begin with
pub data IsRuleFault (cs : List Located) : MarkupFault → Type 0 where
  at_fault : {following rest : List Located} {tag : Tag} {names : List (List ℕ)} {e : MarkupFault} → IsTag cs following tag
      → AreSoundFields tag (trim_start following) rest names → IsFaultAfter (offset_of cs) tag names rest e
      → IsRuleFault cs e
