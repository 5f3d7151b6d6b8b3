-- The rules of a template, apart from how they are read: `.. cs rest ..` says that the characters cs begin so and continue
-- with rest.
use Rattle.std.specs.Prelude.{◌≡◌, ℕ, Bool, true, false, ◌||◌, ◌&&◌, ◌==◌, not, List, [], ◌∷◌, ◌++◌, map, codes, if◌then◌else◌}
use Rattle.std.specs.Char.{is_ascii_alphanumeric}
use Rattle.std.specs.Str.{bytes_eq}
use Rattle.lic_ere.specs.Located.{Located}
use Rattle.lic_elements.specs.declared.rule.tag.Tag.{Tag}
use Rattle.lic_elements.specs.declared.rule.tag.Tag.TheVariants.{Var, BeginOptional, EndOptional}
use Rattle.lic_elements.specs.Signs.{double_quote, semicolon, equals, greater, backslash}
use Rattle.lic_elements.specs.Texts.{text_of, offset_of, unescaped, begins_with, begins_with_two, trim_start, trim_end}
use Rattle.lic_elements.specs.Rules as rules
use Rattle.lic_elements.specs.Rules.{Rule}

-- The characters cs are those in front and then rest, and that is the first offset at which `holds` is true, which is
-- given what is before an offset and what is from there on.
pub record UpTo (holds : List Located → List Located → Bool) (cs front rest : List Located) : Type 0 where
  pub parts : cs ≡ front ++ rest
  pub here : holds front rest ≡ true
  pub first : (before : List Located) (x : Located) (after : List Located) → front ≡ before ++ x ∷ after
      → holds before (x ∷ (after ++ rest)) ≡ false

-- ---- tags

-- no ASCII letter or digit comes first
abbrev pub ends_word : List Located → Bool
ends_word [] = true
ends_word (x ∷ rest) = not (is_ascii_alphanumeric x.1)

-- how a tag is written
abbrev pub tag_name : Tag → List ℕ
tag_name Var = codes "var"
tag_name BeginOptional = codes "beginOptional"
tag_name EndOptional = codes "endOptional"

-- `<<`, directly after it a tag, and after that the end of the text or a character that is no ASCII letter or digit
pub record IsTag (cs rest : List Located) (tag : Tag) : Type 0 where
  pub signs : List Located
  pub word : List Located
  pub parts : cs ≡ signs ++ (word ++ rest)
  pub opens : map (λ x. x.1) signs ≡ codes "<<"
  pub name : map (λ x. x.1) word ≡ tag_name tag
  pub ends : ends_word rest ≡ true

-- ---- fields

-- `;` or `>>` is here
abbrev pub ends_field : List Located → Bool
ends_field here = begins_with semicolon here || begins_with_two greater here

-- `=`, `;` or `>>` is here
abbrev pub ends_name : List Located → List Located → Bool
ends_name before here = begins_with equals here || ends_field here

-- a `"` is here, directly before `;` or `>>`
abbrev pub ends_quote : List Located → List Located → Bool
ends_quote before [] = false
ends_quote before (x ∷ rest) = x.1 == double_quote && ends_field rest

-- the last of these characters is a backslash, or there is none and `otherwise` holds
abbrev pub ends_escaped : Bool → List Located → Bool
ends_escaped otherwise [] = otherwise
ends_escaped otherwise (x ∷ rest) = ends_escaped (x.1 == backslash) rest

-- `>>` is here, or a `;` that no backslash comes directly before
abbrev pub ends_value : List Located → List Located → Bool
ends_value before here = begins_with_two greater here || (begins_with semicolon here && not (ends_escaped false before))

-- a value: between a `"` and the next one directly before `;` or `>>`; or else up to the first `>>`, or the first `;` that no
-- backslash comes directly before, without the white space at its end
pub data IsValue : List Located → List Located → List Located → Type 0 where
  quoted : {quote end : Located} {cs rest value : List Located} → quote.1 ≡ double_quote
      → UpTo ends_quote cs value (end ∷ rest) → IsValue (quote ∷ cs) rest value
  plain : {cs rest value : List Located} → begins_with double_quote cs ≡ false → UpTo ends_value cs value rest
      → IsValue cs rest (trim_end value)

-- a field: its name up to a `=` with no `;` and no `>>` before it, without the white space at its end; the `=`, white space, and
-- its value
pub data IsField : List Located → List Located → List ℕ → List Located → Type 0 where
  field : {cs following rest name value : List Located} {sign : Located} → UpTo ends_name cs name (sign ∷ following)
      → sign.1 ≡ equals
      → IsValue (trim_start following) rest value → IsField cs rest (text_of (trim_end name)) value

-- the fields of a rule, each after a `;` and white space, and `>>` after the last; where `;` or `>>` follows there is none
pub data IsFields : List Located → List Located → List (List ℕ × List Located) → Type 0 where
  closed : {x y : Located} {rest : List Located} → x.1 ≡ greater → y.1 ≡ greater → IsFields (x ∷ y ∷ rest) rest []
  empty : {x : Located} {cs rest : List Located} {fs : List (List ℕ × List Located)} → x.1 ≡ semicolon
      → ends_field (trim_start cs) ≡ true
      → IsFields (trim_start cs) rest fs → IsFields (x ∷ cs) rest fs
  further : {x : Located} {cs more rest : List Located} {name : List ℕ} {value : List Located} {fs : List
      (List ℕ × List Located)} → x.1 ≡ semicolon
      → ends_field (trim_start cs) ≡ false → IsField (trim_start cs) more name value → IsFields more rest fs
      → IsFields (x ∷ cs) rest ((name, value) ∷ fs)

-- the values of the fields of this name
abbrev pub values_of : List ℕ → List (List ℕ × List Located) → List (List Located)
values_of name [] = []
values_of name (f ∷ fs) = if bytes_eq f.0 name then f.1 ∷ values_of name fs else values_of name fs

-- ---- rules

-- a tag, white space, and fields; a variable has one `name`, one `original` and one `match`; what the fields of an optional
-- rule say means nothing
pub data IsRule : List Located → List Located → Rule → Type 0 where
  variable : {cs following rest : List Located} {fs : List (List ℕ × List Located)} {name original pattern : List Located}
      → IsTag cs following Var
      → IsFields (trim_start following) rest fs → values_of (codes "name") fs ≡ name ∷ [] → values_of (codes "original") fs ≡ original ∷ []
      → values_of (codes "match") fs ≡ pattern ∷ []
      → IsRule cs rest (rules.variable (text_of (unescaped name)) (text_of (unescaped original)) (offset_of pattern)
      (text_of pattern))
  begin : {cs following rest : List Located} {fs : List (List ℕ × List Located)} → IsTag cs following BeginOptional
      → IsFields (trim_start following) rest fs → IsRule cs rest (rules.begin (offset_of cs))
  finish : {cs following rest : List Located} {fs : List (List ℕ × List Located)} → IsTag cs following EndOptional
      → IsFields (trim_start following) rest fs → IsRule cs rest (rules.finish (offset_of cs))

-- a rule begins here
abbrev pub BeginsRule : List Located → Type 0
BeginsRule here = (rest : List Located) × (tag : Tag) × IsTag here rest tag
