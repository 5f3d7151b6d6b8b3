-- How one rule is read. What is read is beside the number of characters that it takes.
use Rattle.std.specs.Prelude.{ℕ, zero, suc, ◌+◌, ◌==◌, ◌&&◌, ◌||◌, Bool, false, not, List, [], ◌∷◌, length, drop, codes, Option, Some, None, Result, Ok, Err, if◌then◌else◌}
use Rattle.std.specs.Option.{is_some, option_map}
use Rattle.std.specs.Char.{is_ascii_alphanumeric}
use Rattle.std.specs.Str.{bytes_eq}
use Rattle.lic_ere.specs.Located.{Located, further}
use Rattle.lic_elements.specs.declared.rule.tag.Tag.{Tag}
use Rattle.lic_elements.specs.declared.rule.tag.Tag.TheVariants.{Var, BeginOptional, EndOptional}
use Rattle.lic_elements.specs.declared.rule.fields.Field.{Field}
use Rattle.lic_elements.specs.declared.rule.fields.Field.TheVariants.{Name, Original, Match, Other}
use Rattle.lic_elements.specs.declared.fault.MarkupFault.{MarkupFault}
use Rattle.lic_elements.specs.declared.fault.MarkupCause.TheVariants.{NotClosed, FieldMissing, FieldTwice, NoEquals}
use Rattle.lic_elements.specs.Signs.{double_quote, semicolon, less, equals, greater, backslash}
use Rattle.lic_elements.specs.Texts.{text_of, offset_of, unescaped, begins_with, begins_with_two, spaces, trim_start, trim_end}
use Rattle.lic_elements.specs.Faults.{fault_at, map_ok, ◌>>=◌}

-- ---- tags

-- the ASCII letters and digits in front
abbrev pub word_at : List Located → List Located
word_at [] = []
word_at (x ∷ rest) = if is_ascii_alphanumeric x.1 then x ∷ word_at rest else []

-- the tag that a word is, in this case of letters
abbrev pub tag_of : List ℕ → Option Tag
tag_of word =
    if bytes_eq word (codes "var") then Some Var
    else (if bytes_eq word (codes "beginOptional") then Some BeginOptional
    else (if bytes_eq word (codes "endOptional") then Some EndOptional
    else None))

-- The tag of the rule that begins with a character, and how many further characters it takes: `<<` and directly
-- after it a tag, after which the text ends or a character follows that is no ASCII letter or digit.
unfoldable pub tag_at : Located → List Located → Option (Tag × ℕ)
tag_at x rest =
    let word : List Located = word_at (drop 1 rest) in
    (if x.1 == less && begins_with less rest then option_map (λ tag. (tag, 1 + length word))
    (tag_of (text_of word)) else None)

-- ---- fields

-- The values of the three fields, as far as they were read: the name and the original value where `\;` means `;`,
-- and the pattern as it is, after the byte at which it begins.
pub record Values : Type 0 where
  pub name : Option (List ℕ)
  pub original : Option (List ℕ)
  pub pattern : Option (ℕ × List ℕ)

abbrev pub no_values : Values
no_values = record { name = None; original = None; pattern = None }

-- the field that a name means: the fields of an optional rule mean nothing
abbrev pub field_of : Tag → List ℕ → Field
field_of Var name =
    if bytes_eq name (codes "name") then Name
    else (if bytes_eq name (codes "original") then Original
    else (if bytes_eq name (codes "match") then Match
    else Other))
field_of _ name = Other

-- the field has a value already
abbrev pub has_value : Field → Values → Bool
has_value Name values = is_some values.name
has_value Original values = is_some values.original
has_value Match values = is_some values.pattern
has_value Other values = false

abbrev pub with_value : Field → List Located → Values → Values
with_value Name value values = record values { name = Some (text_of (unescaped value)) }
with_value Original value values = record values { original = Some (text_of (unescaped value)) }
with_value Match value values = record values { pattern = Some (offset_of value, text_of value) }
with_value Other value values = values

-- `;` or `>>` is here
abbrev pub at_end : List Located → Bool
at_end rest = begins_with semicolon rest || begins_with_two greater rest

-- One more character before what is read of the rest.
abbrev pub one_more : Located → List Located × ℕ → List Located × ℕ
one_more x read = (x ∷ read.0, 1 + read.1)

-- The faults of a field, by the offsets of its rule and of the field: the text ends in it, it has no `=`, it is a second one.
abbrev pub open_field : ℕ → ℕ → MarkupFault
open_field rule start = fault_at rule NotClosed

abbrev pub without_equals : ℕ → ℕ → MarkupFault
without_equals rule start = fault_at start NoEquals

abbrev pub second_field : ℕ → ℕ → MarkupFault
second_field rule start = fault_at start FieldTwice

-- A field's name with the white space after it: the characters up to the first `=`, which is taken too.
-- `rule` and `start` are the offsets of the rule and of the field.
unfoldable pub name_at : ℕ → ℕ → List Located → Result (List Located × ℕ) MarkupFault
name_at rule start [] = Err (open_field rule start)
name_at rule start (x ∷ rest) =
    if begins_with equals (x ∷ rest) then Ok ([], 1)
    else (if at_end (x ∷ rest) then Err (without_equals rule start)
    else map_ok (one_more x) (name_at rule start rest))

-- a `"` directly before `;` or `>>`
abbrev pub ends_quoted : List Located → Bool
ends_quoted [] = false
ends_quoted (x ∷ rest) = x.1 == double_quote && at_end rest

-- a value after its `"`: the characters up to the next `"` that is directly followed by `;` or `>>`, which is taken too
unfoldable pub quoted_at : ℕ → List Located → Result (List Located × ℕ) MarkupFault
quoted_at rule [] = Err (fault_at rule NotClosed)
quoted_at rule (x ∷ rest) =
    if ends_quoted (x ∷ rest) then Ok ([], 1)
    else map_ok (one_more x) (quoted_at rule rest)

-- `>>`, or a `;` that no backslash comes directly before
abbrev pub ends_plain : Bool → List Located → Bool
ends_plain escaped rest = begins_with_two greater rest || (begins_with semicolon rest && not escaped)

-- a value without quotes: the characters up to the first `>>`, or the first `;` that no backslash comes directly before
unfoldable pub plain_at : ℕ → Bool → List Located → Result (List Located × ℕ) MarkupFault
plain_at rule escaped [] = Err (fault_at rule NotClosed)
plain_at rule escaped (x ∷ rest) =
    if ends_plain escaped (x ∷ rest) then Ok ([], 0)
    else map_ok (one_more x) (plain_at rule (x.1 == backslash) rest)

-- the value that begins here
unfoldable pub value_at : ℕ → List Located → Result (List Located × ℕ) MarkupFault
value_at rule rest =
    if begins_with double_quote rest then map_ok (further 1) (quoted_at rule (drop 1 rest))
    else map_ok (λ v. (trim_end v.0, v.1)) (plain_at rule false rest)

-- A field that begins here, with a character that is no white space: its name, and unless it is there a second
-- time, its value after white space.
unfoldable pub field_at : ℕ → ℕ → Tag → Values → List Located → Result (Values × ℕ) MarkupFault
field_at rule start tag values rest =
    name_at rule start rest >>= λ name.
    let field : Field = field_of tag (text_of (trim_end name.0)) in
    let following : List Located = drop name.1 rest in
    (if has_value field values then Err (second_field rule start)
    else map_ok (λ value. (with_value field value.0 values, name.1 + (spaces following + value.1)))
    (value_at rule (trim_start following)))

-- after a `;`: white space, and then a field, or none where `;`, `>>` or the end of the text follows
abbrev pub field_or_none : ℕ → Tag → Values → List Located → Result (Values × ℕ) MarkupFault
field_or_none rule tag values [] = Ok (values, 0)
field_or_none rule tag values (x ∷ rest) =
    if at_end (x ∷ rest) then Ok (values, 0) else field_at rule x.0 tag values (x ∷ rest)

-- The fields of a rule up to its `>>`, from an offset where `;` or `>>` must be. Each `;` takes the field after it;
-- the characters of that field are skipped.
unfoldable pub fields_at : ℕ → Tag → Values → ℕ → List Located → Result (Values × ℕ) MarkupFault
fields_at rule tag values skip [] = Err (fault_at rule NotClosed)
fields_at rule tag values (suc skip) (x ∷ rest) = map_ok (further 1) (fields_at rule tag values skip rest)
fields_at rule tag values zero (x ∷ rest) =
    let others : Values × ℕ → Result (Values × ℕ) MarkupFault =
    λ read. fields_at rule tag read.0 (spaces rest + read.1) rest in
    if begins_with_two greater (x ∷ rest) then Ok (values, 2)
    else (if begins_with semicolon (x ∷ rest) then map_ok (further 1)
    (field_or_none rule tag values (trim_start rest) >>= others)
    else Err (fault_at rule NotClosed))

-- ---- rules

-- a rule: a variable by its name, its original value, and the offset and the text of its pattern; or the begin or the
-- end of an optional part, by its offset
pub data Rule : Type 0 where
  variable : List ℕ → List ℕ → ℕ → List ℕ → Rule
  begin : ℕ → Rule
  finish : ℕ → Rule

-- a variable needs all three fields
abbrev pub complete : ℕ → Option (List ℕ) → Option (List ℕ) → Option (ℕ × List ℕ) → Result Rule MarkupFault
complete rule (Some name) (Some original) (Some pattern) = Ok (variable name original pattern.0 pattern.1)
complete rule _ _ _ = Err (fault_at rule FieldMissing)

-- the rule of a tag and its values, at its end
abbrev pub rule_of : ℕ → Tag → Values → Result Rule MarkupFault
rule_of offset Var values = complete offset values.name values.original values.pattern
rule_of offset BeginOptional values = Ok (begin offset)
rule_of offset EndOptional values = Ok (finish offset)

-- the rule of this tag, from after the tag on
unfoldable pub rule_at : ℕ → Tag → List Located → Result (Rule × ℕ) MarkupFault
rule_at offset tag rest =
    fields_at offset tag no_values 0 (trim_start rest) >>= λ fields.
    map_ok (λ rule. (rule, spaces rest + fields.1)) (rule_of offset tag fields.0)
