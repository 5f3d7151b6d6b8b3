-- A file of line rules, a text in UTF-8: what its lines say, its first fault, and the rules that it gives.
use Rattle.std.specs.Prelude.{◌≡◌, ℕ, ◌+◌, ◌<◌, Bool, true, false, not, ◌&&◌, ◌==◌, nat_le, nat_lt, if◌then◌else◌, List, [], ◌∷◌, map, take, filter, length, codes, bytes_eq, option_to_list, Option, Some, None, slice_index_or}
use Rattle.std.specs.Char.{is_whitespace}
use Rattle.std.specs.Str.{chars}
use Rattle.std.specs.List.{flat_map, list_all, slice_split}
use Rattle.std.specs.Option.{option_map_or}
use Rattle.lic_kind.specs.Kinds.{is_dropped}
use Rattle.lic_kind.specs.LineRules.{LineRules, RuleKind, Lead, LeadSpace, Tail, TailSpace, TailRepeat}
use Rattle.lic_kind.specs.declared.rules_fault.RulesCause.{RulesCause}
use Rattle.lic_kind.specs.declared.rules_fault.RulesCause.TheVariants.{UnknownRule, BadText, TooManyTexts, OutOfMemory}
use Rattle.lic_kind.specs.declared.rules_fault.RulesFault.{RulesFault}

-- ---- lines

-- What a line says: nothing, as a comment; a text of a kind, none where no single word comes after the kind; whether items are taken;
-- whether separators are; or nothing that is known.
pub data Line : Type 0 where
  comment : Line
  text : RuleKind → Option (List ℕ) → Line
  items : Bool → Line
  separators : Bool → Line
  unknown : Line

-- the words of a line: its longest parts without white space
abbrev pub words_of : List ℕ → List (List ℕ)
words_of cs = filter (λ word. nat_lt 0 (length word)) (slice_split is_whitespace cs)

-- the one word that is after the first
abbrev pub single : List (List ℕ) → Option (List ℕ)
single [] = None
single (word ∷ []) = Some word
single (word ∷ next ∷ words) = None

abbrev pub is_word : List ℕ → List ℕ → Bool
is_word known word = bytes_eq word known

-- the kind of text that this word introduces
abbrev pub kind_named : List ℕ → Option RuleKind
kind_named word =
    if is_word (codes "lead") word then Some Lead
    else (if is_word (codes "lead-space") word then Some LeadSpace
    else (if is_word (codes "tail") word then Some Tail
    else (if is_word (codes "tail-space") word then Some TailSpace
    else (if is_word (codes "tail-repeat") word then Some TailRepeat
    else None))))

-- what this word switches to
abbrev pub switched : List ℕ → Option Bool
switched word = if is_word (codes "on") word then Some true else (if is_word (codes "off") word then Some false else None)

-- what a switch is set to, if one of the two words comes after it
abbrev pub switch : Option (List ℕ) → Option Bool
switch None = None
switch (Some word) = switched word

-- the rule of this word and what comes after it
abbrev pub rule_line : List ℕ → Option (List ℕ) → Line
rule_line word following =
    if is_word (codes "items") word then option_map_or items (switch following) unknown
    else (if is_word (codes "separators") word then option_map_or separators (switch following) unknown
    else option_map_or (λ kind. text kind following) (kind_named word) unknown)

abbrev pub begins_in_hash : List ℕ → Bool
begins_in_hash [] = false
begins_in_hash (c ∷ cs) = c == 0x23

-- a line of these words
abbrev pub line_of_words : List (List ℕ) → Line
line_of_words [] = comment
line_of_words (word ∷ words) = if begins_in_hash word then comment else rule_line word (single words)

abbrev pub line_of : List ℕ → Line
line_of line = line_of_words (words_of (chars line))

-- the lines of a file; U+000A is one byte, which is in no other character
abbrev pub lines_of : List ℕ → List Line
lines_of file = map line_of (slice_split (λ b. b == 0x0A) file)

-- ---- faults

-- a text has at most 16 characters, none of them dropped
abbrev pub is_text : List ℕ → Bool
is_text cs = nat_le (length cs) 16 && list_all (λ c. not (is_dropped c)) cs

-- how many texts a line has, good or bad
abbrev pub text_count : Line → ℕ
text_count comment = 0
text_count (text kind following) = 1
text_count (items on) = 0
text_count (separators on) = 0
text_count unknown = 0

-- how many texts these lines have, repeats counted
abbrev pub texts_before : List Line → ℕ
texts_before [] = 0
texts_before (line ∷ lines) = text_count line + texts_before lines

-- what is wrong with a text after `before` others
abbrev pub cause_of_text : ℕ → Option (List ℕ) → Option RulesCause
cause_of_text before None = if nat_le 256 before then Some TooManyTexts else Some BadText
cause_of_text before (Some cs) =
    if nat_le 256 before then Some TooManyTexts else (if is_text cs then None else Some BadText)

-- what is wrong with a line after `before` texts
abbrev pub cause_of : ℕ → Line → Option RulesCause
cause_of before comment = None
cause_of before (text kind following) = cause_of_text before following
cause_of before (items on) = None
cause_of before (separators on) = None
cause_of before unknown = Some UnknownRule

-- what is wrong with the line of this number, counted from 0
abbrev pub cause_at : List Line → ℕ → Option RulesCause
cause_at lines n = cause_of (texts_before (take n lines)) (slice_index_or lines n comment)

-- nothing is wrong with the first n lines
abbrev pub AreSound : List Line → ℕ → Type 0
AreSound lines n = (k : ℕ) → k < n → cause_at lines k ≡ None

-- this is the fault of its line, counted from 1, and no line before it has one
pub record IsFirstFault (lines : List Line) (fault : RulesFault) : Type 0 where
  pub before : ℕ
  pub line : fault.line ≡ before + 1
  pub within : before < length lines
  pub cause : cause_at lines before ≡ Some fault.cause
  pub first : AreSound lines before

-- what is reported for a cause on this line; lack of memory is on no line
abbrev pub fault_at : ℕ → RulesCause → RulesFault
fault_at number UnknownRule = record { line = number; cause = UnknownRule }
fault_at number BadText = record { line = number; cause = BadText }
fault_at number TooManyTexts = record { line = number; cause = TooManyTexts }
fault_at number OutOfMemory = record { line = 0; cause = OutOfMemory }

-- lack of memory
abbrev pub out_of_memory : RulesFault
out_of_memory = record { line = 0; cause = OutOfMemory }

-- ---- rules

abbrev pub is_kind : RuleKind → RuleKind → Bool
is_kind Lead Lead = true
is_kind LeadSpace LeadSpace = true
is_kind Tail Tail = true
is_kind TailSpace TailSpace = true
is_kind TailRepeat TailRepeat = true
is_kind _ _ = false

-- the text of a line, if it is of this kind
abbrev pub text_in : RuleKind → Line → List (List ℕ)
text_in kind comment = []
text_in kind (text other following) = if is_kind kind other then option_to_list following else []
text_in kind (items on) = []
text_in kind (separators on) = []
text_in kind unknown = []

abbrev pub items_in : Line → List Bool
items_in comment = []
items_in (text kind following) = []
items_in (items on) = on ∷ []
items_in (separators on) = []
items_in unknown = []

abbrev pub separators_in : Line → List Bool
separators_in comment = []
separators_in (text kind following) = []
separators_in (items on) = []
separators_in (separators on) = on ∷ []
separators_in unknown = []

-- the last of these, or this one where there are none
abbrev pub last_or : Bool → List Bool → Bool
last_or on [] = on
last_or on (next ∷ switches) = last_or next switches

-- the rules that these lines give: the texts of each kind in order, and the last of the lines that switch items or separators
abbrev pub rules_in : List Line → LineRules
rules_in lines = record {
  lead = flat_map (text_in Lead) lines;
  lead_space = flat_map (text_in LeadSpace) lines;
  tail = flat_map (text_in Tail) lines;
  tail_space = flat_map (text_in TailSpace) lines;
  tail_repeat = flat_map (text_in TailRepeat) lines;
  items = last_or true (flat_map items_in lines);
  separators = last_or true (flat_map separators_in lines);
}
