-- What is taken from a line: its lead, an item, its tail; and what is left of it.
use Rattle.std.specs.Prelude.{ℕ, Bool, true, false, not, ◌&&◌, ◌||◌, ◌==◌, nat_le, if◌then◌else◌, List, [], ◌∷◌, ◌++◌, length, drop, codes, bytes_eq, find, option_to_list, None}
use Rattle.std.specs.List.{list_any, list_all, before_first, slice_split}
use Rattle.std.specs.Option.{option_map_or}
use Rattle.std.specs.Int.{is_in_range}
use Rattle.std.specs.Char.{is_whitespace, is_ascii_digit, is_ascii_alphabetic}
use Rattle.lic_kind.specs.Kinds.{is_dash, is_bullet, kind_of, is_mark_kind}
use Rattle.lic_trim.specs.Texts.{is_sequence, longest_front, longest_end, ends_in}
use Rattle.lic_kind.specs.LineRules.{LineRules}
pub use Rattle.lic_trim.specs.declared.line_part.LinePart.{LinePart}
pub use Rattle.lic_trim.specs.declared.cut.LineCut.{LineCut}

-- ---- pieces of a lead and of a tail

abbrev pub is_one_of : List (List ℕ) → List ℕ → Bool
is_one_of texts text = list_any (λ t. bytes_eq t text) texts

-- one white space character
abbrev pub is_space : List ℕ → Bool
is_space [] = false
is_space (c ∷ []) = is_whitespace c
is_space (c ∷ d ∷ text) = false

-- a separator: three or more of one same mark
abbrev pub is_separator : List ℕ → Bool
is_separator [] = false
is_separator (c ∷ text) = is_mark_kind (kind_of c) && nat_le 2 (length text) && list_all (λ d. d == c) text

-- whether `text` is the first text with its first character once or more
abbrev pub repeats : List ℕ → List ℕ → Bool
repeats [] text = false
repeats (c ∷ rest) [] = false
repeats (c ∷ rest) (d ∷ text) = (d == c) && (bytes_eq rest text || repeats (c ∷ rest) text)

-- one white space character, and then one of these texts
abbrev pub is_after_space : List (List ℕ) → List ℕ → Bool
is_after_space texts [] = false
is_after_space texts (c ∷ text) = is_whitespace c && is_one_of texts text

abbrev pub is_lead_piece : LineRules → List ℕ → Bool
is_lead_piece rules text = is_space text || (rules.separators && is_separator text) || is_one_of rules.lead text
    || ends_in is_whitespace (is_one_of rules.lead_space) text

abbrev pub is_tail_piece : LineRules → List ℕ → Bool
is_tail_piece rules text = is_space text || (rules.separators && is_separator text) || is_one_of rules.tail text
    || is_after_space rules.tail_space text || list_any (λ t. repeats t text) rules.tail_repeat

-- ---- items

abbrev pub is_roman_digit : ℕ → Bool
is_roman_digit c = list_any (λ d. d == c) (codes "ivxIVX")

-- one to three ASCII digits
abbrev pub is_number : List ℕ → Bool
is_number text = is_in_range 1 3 (length text) && list_all is_ascii_digit text

-- one ASCII letter
abbrev pub is_letter : List ℕ → Bool
is_letter text = (length text == 1) && list_all is_ascii_alphabetic text

-- one to five letters of a small Roman numeral
abbrev pub is_roman : List ℕ → Bool
is_roman text = is_in_range 1 5 (length text) && list_all is_roman_digit text

abbrev pub is_bullet_sign : ℕ → Bool
is_bullet_sign c = is_dash c || is_bullet c || (c == 0x2B)

-- one dash, bullet or plus sign
abbrev pub is_bullet_item : List ℕ → Bool
is_bullet_item text = (length text == 1) && list_all is_bullet_sign text

-- numbers with full stops between them, and then `.`, `)` or `:`
abbrev pub is_number_item : List ℕ → Bool
is_number_item text = ends_in (λ c. (c == 0x2E) || (c == 0x29)
    || (c == 0x3A)) (λ front. list_all is_number (slice_split (λ c. c == 0x2E) front)) text

-- a letter or a Roman numeral, and then `.` or `)`
abbrev pub is_letter_item : List ℕ → Bool
is_letter_item text = ends_in (λ c. (c == 0x2E) || (c == 0x29)) (λ front. is_letter front || is_roman front) text

-- a number, a letter or a Roman numeral, in parentheses
abbrev pub is_item_in_parentheses : List ℕ → Bool
is_item_in_parentheses [] = false
is_item_in_parentheses (c ∷ text) =
    (c == 0x28) && ends_in (λ d. d == 0x29) (λ front. is_number front || is_letter front || is_roman front) text

abbrev pub is_item_form : List ℕ → Bool
is_item_form text = is_bullet_item text || is_number_item text || is_letter_item text || is_item_in_parentheses text

abbrev pub is_copyright_sign : List ℕ → Bool
is_copyright_sign text = bytes_eq text (codes "(c)") || bytes_eq text (codes "(C)")

-- Whether the text after an item form lets it be an item: white space, and then another character;
-- this is no digit where the form could be the copyright sign of a year.
abbrev pub lets_item : List ℕ → List ℕ → Bool
lets_item form [] = false
lets_item form (c ∷ text) = is_whitespace c
    && option_map_or (λ d. not (is_copyright_sign form && is_ascii_digit d))
    (find (λ d. not (is_whitespace d)) text) false

-- how long the item at the start of a text is, or 0
abbrev pub item_length : LineRules → List ℕ → ℕ
item_length rules text =
    let form = before_first is_whitespace text in
    if rules.items && is_item_form form && lets_item form (drop (length form) text) then length form else 0

-- ---- the cut of a line

-- a line of a whole text
abbrev pub whole_line : LinePart
whole_line = record { has_front = true; has_end = true; past = None }

abbrev pub lead_length : LineRules → LinePart → List ℕ → ℕ
lead_length rules part text = if part.has_front then longest_front (is_sequence (is_lead_piece rules)) text else 0

-- the item at the start of what the lead left
abbrev pub item_after_lead : LineRules → LinePart → List ℕ → ℕ
item_after_lead rules part rest = if part.has_front then item_length rules (rest ++ option_to_list part.past) else 0

-- the tail of what lead and item left
abbrev pub tail_length : LineRules → LinePart → List ℕ → ℕ
tail_length rules part left = if part.has_end then longest_end (is_sequence (is_tail_piece rules)) left else 0

abbrev pub cut_of : LineRules → LinePart → List ℕ → LineCut
cut_of rules part text =
    let lead = lead_length rules part text in
    let item = item_after_lead rules part (drop lead text) in
    record { lead = lead; item = item; tail = tail_length rules part (drop item (drop lead text)) }
