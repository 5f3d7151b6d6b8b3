-- A list item begins with a character of ASCII, a dash or a bullet.
use Rattle.std.proofs.Common.{◌≡◌, ◌≢◌, ℕ, zero, suc, ◌+◌, ◌<◌, ◌≤◌, Bool, true, false, not, cond, ◌||◌, ◌==◌, List, [], ◌∷◌, ◌++◌, inl, inr, length, take, drop, get_or, refl, sym, ap, ◌∙◌, arith}
use Rattle.std.specs.Prelude.{nat_le}
use Rattle.std.specs.List.{position_or_len}
use Rattle.std.specs.Int.{is_in_range}
use Rattle.std.specs.Char.{is_whitespace, is_ascii, is_ascii_digit, is_ascii_alphabetic}
use Rattle.std.proofs.lemmas.Bool.{false≢true, and_parts, leb-true, lt-ltb, eqb-true, cases_Bool, cases_lt}
use Rattle.std.proofs.lemmas.List.{take_more, take_all}
use Rattle.lic_kind.specs.Kinds.{is_dash, is_bullet}
use Rattle.lic_kind.specs.LineRules.{LineRules}
use Rattle.lic_trim.specs.Sources.{SourceChar, chars_of}
use Rattle.lic_trim.specs.Lines.{is_bullet_sign, is_roman_digit, is_letter, is_roman, is_item_form, lets_item, item_length}
use Rattle.lic_trim.proofs.ItemLemmas.{item_off, none}
use Rattle.lic_trim.proofs.NoItems.{no_numbers, or_off, and_off, off_and, no_bullet, number, letter, closed}

pub not_in : (low high c : ℕ) → high < c → is_in_range low high c ≡ false
not_in low high c lt = elim (cases_Bool (is_in_range low high c)) [
  | inl is ↦ let le : c ≤ high = leb-true c high (and_parts (nat_le low c) (nat_le c high) is).1 in absurd (omega arith)
  | inr not' ↦ not'
]

pub apart : (c d : ℕ) → c < d → ((c == d) ≡ false) × ((d == c) ≡ false)
apart c d lt = (one c d (λ same. let e : c ≡ d = same in absurd (omega arith)), one d c (λ same. let e : d ≡ c = same in absurd (omega arith)))
  where
    one : (a b : ℕ) → (a ≡ b → ⊥) → (a == b) ≡ false
    one a b other = elim (cases_Bool (a == b)) [ inl is ↦ absurd (other (eqb-true a b is)) | inr not' ↦ not' ]

-- a character is none of these letters if it is no letter
other_letter : (k c : ℕ) → is_ascii_alphabetic k ≡ true → is_ascii_alphabetic c ≡ false → (k == c) ≡ false
other_letter k c letter none = elim (cases_Bool (k == c)) [
  | inl is ↦ absurd (false≢true (sym none ∙ ap is_ascii_alphabetic (sym (eqb-true k c is)) ∙ letter))
  | inr not' ↦ not'
]

-- a character that no number, no letter and no parenthesis is: alone it may be a sign, but no longer word that it begins is an item
module _ (c : ℕ) (no_digit : is_ascii_digit c ≡ false) (no_letter : is_ascii_alphabetic c ≡ false) (no_parenthesis : (c == 0x28) ≡ false) where
  no_roman : is_roman_digit c ≡ false
  no_roman =
      or_off _ _ (other_letter 0x69 c refl no_letter)
      (or_off _ _ (other_letter 0x76 c refl no_letter)
      (or_off _ _ (other_letter 0x78 c refl no_letter)
      (or_off _ _ (other_letter 0x49 c refl no_letter)
      (or_off _ _ (other_letter 0x56 c refl no_letter) (or_off _ _ (other_letter 0x58 c refl no_letter) refl)))))

  longer : (fs : List ℕ) (last : ℕ) → is_item_form ((c ∷ fs) ++ last ∷ []) ≡ false
  longer fs last =
      or_off _ _
      (or_off _ _ (or_off _ _ (no_bullet c fs last) (number c fs last ∙ and_off _ _ (no_numbers c fs no_digit)))
      (letter c fs last ∙ and_off _ _
      (or_off (is_letter (c ∷ fs)) (is_roman (c ∷ fs)) (and_off _ _ (off_and _ _ no_letter)) (and_off _ _ (off_and _ _ no_roman)))))
      (closed c fs last ∙ off_and _ _ no_parenthesis)

  no_long_form : (d : ℕ) (more : List ℕ) → is_item_form (c ∷ d ∷ more) ≡ false
  no_long_form d more =
      let text = d ∷ more in
      let word = c ∷ text in
      let n = length text in
      let next : n + 1 ≡ length word = omega arith in
      let split : word ≡ (c ∷ take (length more) text) ++ get_or word n 0 ∷ [] =
      sym (ap (λ m. take m word) next ∙ take_all (length word) word (omega arith)) ∙ take_more word n 0 (omega arith) in
      ap is_item_form split ∙ longer (take (length more) text) (get_or word n 0)

module _ (c : ℕ) (wide : 128 ≤ c) (dash : is_dash c ≡ false) (bullet : is_bullet c ≡ false) where
  wide_digit : is_ascii_digit c ≡ false
  wide_digit = not_in 48 57 c (omega arith)

  wide_letter : is_ascii_alphabetic c ≡ false
  wide_letter = or_off _ _ (not_in 65 90 c (omega arith)) (not_in 97 122 c (omega arith))

  no_sign : is_bullet_sign c ≡ false
  no_sign = or_off _ _ (or_off _ _ dash bullet) (apart 0x2B c (omega arith)).1

  wide_parenthesis : (c == 0x28) ≡ false
  wide_parenthesis = (apart 0x28 c (omega arith)).1

  -- it does not end an item either
  no_end : ((c == 0x2E) || (c == 0x29)) ≡ false
  no_end = or_off _ _ (apart 0x2E c (omega arith)).1 (apart 0x29 c (omega arith)).1

  alone : is_item_form (c ∷ []) ≡ false
  alone =
      or_off _ _
      (or_off _ _ (or_off _ _ (off_and _ _ no_sign) (off_and _ _ (or_off _ _ no_end (apart 0x3A c (omega arith)).1))) (off_and _ _ no_end))
      (off_and _ _ wide_parenthesis)

  no_front : (n : ℕ) (text : List ℕ) → is_item_form (take n (c ∷ text)) ≡ false
  no_front zero text = refl
  no_front (suc zero) text = alone
  no_front (suc (suc n)) [] = alone
  no_front (suc (suc n)) (d ∷ more) = no_long_form c wide_digit wide_letter wide_parenthesis d (take n more)

  pub no_item_front : (rules : LineRules) (text : List ℕ) → item_length rules (c ∷ text) ≡ 0
  no_item_front rules text =
      let n = position_or_len is_whitespace (c ∷ text) in
      let form = take n (c ∷ text) in
      let lets = lets_item form (drop (length form) (c ∷ text)) in
      sym (item_off rules.items (is_item_form form) lets (length form) (off_and (is_item_form form) lets (no_front n text)))

or_none : (a b : Bool) → (a || b) ≡ false → (a ≡ false) × (b ≡ false)
or_none false b off = (refl, off)
or_none true b off = absurd (false≢true (sym off))

beyond_ascii : (c : ℕ) → is_ascii c ≡ false → 128 ≤ c
beyond_ascii c off = elim (cases_lt c 128) [ inl lt ↦ absurd (false≢true (sym off ∙ lt-ltb c 128 lt)) | inr le ↦ le ]

less : (m n : ℕ) → m < n → m ≢ n
less m n lt = λ e. absurd (omega (arith, lt, e))

more : (m n : ℕ) → n < m → m ≢ n
more m n lt = λ e. absurd (omega (arith, lt, e))

-- where white space is not second, the first word has not one character alone
not_one : (c d : ℕ) (text : List ℕ) → is_whitespace d ≡ false → position_or_len is_whitespace (c ∷ d ∷ text) ≢ 1
not_one c d text dark = go (is_whitespace c) (is_whitespace d) (position_or_len is_whitespace text) dark
  where
    go : (a b : Bool) (n : ℕ) → b ≡ false → cond (not a) (1 + cond (not b) (1 + n) 0) 0 ≢ 1
    go true b n off = less 0 1 (omega arith)
    go false true n off = absurd (false≢true (sym off))
    go false false n off = more (1 + (1 + n)) 1 (omega arith)

-- a sign that has something other than white space after it
pub no_item_sign : (c d : ℕ) → is_ascii_alphabetic c ≡ false → ((is_ascii_digit c || (c == 0x28)) || is_whitespace d) ≡ false
    → (rules : LineRules) (text : List ℕ) → item_length rules (c ∷ d ∷ text) ≡ 0
no_item_sign c d no_letter none rules text =
    let parts = or_none (is_ascii_digit c || (c == 0x28)) (is_whitespace d) none in
    let first = or_none (is_ascii_digit c) (c == 0x28) parts.0 in
    let word = c ∷ d ∷ text in
    let n = position_or_len is_whitespace word in
    let form = take n word in
    let lets = lets_item form (drop (length form) word) in
    sym (item_off rules.items (is_item_form form) lets (length form)
    (off_and (is_item_form form) lets (sign_front first.0 first.1 n text (not_one c d text parts.1))))
  where
    sign_front : is_ascii_digit c ≡ false → (c == 0x28) ≡ false → (n : ℕ) (more : List ℕ) → n ≢ 1 → is_item_form (take n (c ∷ d ∷ more)) ≡ false
    sign_front no_digit no_parenthesis zero more other = refl
    sign_front no_digit no_parenthesis (suc zero) more other = absurd (other refl)
    sign_front no_digit no_parenthesis (suc (suc n)) more other = no_long_form c no_digit no_letter no_parenthesis d (take n more)

-- a line with another first character, and what follows it
pub no_item_line : (line : List SourceChar)
    → (is_ascii (get_or line 0 none).char || is_dash (get_or line 0 none).char || is_bullet (get_or line 0 none).char) ≡ false
    → (rules : LineRules) (past : List ℕ) → item_length rules (chars_of line ++ past) ≡ 0
no_item_line [] off rules past = absurd (false≢true (sym off))
no_item_line (s ∷ line) off rules past =
    let parts = or_none (is_ascii s.char || is_dash s.char) (is_bullet s.char) off in
    let first = or_none (is_ascii s.char) (is_dash s.char) parts.0 in
    no_item_front s.char (beyond_ascii s.char first.0) first.1 parts.1 rules (chars_of line ++ past)
