-- A line whose second character is a letter that no list item has there.
use Rattle.std.proofs.Common.{◌≡◌, ℕ, zero, suc, ◌+◌, ◌<◌, ◌≤◌, true, false, ◌&&◌, ◌==◌, List, [], ◌∷◌, ◌++◌, inl, inr, length, take, drop, get_or, refl, sym, ap, ◌∙◌, arith}
use Rattle.std.specs.Prelude.{nat_lt, nat_le}
use Rattle.std.specs.List.{list_all, slice_split, position_or_len}
use Rattle.std.specs.Int.{is_in_range}
use Rattle.std.specs.Char.{is_whitespace, is_ascii_digit, is_ascii_alphabetic}
use Rattle.std.proofs.lemmas.Bool.{false≢true, and_parts, or_cases, leb-true, le-ltb, cases_Bool, cond-true, cond-false}
use Rattle.std.proofs.lemmas.List.{take_more, take_all}
use Rattle.std.proofs.lemmas.List.Sums.{passes_at_first}
use Rattle.lic_kind.specs.LineRules.{LineRules}
use Rattle.lic_trim.specs.Lines.{is_roman_digit, is_number, is_letter, is_roman, is_item_form, lets_item, item_length}
use Rattle.lic_trim.proofs.ItemFronts.{apart, not_in}
use Rattle.lic_trim.proofs.ItemLemmas.{item_off, numbers_is, numbers_after}
use Rattle.lic_trim.proofs.NoItems.{ends_item, not_equal, or_off, and_off, off_and, other_end, no_bullet, number, letter, closed}

module _ (a b : ℕ) (open' : (a == 0x28) ≡ false) (alphabetic : is_ascii_alphabetic b ≡ true) (other : is_roman_digit b ≡ false) where
  between : (65 ≤ b) × (b ≤ 122)
  between = elim (or_cases (is_in_range 65 90 b) (is_in_range 97 122 b) alphabetic) [
    | inl capital ↦
        let parts = and_parts (nat_le 65 b) (nat_le b 90) capital in
        let low : 65 ≤ b = leb-true 65 b parts.0 in
        let high : b ≤ 90 = leb-true b 90 parts.1 in
        (low, omega arith)
    | inr small ↦
        let parts = and_parts (nat_le 97 b) (nat_le b 122) small in
        let low : 97 ≤ b = leb-true 97 b parts.0 in
        let high : b ≤ 122 = leb-true b 122 parts.1 in
        (omega arith, high)
  ]

  after : (c : ℕ) → c < 65 → (b == c) ≡ false
  after c lt = (apart c b (omega (arith, between.0))).1

  before : (c : ℕ) → 122 < c → (b == c) ≡ false
  before c lt = (apart b c (omega (arith, between.1))).0

  no_digit : is_ascii_digit b ≡ false
  no_digit = not_in 48 57 b (omega (arith, between.0))

  no_end : ends_item b ≡ false
  no_end = or_off _ _ (or_off _ _ (after 0x2E (omega arith)) (after 0x29 (omega arith))) (after 0x3A (omega arith))

  -- it is no white space
  dark : is_whitespace b ≡ false
  dark =
      let control : (nat_lt 8 b && nat_lt b 14) ≡ false = and_off (nat_lt 8 b) (nat_lt b 14) (le-ltb b 14 (omega (arith, between.0))) in
      let wide : (nat_lt 8191 b && nat_lt b 8203) ≡ false = off_and (nat_lt 8191 b) (nat_lt b 8203) (le-ltb 8191 b (omega (arith, between.1))) in
      or_off _ _
      (or_off _ _
      (or_off _ _
      (or_off _ _
      (or_off _ _
      (or_off _ _
      (or_off _ _
      (or_off _ _
      (or_off _ _ (or_off _ _ control (after 32 (omega arith))) (before 133 (omega arith)))
      (before 160 (omega arith)))
      (before 5760 (omega arith)))
      wide)
      (before 8232 (omega arith)))
      (before 8233 (omega arith)))
      (before 8239 (omega arith)))
      (before 8287 (omega arith)))
      (before 12288 (omega arith))

  no_numbers : (fs : List ℕ) → list_all is_number (slice_split (λ c. c == 0x2E) (a ∷ b ∷ fs)) ≡ false
  no_numbers fs = sym (numbers_is (a ∷ b ∷ fs)) ∙ elim (cases_Bool (a == 0x2E)) [
    | inl stop ↦ cond-true (a == 0x2E) (is_in_range 1 3 0 && numbers_after 0 (b ∷ fs)) (is_ascii_digit a && numbers_after (0 + 1) (b ∷ fs)) stop
    | inr more ↦
        cond-false (a == 0x2E) (is_in_range 1 3 0 && numbers_after 0 (b ∷ fs)) (is_ascii_digit a && numbers_after (0 + 1) (b ∷ fs)) more
        ∙ and_off (is_ascii_digit a) _
        (cond-false (b == 0x2E) (is_in_range 1 3 (0 + 1) && numbers_after 0 fs) (is_ascii_digit b && numbers_after (0 + 1 + 1) fs) (after 0x2E (omega arith))
        ∙ off_and _ _ no_digit)
  ]

  longer : (fs : List ℕ) (last : ℕ) → is_item_form ((a ∷ b ∷ fs) ++ last ∷ []) ≡ false
  longer fs last =
      or_off _ _
      (or_off _ _ (or_off _ _ (no_bullet a (b ∷ fs) last) (number a (b ∷ fs) last ∙ and_off _ _ (no_numbers fs)))
      (letter a (b ∷ fs) last ∙ and_off _ _
      (or_off (is_letter (a ∷ b ∷ fs)) (is_roman (a ∷ b ∷ fs))
      (off_and _ _ (not_equal (length (a ∷ b ∷ fs)) 1 (omega arith)))
      (and_off _ _ (and_off (is_roman_digit a) _ (off_and _ _ other))))))
      (closed a (b ∷ fs) last ∙ off_and _ _ open')

  no_form : (text : List ℕ) → is_item_form (a ∷ b ∷ text) ≡ false
  no_form [] = other_end a [] b no_end
  no_form (d ∷ more) =
      let text = d ∷ more in
      let word = a ∷ b ∷ text in
      let n = length (b ∷ text) in
      let next : n + 1 ≡ length word = omega arith in
      let split : word ≡ (a ∷ b ∷ take (length more) text) ++ get_or word n 0 ∷ [] =
      sym (ap (λ m. take m word) next ∙ take_all (length word) word (omega arith)) ∙ take_more word n 0 (omega arith) in
      ap is_item_form split ∙ longer (take (length more) text) (get_or word n 0)

  -- the first word is empty, or has both
  no_front : (text : List ℕ) (n : ℕ) → n ≡ position_or_len is_whitespace (a ∷ b ∷ text) → is_item_form (take n (a ∷ b ∷ text)) ≡ false
  no_front text zero is = refl
  no_front text (suc zero) is =
      let line = a ∷ b ∷ text in
      absurd (false≢true (sym dark ∙ ap (λ k. is_whitespace (get_or line k 0)) is ∙ passes_at_first is_whitespace line 0 (omega (arith, is))))
  no_front text (suc (suc n)) is = no_form (take n text)

  no_item_pair : (rules : LineRules) (text : List ℕ) → item_length rules (a ∷ b ∷ text) ≡ 0
  no_item_pair rules text =
      let line = a ∷ b ∷ text in
      let n = position_or_len is_whitespace line in
      let form = take n line in
      let lets = lets_item form (drop (length form) line) in
      sym (item_off rules.items (is_item_form form) lets (length form) (off_and (is_item_form form) lets (no_front text n refl)))

pub no_item_word : (rules : LineRules) (line : List ℕ) → 2 ≤ length line → (get_or line 0 0 == 0x28) ≡ false
    → is_ascii_alphabetic (get_or line 1 0) ≡ true → is_roman_digit (get_or line 1 0) ≡ false → item_length rules line ≡ 0
no_item_word rules [] long open' alphabetic other = absurd (omega arith)
no_item_word rules (a ∷ []) long open' alphabetic other = absurd (omega arith)
no_item_word rules (a ∷ b ∷ text) long open' alphabetic other = no_item_pair a b open' alphabetic other rules text
