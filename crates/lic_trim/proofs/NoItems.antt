-- Words that have no form of a list item, as their length, their first character and their last show.
use Rattle.std.proofs.Common.{◌≡◌, ℕ, zero, suc, ◌+◌, ◌-◌, ◌<◌, ◌≤◌, Bool, true, false, ◌&&◌, ◌||◌, ◌==◌, List, [], ◌∷◌, ◌++◌, ◌⊎◌, length, take, drop, get_or, refl, sym, ap, ap₂, ◌∙◌, ⊎_elim, arith}
use Rattle.std.specs.Prelude.{nat_le}
use Rattle.std.specs.List.{list_all, slice_split, position_or_len}
use Rattle.std.specs.Int.{is_in_range}
use Rattle.std.specs.Char.{is_whitespace, is_ascii_digit}
use Rattle.std.proofs.lemmas.Bool.{false≢true, leb-true, eqb-true, cases_Bool, cond-true, cond-false}
use Rattle.std.proofs.lemmas.List.{length-append, append-nil, take_more, take_all}
use Rattle.lic_kind.specs.LineRules.{LineRules}
use Rattle.lic_trim.specs.Lines.{is_number, is_letter, is_roman, is_bullet_item, is_number_item, is_letter_item, is_item_in_parentheses, is_item_form, item_length}
use Rattle.lic_trim.proofs.PieceEnds.{ends_in-snoc}
use Rattle.lic_trim.proofs.ItemLemmas.{numbers_is, numbers_after, item_after, item_none, item_off, lets}

-- the signs that an item ends in
abbrev pub ends_item : ℕ → Bool
ends_item c = (c == 0x2E) || (c == 0x29) || (c == 0x3A)

-- a long word that begins as no item does
pub record IsNoLongItem (front : List ℕ) : Type 0 where
  pub long : 6 ≤ length front
  pub no_digit : is_ascii_digit (get_or front 0 0) ≡ false
  pub no_parenthesis : (get_or front 0 0 == 0x28) ≡ false

pub not_equal : (m n : ℕ) → n < m → (m == n) ≡ false
not_equal m n lt = ⊎_elim (λ yes. let same : m ≡ n = eqb-true m n yes in absurd (omega arith)) (λ none. none) (cases_Bool (m == n))

not_in_range : (low high n : ℕ) → high < n → is_in_range low high n ≡ false
not_in_range low high n lt = at (nat_le low n) (nat_le n high)
    (⊎_elim (λ yes. let le : n ≤ high = leb-true n high yes in absurd (omega arith)) (λ none. none)
    (cases_Bool (nat_le n high)))
  where
    at : (a b : Bool) → b ≡ false → (a && b) ≡ false
    at true b off = off
    at false b off = refl

pub and_off : (a b : Bool) → b ≡ false → (a && b) ≡ false
and_off true b off = off
and_off false b off = refl

pub off_and : (a b : Bool) → a ≡ false → (a && b) ≡ false
off_and a b off = ap (λ x. x && b) off

pub or_off : (a b : Bool) → a ≡ false → b ≡ false → (a || b) ≡ false
or_off a b x y = ap₂ (λ p q. p || q) x y

or_left_off : (a b : Bool) → (a || b) ≡ false → a ≡ false
or_left_off false b h = refl
or_left_off true b h = h

pub no_numbers : (f : ℕ) (fs : List ℕ) → is_ascii_digit f ≡ false → list_all is_number (slice_split (λ c. c == 0x2E) (f ∷ fs)) ≡ false
no_numbers f fs no_digit = sym (numbers_is (f ∷ fs)) ∙ ⊎_elim
    (λ stop. cond-true (f == 0x2E) (is_in_range 1 3 0 && numbers_after 0 fs) (is_ascii_digit f && numbers_after (0 + 1) fs) stop)
    (λ other. cond-false (f == 0x2E) (is_in_range 1 3 0 && numbers_after 0 fs) (is_ascii_digit f && numbers_after (0 + 1) fs) other ∙ off_and _ _ no_digit)
    (cases_Bool (f == 0x2E))

module _ (f : ℕ) (fs : List ℕ) (c : ℕ) where
  abbrev word : List ℕ
  word = (f ∷ fs) ++ c ∷ []

  pub no_bullet : is_bullet_item word ≡ false
  no_bullet = let many = length-append fs (c ∷ []) in off_and _ _ (not_equal (length word) 1 (omega arith))

  pub number : is_number_item word ≡ (ends_item c && list_all is_number (slice_split (λ d. d == 0x2E) (f ∷ fs)))
  number = ends_in-snoc ends_item (λ front. list_all is_number (slice_split (λ d. d == 0x2E) front)) (f ∷ fs) c

  pub letter : is_letter_item word ≡ (((c == 0x2E) || (c == 0x29)) && (is_letter (f ∷ fs) || is_roman (f ∷ fs)))
  letter = ends_in-snoc (λ d. (d == 0x2E) || (d == 0x29)) (λ front. is_letter front || is_roman front) (f ∷ fs) c

  pub closed : is_item_in_parentheses word ≡ ((f == 0x28) && ((c == 0x29) && (is_number fs || is_letter fs || is_roman fs)))
  closed = ap (λ b. (f == 0x28) && b) (ends_in-snoc (λ d. d == 0x29) (λ front. is_number front || is_letter front || is_roman front) fs c)

  pub other_end : ends_item c ≡ false → is_item_form word ≡ false
  other_end off =
      let two : ((c == 0x2E) || (c == 0x29)) ≡ false = or_left_off _ (c == 0x3A) off in
      let one : (c == 0x29) ≡ false = right_off (c == 0x2E) (c == 0x29) two in
      or_off _ _ (or_off _ _ (or_off _ _ no_bullet (number ∙ off_and _ _ off)) (letter ∙ off_and _ _ two)) (closed ∙ and_off (f == 0x28) _ (off_and _ _ one))
    where
      right_off : (a b : Bool) → (a || b) ≡ false → b ≡ false
      right_off false b h = h
      right_off true b h = absurd (false≢true (sym h))

  long_word : IsNoLongItem (f ∷ fs) → is_item_form word ≡ false
  long_word known =
      or_off _ _
      (or_off _ _
      (or_off _ _ no_bullet (number ∙ and_off (ends_item c) _ (no_numbers f fs known.no_digit)))
      (letter ∙ and_off ((c == 0x2E) || (c == 0x29)) _
      (or_off _ _ (off_and _ _ (not_equal (length (f ∷ fs)) 1 (omega (arith, known.long))))
      (off_and _ _ (not_in_range 1 5 (length (f ∷ fs)) (omega (arith, known.long)))))))
      (closed ∙ off_and _ _ known.no_parenthesis)

-- a word of two characters or more
pub no_item_form : (word : List ℕ) → 2 ≤ length word
    → (ends_item (get_or word (length word - 1) 0) ≡ false) ⊎ IsNoLongItem (take (length word - 1) word)
    → is_item_form word ≡ false
no_item_form word long why =
    let n = length word - 1 in
    let next : n + 1 ≡ length word = omega arith in
    let split : word ≡ take n word ++ get_or word n 0 ∷ [] =
    sym (ap (λ m. take m word) next ∙ take_all (length word) word (omega arith))
    ∙ take_more word n 0 (omega arith) in
    ap is_item_form split ∙ at (take n word) (get_or word n 0) (front_some word n long next) why
  where
    front_some : (word : List ℕ) (n : ℕ) → 2 ≤ length word → n + 1 ≡ length word → 0 < length (take n word)
    front_some [] n long next = absurd (omega arith)
    front_some (f ∷ word) zero long next = absurd (omega arith)
    front_some (f ∷ word) (suc n) long next = omega arith

    at : (front : List ℕ) (c : ℕ) → 0 < length front → (ends_item c ≡ false) ⊎ IsNoLongItem front → is_item_form (front ++ c ∷ []) ≡ false
    at [] c some why = absurd (omega arith)
    at (f ∷ fs) c some why = ⊎_elim (other_end f fs c) (long_word f fs c) why

-- no item where the first word is none
pub no_item : (rules : LineRules) (line : List ℕ) (end : ℕ) → end ≡ position_or_len is_whitespace line
    → end < length line → is_item_form (take end line) ≡ false → item_length rules line ≡ 0
no_item rules line end is within none =
    ap (item_length rules) (sym (append-nil line)) ∙ item_after rules line [] end is within
    ∙ sym (item_off rules.items (is_item_form (take end line)) (lets (take end line) (drop (end + 1) line ++ [])) end
    (ap (λ b. b && lets (take end line) (drop (end + 1) line ++ [])) none))

-- none where the line is one word
pub no_item_alone : (rules : LineRules) (line : List ℕ) → length line ≤ position_or_len is_whitespace line → item_length rules line ≡ 0
no_item_alone rules line all = ap (item_length rules) (sym (append-nil line)) ∙ item_none rules line [] all (omega arith)
