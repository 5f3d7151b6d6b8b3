-- Masks of the texts that begin with two characters.
use Rattle.std.proofs.Common.{◌≡◌, ◌≢◌, ℕ, zero, suc, ◌+◌, ◌*◌, ◌%◌, ◌^◌, ◌<◌, max, min, w64, true, false, ◌||◌, ◌&&◌, ◌==◌, inl, inr, List, [], ◌∷◌, length, drop, get_or, set, refl, sym, ap, ◌∙◌, arith, Option, Some, None, IfSome}
use Rattle.std.specs.Prelude.{bit_and, bit_or}
use Rattle.std.specs.Char.{is_whitespace}
use Rattle.std.specs.Int.{bit_at}
use Rattle.std.proofs.lemmas.Bool.{false≢true, and_parts, and_from, or_cases, or_left, or_right, cases_eq, cases_lt, eqb-true}
use Rattle.std.proofs.lemmas.List.{get_or-set_same, get_or-set_other}
use Rattle.std.proofs.lemmas.Nat.Bits.{bit_at-lt, bit_at-zero, bit_at_and, bit_at_or, bit_at_set_same}
use Rattle.lic_kind.specs.Beginnings.{has_bit, may_be_next, may_begin}

pub some_weaker : (o : Option ℕ) (P Q : ℕ → Type 0) → ((n : ℕ) → P n → Q n) → IfSome o P → IfSome o Q
some_weaker None P Q more is = is
some_weaker (Some n) P Q more is = more n is

-- what two clauses say of an answer, as far as there is one
pub some_both : (o : Option ℕ) (P Q R : ℕ → Type 0) → ((n : ℕ) → P n → Q n → R n) → IfSome o P → IfSome o Q → IfSome o R
some_both None P Q R more p q = p
some_both (Some n) P Q R more p q = more n p q

-- ---- bits

either : (m n : ℕ) → m < 2 → n < 2 → (max m n == 1) ≡ ((m == 1) || (n == 1))
either zero zero p q = refl
either zero (suc zero) p q = refl
either (suc zero) zero p q = refl
either (suc zero) (suc zero) p q = refl
either (suc (suc m)) n p q = absurd (omega arith)
either m (suc (suc n)) p q = absurd (omega arith)

pub has_bit_or : (a b k : ℕ) → has_bit (bit_or a b) k ≡ (has_bit a k || has_bit b k)
has_bit_or a b k = ap (λ n. n == 1) (bit_at_or a b k) ∙ either (bit_at a k) (bit_at b k) (bit_at-lt a k) (bit_at-lt b k)

both : (m n : ℕ) → m < 2 → n < 2 → (min m n == 1) ≡ ((m == 1) && (n == 1))
both zero zero p q = refl
both zero (suc zero) p q = refl
both (suc zero) zero p q = refl
both (suc zero) (suc zero) p q = refl
both (suc (suc m)) n p q = absurd (omega arith)
both m (suc (suc n)) p q = absurd (omega arith)

has_bit_and : (a b k : ℕ) → has_bit (bit_and a b) k ≡ (has_bit a k && has_bit b k)
has_bit_and a b k = ap (λ n. n == 1) (bit_at_and a b k) ∙ both (bit_at a k) (bit_at b k) (bit_at-lt a k) (bit_at-lt b k)

-- without the last bit, a text has one of its own
pub own_bit : (mask i : ℕ) → has_bit mask 63 ≡ false → has_bit mask (min (0 + i) 63) ≡ true → has_bit mask i ≡ true
own_bit mask i own on = elim (cases_lt i 63) [
  | inl low ↦
      let is : i ≡ min (0 + i) 63 = omega arith in
      ap (has_bit mask) is ∙ on
  | inr high ↦
      let is : 63 ≡ min (0 + i) 63 = omega arith in
      absurd (false≢true (sym own ∙ ap (has_bit mask) is ∙ on))
]

-- a mask with a bit is not zero
pub some_bit : (mask k : ℕ) → has_bit mask k ≡ true → mask ≢ 0
some_bit mask k on = λ none. false≢true (sym (ap (λ n. n == 1) (bit_at-zero k)) ∙ ap (λ n. has_bit n k) (sym none) ∙ on)

-- a bit alone
pub bit_alone : (k n : ℕ) → k < 64 → k ≡ n → has_bit (1 * 2 ^ n % 2 ^ 64) k ≡ true
bit_alone k n small same =
    ap (λ m. has_bit (1 * 2 ^ m % 2 ^ 64) k) (sym same) ∙ ap (λ m. has_bit m k) (sym (zero_or (1 * 2 ^ k % 2 ^ 64)))
    ∙ ap (λ b. b == 1) (bit_at_set_same w64 0 k small)
  where
    zero_or : (n : ℕ) → bit_or 0 n ≡ n
    zero_or n = refl

-- one of the first, and one of the second or of those without a second
pub of_both : (a b o k : ℕ) → has_bit a k ≡ true → (has_bit b k || has_bit o k) ≡ true → has_bit (bit_and a (bit_or b o)) k ≡ true
of_both a b o k first second =
    has_bit_and a (bit_or b o) k ∙ and_from (has_bit a k) (has_bit (bit_or b o) k) first (has_bit_or b o k ∙ second)

pub are_both : (a b o k : ℕ) → has_bit (bit_and a (bit_or b o)) k ≡ true → (has_bit a k ≡ true) × ((has_bit b k || has_bit o k) ≡ true)
are_both a b o k on =
    let parts = and_parts (has_bit a k) (has_bit (bit_or b o) k) (sym (has_bit_and a (bit_or b o) k) ∙ on) in
    (parts.0, sym (has_bit_or b o k) ∙ parts.1)

-- ---- a list of masks, one of them with more bits

module _ (masks : List ℕ) (slot more : ℕ) (inside : slot < length masks) where
  abbrev pub with_bits : List ℕ
  with_bits = set masks slot (bit_or (get_or masks slot 0) more)

  pub bits_are_there : (j : ℕ) → has_bit more j ≡ true → has_bit (get_or with_bits slot 0) j ≡ true
  bits_are_there j on =
      ap (λ m. has_bit m j) (get_or-set_same masks slot (bit_or (get_or masks slot 0) more) 0 inside)
      ∙ has_bit_or (get_or masks slot 0) more j ∙ or_right (has_bit (get_or masks slot 0) j) (has_bit more j) on

  pub bits_stay : (k j : ℕ) → has_bit (get_or masks k 0) j ≡ true → has_bit (get_or with_bits k 0) j ≡ true
  bits_stay k j on = elim (cases_eq k slot) [
    | inl same ↦
        ap (λ n. has_bit (get_or with_bits n 0) j) same
        ∙ ap (λ m. has_bit m j) (get_or-set_same masks slot (bit_or (get_or masks slot 0) more) 0 inside)
        ∙ has_bit_or (get_or masks slot 0) more j
        ∙ or_left (has_bit (get_or masks slot 0) j) (has_bit more j) (ap (λ n. has_bit (get_or masks n 0) j) (sym same) ∙ on)
    | inr other ↦ ap (λ m. has_bit m j) (get_or-set_other masks slot k (bit_or (get_or masks slot 0) more) 0 other) ∙ on
  ]

-- ---- the first two characters of a text

pub begin_parts : (c d : ℕ) (t : List ℕ) → 0 < length t → is_whitespace (get_or t 0 0) ≡ false → may_begin c d t ≡ true
    → (c ≡ get_or t 0 0) × (may_be_next d (drop 1 t) ≡ true)
begin_parts c d [] some dark may = absurd (omega arith)
begin_parts c d (a ∷ t) some dark may = elim (or_cases (is_whitespace a) ((c == a) && may_be_next d t) may) [
  | inl white ↦ absurd (false≢true (sym dark ∙ white))
  | inr same ↦
      let parts = and_parts (c == a) (may_be_next d t) same in
      (eqb-true c a parts.0, parts.1)
]

pub second_is : (d : ℕ) (t : List ℕ) → 1 < length t → may_be_next d (drop 1 t) ≡ true → d ≡ get_or t 1 0
second_is d [] long may = absurd (omega arith)
second_is d (a ∷ []) long may = absurd (omega arith)
second_is d (a ∷ b ∷ t) long may = eqb-true d b may
