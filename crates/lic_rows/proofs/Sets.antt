-- Whether a bit is set in a word and in a row.
use Rattle.std.proofs.Common.{◌≡◌, ℕ, ◌+◌, ◌-◌, ◌*◌, ◌/◌, ◌%◌, ◌^◌, ◌<◌, ◌≤◌, List, get_or, ap, sym, ◌∙◌, arith, Bool, true, false, not, inl, inr, w64, eq-eqb}
use Rattle.std.proofs.lemmas.Bool.{cases_lt, cases_eq, cases_Bool}
use Rattle.std.proofs.lemmas.Nat.{shr-shr, shr_le}
use Rattle.std.proofs.lemmas.Nat.Bits.{bit_at-trailing_zeros, bit_at_above, bit_at-zero}
use Rattle.std.specs.Prelude.{◌==◌, ◌↔◌, IsTrue}
use Rattle.std.specs.Int.{bit_at, trailing_zeros}
use Rattle.lic_rows.specs.Bits.{has}

pub set_here : (row : List ℕ) (k i : ℕ) → i < 64 → bit_at (get_or row k 0) i ≡ 1 → has row (k * 64 + i) ≡ true
set_here row k i small set =
    let word : (k * 64 + i) / 64 ≡ k = omega arith in
    let bit : (k * 64 + i) % 64 ≡ i = omega arith in
    rw (word, bit) (eq-eqb _ 1 set)

-- a word that is not zero has a bit
pub some_bit : (x : ℕ) → 0 < x → x < 2 ^ 64 → (i : ℕ) × (i < 64) × (bit_at x i ≡ 1)
some_bit x some fits = let t = bit_at-trailing_zeros w64 x some fits in (trailing_zeros w64 x, t.0, t.1)

pub set_in_word : (row : List ℕ) (k : ℕ) → 0 < get_or row k 0 → get_or row k 0 < 2 ^ 64 → (b : ℕ) × (k * 64 ≤ b) × (has row b ≡ true)
set_in_word row k some fits =
    let t = some_bit (get_or row k 0) some fits in
    (k * 64 + t.0, omega arith, set_here row k t.0 t.1 t.2)

pub unset_in_zero : (row : List ℕ) (b : ℕ) → get_or row (b / 64) 0 ≡ 0 → has row b ≡ false
unset_in_zero row b none = ap (λ w. bit_at w (b % 64) == 1) none ∙ ap (λ n. n == 1) (bit_at-zero (b % 64))

-- a bit of the word moved down by s
pub set_above : (row : List ℕ) (m : ℕ) → 0 < get_or row (m / 64) 0 / 2 ^ (m % 64) → get_or row (m / 64) 0 < 2 ^ 64 → (b : ℕ) × (m ≤ b) × (has row b ≡ true)
set_above row m some fits =
    let x : ℕ = get_or row (m / 64) 0 in
    let s : ℕ = m % 64 in
    let t = some_bit (x / 2 ^ s) some (omega (arith, shr_le x s)) in
    let bit : bit_at x (s + t.0) ≡ 1 = ap (λ n. n % 2) (sym (shr-shr x s t.0)) ∙ t.2 in
    let small : s + t.0 < 64 = elim (cases_lt (s + t.0) 64) [
      | inl low ↦ low
      | inr high ↦ absurd (let none = bit_at_above x 64 (s + t.0) fits high in omega arith)
    ] in
    (m / 64 * 64 + (s + t.0), omega arith, set_here row (m / 64) (s + t.0) small bit)

pub unset_above : (row : List ℕ) (m b : ℕ) → get_or row (m / 64) 0 / 2 ^ (m % 64) ≡ 0 → m ≤ b → b / 64 ≡ m / 64 → has row b ≡ false
unset_above row m b none after same =
    let x : ℕ = get_or row (m / 64) 0 in
    let s : ℕ = m % 64 in
    let d : ℕ = b % 64 - s in
    let index : s + d ≡ b % 64 = omega arith in
    let bit : bit_at x (b % 64) ≡ 0 =
    ap (λ i. bit_at x i) (sym index) ∙ ap (λ n. n % 2) (sym (shr-shr x s d)) ∙ ap (λ n. n / 2 ^ d % 2) none ∙ bit_at-zero d in
    ap (λ k. bit_at (get_or row k 0) (b % 64) == 1) same ∙ ap (λ n. n == 1) bit

module _ (row : List ℕ) (fits : (k : ℕ) → get_or row k 0 < 2 ^ 64) (result : Bool) where
  pub zero_iff : (result ≡ true → (k : ℕ) → 0 ≤ k → get_or row k 0 ≡ 0) → (result ≡ false → (k : ℕ) × (0 ≤ k) × (0 < get_or row k 0))
      → IsTrue result ↔ ((b : ℕ) → has row b ≡ false)
  zero_iff all some = (
    λ holds b. unset_in_zero row b (all holds (b / 64) (omega arith)),
    λ none. elim (cases_Bool result) [
      | inl is ↦ is
      | inr fails ↦ let s = some fails in let t = set_in_word row s.0 s.2 (fits s.0) in absurd (let e : true ≡ false = sym t.2 ∙ none t.0 in cc)
    ],
  )

  pub from_iff : (m : ℕ) → get_or row (m / 64) 0 / 2 ^ (m % 64) ≡ 0
      → (result ≡ true → (k : ℕ) → m / 64 + 1 ≤ k → get_or row k 0 ≡ 0) → (result ≡ false → (k : ℕ) × (m / 64 + 1 ≤ k) × (0 < get_or row k 0))
      → IsTrue (not result) ↔ ((b : ℕ) × (m ≤ b) × (has row b ≡ true))
  from_iff m here all some = elim (cases_Bool result) [
    | inl is ↦ (
      λ held. absurd (let e : false ≡ true = sym (ap not is) ∙ held in cc),
      λ t. absurd (
          let off : has row t.0 ≡ false = elim (cases_eq (t.0 / 64) (m / 64)) [
            | inl same ↦ unset_above row m t.0 here t.1 same
            | inr other ↦ unset_in_zero row t.0 (all is (t.0 / 64) (omega (arith, t.1)))
          ] in
          let e : true ≡ false = sym t.2 ∙ off in cc),
    )
    | inr fails ↦ (
      λ _. let s = some fails in let t = set_in_word row s.0 s.2 (fits s.0) in (t.0, omega (arith, s.1, t.1), t.2),
      λ _. ap not fails,
    )
  ]
