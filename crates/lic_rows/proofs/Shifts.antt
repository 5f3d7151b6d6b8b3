-- Bits that move to the next number.
use Rattle.std.proofs.Common.{◌≡◌, ℕ, zero, suc, ◌-◌, ◌*◌, ◌/◌, ◌%◌, ◌^◌, ◌<◌, ◌≤◌, List, get_or, length, refl, ap, sym, ◌∙◌, arith, Bool, true, false, ◌&&◌, inl, inr}
use Rattle.std.proofs.lemmas.Bool.{cases_lt, cases_eq, lt-ltb, le-ltb}
use Rattle.std.proofs.lemmas.List.{get_or_past}
use Rattle.std.proofs.lemmas.Grind.{common_steps}
use lib.ListN.{set}
use Rattle.std.proofs.lemmas.Nat.{shr_split}
use Rattle.std.proofs.lemmas.Nat.Bits.{bit_at_or, bit_at_and, bit_at-suc, bit_at_above, bit_at_cat_low, bit_at_lowest, bit_at_ones, bit_at_ones_above, bit_at-lt}
use Rattle.std.specs.Prelude.{◌==◌, bit_or, bit_and, nat_lt}
use Rattle.std.specs.Int.{bit_at}
use Rattle.lic_rows.specs.Bits.{has}
use Rattle.lic_rows.proofs.Sets.{unset_in_zero}

bit_at_low : (n i : ℕ) → i < 64 → bit_at (n % 2 ^ 64) i ≡ bit_at n i
bit_at_low n i small = sym (bit_at_cat_low (n / 2 ^ 64) 64 (n % 2 ^ 64) i small) ∙ ap (λ m. bit_at m i) (shr_split n 64)

doubled : (x i : ℕ) → suc i < 64 → bit_at (x * 2 ^ 1 % 2 ^ 64) (suc i) ≡ bit_at x i
doubled x i small =
    let half : x * 2 ^ 1 / 2 ≡ x = omega arith in
    bit_at_low (x * 2 ^ 1) (suc i) small ∙ bit_at-suc (x * 2 ^ 1) i ∙ ap (λ m. bit_at m i) half

doubled_lowest : (x : ℕ) → bit_at (x * 2 ^ 1 % 2 ^ 64) 0 ≡ 0
doubled_lowest x = let even : x * 2 ^ 1 % 2 ≡ 0 = omega arith in bit_at_low (x * 2 ^ 1) 0 (omega arith) ∙ bit_at_lowest (x * 2 ^ 1) ∙ even

-- with the bit that the word below lends
lent : (x carry i : ℕ) → carry < 2 → suc i < 64 → bit_at (bit_or (x * 2 ^ 1 % 2 ^ 64) carry) (suc i) ≡ bit_at x i
lent x carry i one small =
    let none : bit_at carry (suc i) ≡ 0 = bit_at_above carry 1 (suc i) one (omega arith) in
    let kept = doubled x i small in
    let both = bit_at_or (x * 2 ^ 1 % 2 ^ 64) carry (suc i) in
    omega arith

lent_lowest : (x y : ℕ) → bit_at (bit_or (x * 2 ^ 1 % 2 ^ 64) (y / 2 ^ 63)) 0 ≡ bit_at y 63
lent_lowest x y =
    let none = doubled_lowest x in
    let here : bit_at (y / 2 ^ 63) 0 ≡ bit_at y 63 = bit_at_lowest (y / 2 ^ 63) in
    let both = bit_at_or (x * 2 ^ 1 % 2 ^ 64) (y / 2 ^ 63) 0 in
    omega arith

module _ (old new : List ℕ) (fits : (k : ℕ) → get_or old k 0 < 2 ^ 64)
    (first : get_or new 0 0 ≡ get_or old 0 0 * 2 ^ 1 % 2 ^ 64)
    (rest : (k : ℕ) → suc k < length old → get_or new (suc k) 0 ≡ bit_or (get_or old (suc k) 0 * 2 ^ 1 % 2 ^ 64) (get_or old k 0 / 2 ^ 63)) where
  pub none_first : has new 0 ≡ false
  none_first = ap (λ w. bit_at w 0 == 1) first ∙ ap (λ n. n == 1) (doubled_lowest (get_or old 0 0))

  inside : (k i : ℕ) → k < length old → suc i < 64 → bit_at (get_or new k 0) (suc i) ≡ bit_at (get_or old k 0) i
  inside zero i within small = ap (λ w. bit_at w (suc i)) first ∙ doubled (get_or old 0 0) i small
  inside (suc k) i within small =
      ap (λ w. bit_at w (suc i)) (rest k within)
      ∙ lent (get_or old (suc k) 0) (get_or old k 0 / 2 ^ 63) i (let f = fits k in omega arith) small

  pub shifted : (b : ℕ) → suc b < 64 * length old → has new (suc b) ≡ has old b
  shifted b within = elim (cases_eq (b % 64) 63) [
    | inl last ↦
        let word : suc b / 64 ≡ suc (b / 64) = omega arith in
        let bit : suc b % 64 ≡ 0 = omega arith in
        ap (λ k. bit_at (get_or new k 0) (suc b % 64) == 1) word ∙ ap (λ i. bit_at (get_or new (suc (b / 64)) 0) i == 1) bit
        ∙ ap (λ w. bit_at w 0 == 1) (rest (b / 64) (omega arith))
        ∙ ap (λ n. n == 1) (lent_lowest (get_or old (suc (b / 64)) 0) (get_or old (b / 64) 0))
        ∙ ap (λ i. bit_at (get_or old (b / 64) 0) i == 1) (sym last)
    | inr other ↦
        let word : suc b / 64 ≡ b / 64 = omega arith in
        let bit : suc b % 64 ≡ suc (b % 64) = omega arith in
        ap (λ k. bit_at (get_or new k 0) (suc b % 64) == 1) word ∙ ap (λ i. bit_at (get_or new (b / 64) 0) i == 1) bit
        ∙ ap (λ n. n == 1) (inside (b / 64) (b % 64) (omega arith) (omega arith))
  ]

-- in one word
pub up_here : (row : List ℕ) (at b : ℕ) → b / 64 ≡ at → suc b % 64 ≡ suc (b % 64)
    → (bit_at (get_or row at 0 * 2 ^ 1 % 2 ^ 64) (suc b % 64) == 1) ≡ has row b
up_here row at b word bit =
    rw (← word, bit) (ap (λ n. n == 1) (doubled (get_or row (b / 64) 0) (b % 64) (omega (arith, bit))))

-- the bits below a limit
pub record Cut (old new : List ℕ) (limit : ℕ) : Type 0 where
  pub below : (k : ℕ) → k < limit / 64 → get_or new k 0 ≡ get_or old k 0
  pub here : get_or new (limit / 64) 0 ≡ bit_and (get_or old (limit / 64) 0) (2 ^ (limit % 64) - 1)
  pub above : (k : ℕ) → limit / 64 < k → get_or new k 0 ≡ 0

pub and-true : (x : Bool) → (x && true) ≡ x
and-true true = refl
and-true false = refl

pub and-false : (x : Bool) → (x && false) ≡ false
and-false true = refl
and-false false = refl

kept_bit : (x s i : ℕ) → i < s → bit_at (bit_and x (2 ^ s - 1)) i ≡ bit_at x i
kept_bit x s i low = let o = bit_at_ones s i low in let b = bit_at_and x (2 ^ s - 1) i in let l = bit_at-lt x i in omega arith

lost_bit : (x s i : ℕ) → s ≤ i → bit_at (bit_and x (2 ^ s - 1)) i ≡ 0
lost_bit x s i high = let o = bit_at_ones_above s i high in let b = bit_at_and x (2 ^ s - 1) i in omega arith

pub is_cut : (old new : List ℕ) (limit : ℕ) → Cut old new limit → (b : ℕ) → has new b ≡ (has old b && nat_lt b limit)
is_cut old new limit c b = elim (cases_lt b limit) [
  | inl low ↦
      let kept : has new b ≡ has old b = elim (cases_lt (b / 64) (limit / 64)) [
        | inl before ↦ ap (λ w. bit_at w (b % 64) == 1) (c.below (b / 64) before)
        | inr after ↦
            let word : b / 64 ≡ limit / 64 = omega arith in
            ap (λ k. bit_at (get_or new k 0) (b % 64) == 1) word ∙ ap (λ w. bit_at w (b % 64) == 1) c.here
            ∙ ap (λ n. n == 1) (kept_bit (get_or old (limit / 64) 0) (limit % 64) (b % 64) (omega arith))
            ∙ ap (λ k. bit_at (get_or old k 0) (b % 64) == 1) (sym word)
      ] in
      kept ∙ sym (and-true (has old b)) ∙ ap (λ t. has old b && t) (sym (lt-ltb b limit low))
  | inr high ↦
      let gone : has new b ≡ false = elim (cases_lt (limit / 64) (b / 64)) [
        | inl after ↦ unset_in_zero new b (c.above (b / 64) after)
        | inr before ↦
            let word : b / 64 ≡ limit / 64 = omega arith in
            ap (λ k. bit_at (get_or new k 0) (b % 64) == 1) word ∙ ap (λ w. bit_at w (b % 64) == 1) c.here
            ∙ ap (λ n. n == 1) (lost_bit (get_or old (limit / 64) 0) (limit % 64) (b % 64) (omega arith))
      ] in
      gone ∙ sym (and-false (has old b)) ∙ ap (λ t. has old b && t) (sym (le-ltb b limit high))
]

-- both steps of a shift
pub moved_up : (old mid new : List ℕ) (limit : ℕ) → limit ≤ 64 * length old
    → ((b : ℕ) → suc b < 64 * length old → has mid (suc b) ≡ has old b) → ((b : ℕ) → has new b ≡ (has mid b && nat_lt b limit))
    → (b : ℕ) → has new (suc b) ≡ (has old b && nat_lt (suc b) limit)
moved_up old mid new limit bounded up cut b = elim (cases_lt (suc b) limit) [
  | inl low ↦ cut (suc b) ∙ ap (λ x. x && nat_lt (suc b) limit) (up b (omega arith))
  | inr high ↦
      let off : nat_lt (suc b) limit ≡ false = le-ltb (suc b) limit high in
      cut (suc b) ∙ ap (λ t. has mid (suc b) && t) off ∙ and-false (has mid (suc b))
      ∙ sym (and-false (has old b)) ∙ ap (λ t. has old b && t) (sym off)
]

pub none_stays : (mid new : List ℕ) (limit : ℕ) → has mid 0 ≡ false → ((b : ℕ) → has new b ≡ (has mid b && nat_lt b limit)) → has new 0 ≡ false
none_stays mid new limit none cut = cut 0 ∙ ap (λ x. x && nat_lt 0 limit) none

pub cut_is : (old row : List ℕ) (limit m : ℕ) → limit / 64 < length old → m ≡ 2 ^ (limit % 64) - 1 → length row ≡ length old
    → ((j : ℕ) → j ≤ limit / 64 → get_or row j 0 ≡ get_or (set old (limit / 64) (bit_and (get_or old (limit / 64) 0) m)) j 0)
    → ((j : ℕ) → limit / 64 < j → j < length old → get_or row j 0 ≡ 0)
    → Cut old row limit
cut_is old row limit m within mask same low high = record {
  below = λ k before. low k (omega arith) ∙ grind (arith, common_steps);
  here = low (limit / 64) (omega arith)
      ∙ ap (λ x. get_or (set old (limit / 64) (bit_and (get_or old (limit / 64) 0) x)) (limit / 64) 0) mask
      ∙ grind (arith, common_steps);
  above = λ k after. elim (cases_lt k (length old)) [
    | inl inside ↦ high k after inside
    | inr past ↦ get_or_past row k 0 (omega arith)
  ];
}
