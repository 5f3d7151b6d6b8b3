-- Columns seen as a list of flags.
use Rattle.std.proofs.Common.{◌≡◌, zero, suc, ℕ, ◌+◌, ◌-◌, ◌*◌, ◌/◌, ◌%◌, ◌^◌, ◌<◌, ◌≤◌, Bool, true, false, not, ◌&&◌, ◌||◌, List, [], ◌∷◌, ◌++◌, get_or, length, set, refl, ap, sym, ◌∙◌, arith, inl, inr, map}
use Rattle.std.proofs.lemmas.Bool.{cases_lt, cases_eq}
use Rattle.std.proofs.lemmas.List.{get_or_past, ext_get_or, length-append, length_push, get_or_push, get_or_append_left, get_or-append_right, get_or-set_same, get_or-set_other, length-set}
use Rattle.std.proofs.lemmas.List.FromFn.{get_or-map-range_with_len, length-map-range_with_len}
use Rattle.std.specs.List.{range_with_len}
use Rattle.lic_columns.specs.Masks.{flag_at, flag_before, IsColumn, IsMask}
use Rattle.lic_columns.specs.Flags.{bits_of, has, flags_in, is_within, cleared}
use Rattle.lic_letters.proofs.BitLemmas.{has_bit_zero, has_bit_above}
use Rattle.lic_columns.proofs.BitLemmas.{within_is, within_before, within_after}
use Rattle.lic_trim.specs.PieceLengths.{has_bit}

pub length-bits_of : (n mask : ℕ) → length (bits_of n mask) ≡ n
unfolding bits_of
length-bits_of n mask = length-map-range_with_len (λ k. has_bit mask k) 0 n

pub flag_at-bits_of : (n mask k : ℕ) → k < n → flag_at (bits_of n mask) k ≡ has_bit mask k
unfolding bits_of
flag_at-bits_of n mask k inside = get_or-map-range_with_len (λ j. has_bit mask j) 0 n k k false inside (omega arith)

-- the bits of a mask are the flags that it is of
pub bits_of-mask : (mask : ℕ) (flags : List Bool) (n : ℕ) → IsMask mask flags → length flags ≡ n → bits_of n mask ≡ flags
bits_of-mask mask flags n is long = ext_get_or false (bits_of n mask) flags (length-bits_of n mask ∙ sym long)
    (λ i inside. flag_at-bits_of n mask i (omega (arith, length-bits_of n mask)) ∙ is.bit i)

pub IsMask-bits_of : (mask : ℕ) → mask < 2 ^ 64 → IsMask mask (bits_of 64 mask)
IsMask-bits_of mask fits = record {
  bit = λ k. elim (cases_lt k 64) [
    | inl low ↦ sym (flag_at-bits_of 64 mask k low)
    | inr high ↦ has_bit_above mask 64 k fits high ∙ sym (get_or_past (bits_of 64 mask) k false (omega (arith, length-bits_of 64 mask)))
  ];
}

pub length-flags_in : (n : ℕ) (columns : List ℕ) → length (flags_in n columns) ≡ n
length-flags_in n columns = length-map-range_with_len (λ k. has columns k) 0 n

pub flag-inside : (n : ℕ) (columns : List ℕ) (k : ℕ) → k < n → flag_at (flags_in n columns) k ≡ has columns k
flag-inside n columns k inside = get_or-map-range_with_len (λ j. has columns j) 0 n k k false inside (omega arith)

-- where no bit is set after them
pub flag-is : (n : ℕ) (columns : List ℕ) → ((k : ℕ) → n ≤ k → has columns k ≡ false) → (k : ℕ) → flag_at (flags_in n columns) k ≡ has columns k
flag-is n columns rest k = elim (cases_lt k n) [
  | inl inside ↦ flag-inside n columns k inside
  | inr past ↦ get_or_past (flags_in n columns) k false (omega (arith, length-flags_in n columns)) ∙ sym (rest k past)
]

-- ---- one column

pub has_here : (columns : List ℕ) (k i : ℕ) → i < 64 → has columns (k * 64 + i) ≡ has_bit (get_or columns k 0) i
has_here columns k i small =
    let column : (k * 64 + i) / 64 ≡ k = omega arith in
    let bit : (k * 64 + i) % 64 ≡ i = omega arith in
    ap (λ j. has_bit (get_or columns j 0) ((k * 64 + i) % 64)) column ∙ ap (λ j. has_bit (get_or columns k 0) j) bit

module _ (n : ℕ) (columns : List ℕ) (rest : (k : ℕ) → n ≤ k → has columns k ≡ false) (k i : ℕ) (small : i < 64) where
  pub column_is : has_bit (get_or columns k 0) i ≡ flag_at (flags_in n columns) (k * 64 + i)
  column_is = sym (has_here columns k i small) ∙ sym (flag-is n columns rest (k * 64 + i))

  pub no_column : length columns ≤ k → has_bit 0 i ≡ flag_at (flags_in n columns) (k * 64 + i)
  no_column past = ap (λ m. has_bit m i) (sym (get_or_past columns k 0 past)) ∙ column_is

-- the flags before those of a column
module _ (flags : List Bool) (before here moved k : ℕ) (first : has_bit before 63 ≡ flag_before flags (k * 64))
    (bits : (i : ℕ) → i < 64 → has_bit here i ≡ flag_at flags (k * 64 + i))
    (lowest : has_bit moved 0 ≡ has_bit before 63) (rest : (i : ℕ) → suc i < 64 → has_bit moved (suc i) ≡ has_bit here i) where
  pub before_is : (i : ℕ) → i < 64 → has_bit moved i ≡ flag_before flags (k * 64 + i)
  before_is zero small = lowest ∙ first ∙ ap (λ n. flag_before flags n) (let e : k * 64 ≡ k * 64 + 0 = omega arith in e)
  before_is (suc i) small = rest i small ∙ bits i (omega arith) ∙ ap (λ n. flag_before flags n) (let e : suc (k * 64 + i) ≡ k * 64 + suc i = omega arith in e)

-- the first flag of a column
pub first_is : (mask k : ℕ) (flags : List Bool) → IsColumn mask flags k → has_bit mask 0 ≡ flag_at flags (k * 64)
first_is mask k flags is = is.bit 0 (omega arith) ∙ ap (λ n. flag_at flags n) (let e : k * 64 + 0 ≡ k * 64 = omega arith in e)

-- the flags after those of a column
module _ (flags : List Bool) (here after moved k : ℕ) (bits : (i : ℕ) → i < 64 → has_bit here i ≡ flag_at flags (k * 64 + i))
    (next : has_bit after 0 ≡ flag_at flags ((k + 1) * 64))
    (highest : has_bit moved 63 ≡ has_bit after 0) (rest : (i : ℕ) → i < 63 → has_bit moved i ≡ has_bit here (suc i)) where
  pub after_is : (i : ℕ) → i < 64 → has_bit moved i ≡ flag_at flags (suc (k * 64 + i))
  after_is i small = elim (cases_lt i 63) [
    | inl low ↦ rest i low ∙ bits (suc i) (omega arith) ∙ ap (λ n. flag_at flags n) (let e : k * 64 + suc i ≡ suc (k * 64 + i) = omega arith in e)
    | inr high ↦
        let last : i ≡ 63 = omega arith in
        ap (λ j. has_bit moved j) last ∙ highest ∙ next
        ∙ ap (λ n. flag_at flags n) (let e : (k + 1) * 64 ≡ suc (k * 64 + i) = omega arith in e)
  ]

-- ---- a column more

module _ (n : ℕ) (columns : List ℕ) (rest : (k : ℕ) → n ≤ k → has columns k ≡ false) (whole : n % 64 ≡ 0) (size : length columns ≡ n / 64)
    (mask count : ℕ) (small : count ≤ 64) (fits : mask < 2 ^ count) where
  pushed_before : (k : ℕ) → k < n → has (columns ++ mask ∷ []) k ≡ has columns k
  pushed_before k low = ap (λ m. has_bit m (k % 64)) (get_or_append_left columns (mask ∷ []) 0 (k / 64) (omega arith))

  pushed_here : (k : ℕ) → n ≤ k → k < n + 64 → has (columns ++ mask ∷ []) k ≡ has_bit mask (k - n)
  pushed_here k low high =
      let column : k / 64 ≡ length columns = omega arith in
      let bit : k % 64 ≡ k - n = omega arith in
      ap (λ m. has_bit m (k % 64)) (ap (λ j. get_or (columns ++ mask ∷ []) j 0) column ∙ get_or_push columns mask 0 (length columns) refl)
      ∙ ap (λ j. has_bit mask j) bit

  pushed_after : (k : ℕ) → n + 64 ≤ k → has (columns ++ mask ∷ []) k ≡ false
  pushed_after k high = ap (λ m. has_bit m (k % 64)) (get_or_past (columns ++ mask ∷ []) (k / 64) 0 (omega (arith, length_push columns mask)))
      ∙ has_bit_zero (k % 64)

  pub rest_pushed : (k : ℕ) → n + count ≤ k → has (columns ++ mask ∷ []) k ≡ false
  rest_pushed k past = elim (cases_lt k (n + 64)) [
    | inl near ↦ pushed_here k (omega arith) near ∙ has_bit_above mask count (k - n) fits (omega arith)
    | inr far ↦ pushed_after k far
  ]

  pub flags_pushed : flags_in (n + count) (columns ++ mask ∷ []) ≡ flags_in n columns ++ bits_of count mask
  flags_pushed = ext_get_or false (flags_in (n + count) (columns ++ mask ∷ [])) (flags_in n columns ++ bits_of count mask)
      (length-flags_in (n + count) (columns ++ mask ∷ [])
      ∙ sym (let e = length-append (flags_in n columns) (bits_of count mask) in omega (arith, e, length-flags_in n columns, length-bits_of count mask)))
      (λ k within.
      let inside : k < n + count = omega (arith, length-flags_in (n + count) (columns ++ mask ∷ [])) in
      flag-inside (n + count) (columns ++ mask ∷ []) k inside ∙ elim (cases_lt k n) [
        | inl low ↦ pushed_before k low ∙ sym (flag-inside n columns k low)
            ∙ sym (get_or_append_left (flags_in n columns) (bits_of count mask) false k (omega (arith, length-flags_in n columns)))
        | inr high ↦ pushed_here k high (omega arith) ∙ sym (flag_at-bits_of count mask (k - n) (omega arith))
            ∙ sym (get_or-append_right (flags_in n columns) (bits_of count mask) n k false (length-flags_in n columns) high)
      ])

-- ---- without a range

pub length-cleared : (from to : ℕ) (flags : List Bool) → length (cleared from to flags) ≡ length flags
length-cleared from to flags = length-map-range_with_len (λ k. flag_at flags k && not (is_within from to k)) 0 (length flags)

pub flag_at-cleared : (from to : ℕ) (flags : List Bool) (k : ℕ) → flag_at (cleared from to flags) k ≡ (flag_at flags k && not (is_within from to k))
flag_at-cleared from to flags k = elim (cases_lt k (length flags)) [
  | inl inside ↦ get_or-map-range_with_len (λ j. flag_at flags j && not (is_within from to j)) 0 (length flags) k k false inside (omega arith)
  | inr past ↦ get_or_past (cleared from to flags) k false (omega (arith, length-cleared from to flags))
      ∙ ap (λ t. t && not (is_within from to k)) (sym (get_or_past flags k false past))
]

-- the columns are the old ones without this range
pub record IsCleared (from to : ℕ) (old new : List ℕ) : Type 0 where
  pub size : length new ≡ length old
  pub bits : (k : ℕ) → has new k ≡ (has old k && not (is_within from to k))

and-true : (t : Bool) → (t && true) ≡ t
and-true true = refl
and-true false = refl

pub IsCleared-none : (at : ℕ) (old : List ℕ) → IsCleared at at old old
IsCleared-none at old = record {
  size = refl;
  bits = λ k. elim (cases_lt k at) [
    | inl low ↦ sym (ap (λ t. has old k && not t) (within_before at at k low) ∙ and-true (has old k))
    | inr high ↦ sym (ap (λ t. has old k && not t) (within_after at at k high) ∙ and-true (has old k))
  ];
}

and-not : (t u v : Bool) → ((t && not u) && not v) ≡ (t && not (u || v))
and-not true true v = refl
and-not true false v = refl
and-not false u v = refl

module _ (from at next : ℕ) (first : from ≤ at) (order : at ≤ next) (column : next ≤ at / 64 * 64 + 64) where
  two_ranges : (k : ℕ) → k / 64 ≡ at / 64 → (is_within from at k || is_within (at % 64) (next - at / 64 * 64) (k % 64)) ≡ is_within from next k
  two_ranges k here = elim (cases_lt k from) [
    | inl low ↦ ap (λ t. t || is_within (at % 64) (next - at / 64 * 64) (k % 64)) (within_before from at k low)
        ∙ within_before (at % 64) (next - at / 64 * 64) (k % 64) (omega arith) ∙ sym (within_before from next k low)
    | inr high ↦ elim (cases_lt k at) [
      | inl before ↦ ap (λ t. t || is_within (at % 64) (next - at / 64 * 64) (k % 64)) (within_is from at k high before)
          ∙ sym (within_is from next k high (omega arith))
      | inr past ↦ ap (λ t. t || is_within (at % 64) (next - at / 64 * 64) (k % 64)) (within_after from at k past)
          ∙ elim (cases_lt k next) [
            | inl inside ↦ within_is (at % 64) (next - at / 64 * 64) (k % 64) (omega arith) (omega arith) ∙ sym (within_is from next k high inside)
            | inr beyond ↦ within_after (at % 64) (next - at / 64 * 64) (k % 64) (omega arith) ∙ sym (within_after from next k beyond)
          ]
    ]
  ]

  other_column : (k : ℕ) → (k / 64 ≡ at / 64 → ⊥) → is_within from at k ≡ is_within from next k
  other_column k apart = elim (cases_lt k at) [
    | inl low ↦ elim (cases_lt k from) [
      | inl before ↦ within_before from at k before ∙ sym (within_before from next k before)
      | inr inside ↦ within_is from at k inside low ∙ sym (within_is from next k inside (omega arith))
    ]
    | inr high ↦ within_after from at k high ∙ sym (within_after from next k (omega (arith, apart)))
  ]

  pub IsCleared-more : (old new : List ℕ) (mask : ℕ) → IsCleared from at old new → at / 64 < length new
      → ((i : ℕ) → i < 64 → has_bit mask i ≡ (has_bit (get_or new (at / 64) 0) i && not (is_within (at % 64) (next - at / 64 * 64) i)))
      → IsCleared from next old (set new (at / 64) mask)
  IsCleared-more old new mask is inside bits = record {
    size = length-set new (at / 64) mask ∙ is.size;
    bits = λ k. elim (cases_eq (k / 64) (at / 64)) [
      | inl here ↦
          ap (λ j. has_bit (get_or (set new (at / 64) mask) j 0) (k % 64)) here
          ∙ ap (λ m. has_bit m (k % 64)) (get_or-set_same new (at / 64) mask 0 inside)
          ∙ bits (k % 64) (omega arith)
          ∙ ap (λ j. has_bit (get_or new j 0) (k % 64) && not (is_within (at % 64) (next - at / 64 * 64) (k % 64))) (sym here)
          ∙ ap (λ t. t && not (is_within (at % 64) (next - at / 64 * 64) (k % 64))) (is.bits k)
          ∙ and-not (has old k) (is_within from at k) (is_within (at % 64) (next - at / 64 * 64) (k % 64))
          ∙ ap (λ t. has old k && not t) (two_ranges k here)
      | inr apart ↦
          ap (λ m. has_bit m (k % 64)) (get_or-set_other new (at / 64) (k / 64) mask 0 apart)
          ∙ is.bits k ∙ ap (λ t. has old k && not t) (other_column k apart)
    ];
  }

module _ (n from to : ℕ) (old new : List ℕ) (rest : (k : ℕ) → n ≤ k → has old k ≡ false) (is : IsCleared from to old new) where
  pub rest_cleared : (k : ℕ) → n ≤ k → has new k ≡ false
  rest_cleared k past = is.bits k ∙ ap (λ t. t && not (is_within from to k)) (rest k past)

  pub flags_cleared : flags_in n new ≡ cleared from to (flags_in n old)
  flags_cleared = ext_get_or false (flags_in n new) (cleared from to (flags_in n old))
      (length-flags_in n new ∙ sym (length-cleared from to (flags_in n old) ∙ length-flags_in n old))
      (λ k within. flag-is n new rest_cleared k ∙ is.bits k
      ∙ ap (λ t. t && not (is_within from to k)) (sym (flag-is n old rest k)) ∙ sym (flag_at-cleared from to (flags_in n old) k))

-- ---- a list that is made of a test at each of its offsets

-- a list that is made of a test at each of the first n offsets
abbrev pub listed : (ℕ → Bool) → ℕ → List Bool
listed p n = map p (range_with_len 0 n)

pub length-listed : (p : ℕ → Bool) (n : ℕ) → length (listed p n) ≡ n
length-listed p n = length-map-range_with_len p 0 n

pub flag_at-listed : (p : ℕ → Bool) (n k : ℕ) → k < n → flag_at (listed p n) k ≡ p k
flag_at-listed p n k inside = get_or-map-range_with_len p 0 n k k false inside (omega arith)
