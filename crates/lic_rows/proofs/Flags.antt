-- Words seen as a list of flags.
use Rattle.std.proofs.Common.{◌≡◌, ◌≢◌, ℕ, ◌+◌, ◌/◌, ◌<◌, ◌≤◌, Bool, true, false, List, get_or, length, replicate, set, refl, ap, sym, ◌∙◌, arith, inl, inr}
use Rattle.std.proofs.lemmas.Bool.{cases_lt, cases_eq}
use Rattle.std.proofs.lemmas.List.{get_or_past, get_or-replicate, length-replicate, ext_get_or, get_or-set_same, get_or-set_other, length-set}
use Rattle.std.proofs.lemmas.List.FromFn.{get_or-map-range_with_len, length-map-range_with_len}
use Rattle.std.specs.Prelude.{Option, Some, None, IfSome, IfNone, ◌||◌}
use Rattle.lic_rows.specs.Bits.{has, flags, flag_at, IsKeptOutside}
use Rattle.lic_rows.proofs.Sets.{unset_in_zero}

pub length-flags : (n : ℕ) (row : List ℕ) → length (flags n row) ≡ n
length-flags n row = length-map-range_with_len (λ b. has row b) 0 n

-- rows of as many flags have as many words
module _ (n m : ℕ) (xs ys : List ℕ) (same : length (flags n xs) ≡ length (flags m ys)) where
  pub same_flags : n ≡ m
  same_flags = sym (length-flags n xs) ∙ same ∙ length-flags m ys

  pub same_words : length xs ≡ n / 64 + 1 → length ys ≡ m / 64 + 1 → length xs ≡ length ys
  same_words e f = e ∙ ap (λ k. k / 64 + 1) same_flags ∙ sym f

pub flag-inside : (n : ℕ) (row : List ℕ) (k : ℕ) → k < n → flag_at (flags n row) k ≡ has row k
flag-inside n row k inside = get_or-map-range_with_len (λ b. has row b) 0 n k k false inside (omega arith)

-- where no bit is set after them
pub flag-is : (n : ℕ) (row : List ℕ) → ((k : ℕ) → n ≤ k → has row k ≡ false) → (k : ℕ) → flag_at (flags n row) k ≡ has row k
flag-is n row rest k = elim (cases_lt k n) [
  | inl inside ↦ flag-inside n row k inside
  | inr past ↦ get_or_past (flags n row) k false (omega (arith, length-flags n row)) ∙ sym (rest k past)
]

module _ (n : ℕ) (old new : List ℕ) (rest : (k : ℕ) → n ≤ k → has old k ≡ false) (from to : ℕ) (fits : to ≤ n)
    (kept : IsKeptOutside from to (has old) (has new)) where
  pub rest_kept : (k : ℕ) → n ≤ k → has new k ≡ false
  rest_kept k past = kept.past k (omega arith) ∙ rest k past

  pub flags_kept : IsKeptOutside from to (flag_at (flags n old)) (flag_at (flags n new))
  flags_kept = record {
    before = λ k low. flag-is n new rest_kept k ∙ kept.before k low ∙ sym (flag-is n old rest k);
    past = λ k high. flag-is n new rest_kept k ∙ kept.past k high ∙ sym (flag-is n old rest k);
  }

pub clear_unset : (m b : ℕ) → has (replicate m 0) b ≡ false
clear_unset m b = unset_in_zero (replicate m 0) b (elim (cases_lt (b / 64) m) [
  | inl inside ↦ get_or-replicate m (b / 64) 0 0 inside
  | inr past ↦ get_or_past (replicate m 0) (b / 64) 0 (omega (arith, length-replicate {A = ℕ} m 0))
])

pub flags_clear : (n m : ℕ) → flags n (replicate m 0) ≡ replicate n false
flags_clear n m = ext_get_or false (flags n (replicate m 0)) (replicate n false) (length-flags n (replicate m 0) ∙ sym (length-replicate n false))
    (λ k inside.
    let low : k < n = omega (arith, inside, length-flags n (replicate m 0)) in
    flag-inside n (replicate m 0) k low ∙ clear_unset m k ∙ sym (get_or-replicate n k false false low))

pub flags_set : (n : ℕ) (old new : List ℕ) (at : ℕ) (flag : Bool) → at < n → has new at ≡ flag → ((b : ℕ) → b ≢ at → has new b ≡ has old b)
    → flags n new ≡ set (flags n old) at flag
flags_set n old new at flag inside here other =
    ext_get_or false (flags n new) (set (flags n old) at flag) (length-flags n new ∙ sym (length-set (flags n old) at flag ∙ length-flags n old))
    (λ k within.
    let low : k < n = omega (arith, within, length-flags n new) in
    flag-inside n new k low ∙ elim (cases_eq k at) [
      | inl same ↦
          ap (λ j. has new j) same ∙ here ∙ sym (ap (λ j. get_or (set (flags n old) at flag) j false) same
          ∙ get_or-set_same (flags n old) at flag false (omega (arith, length-flags n old)))
      | inr apart ↦ other k apart ∙ sym (get_or-set_other (flags n old) at k flag false apart ∙ flag-inside n old k low)
    ])

-- ---- what a search answers

module _ (n : ℕ) (row : List ℕ) (from to : ℕ) (fits : to ≤ n) where
  pub found_flag : (found : Option ℕ) → IfSome found (λ at. (from ≤ at) × (at < to) × (has row at ≡ true) × ((b : ℕ) → from ≤ b → b < at → has row b ≡ false))
      → IfSome found (λ at. (from ≤ at) × (at < to) × (flag_at (flags n row) at ≡ true) × ((k : ℕ) → from ≤ k → k < at → flag_at (flags n row) k ≡ false))
  found_flag None h = h
  found_flag (Some at) h = (
    h.0,
    h.1,
    flag-inside n row at (omega (arith, h.1)) ∙ h.2,
    λ k low high. flag-inside n row k (omega (arith, h.1)) ∙ h.3 k low high,
  )

  pub last_flag : (found : Option ℕ) → IfSome found (λ at. (from ≤ at) × (at < to) × (has row at ≡ true) × ((b : ℕ) → at < b → b < to → has row b ≡ false))
      → IfSome found (λ at. (from ≤ at) × (at < to) × (flag_at (flags n row) at ≡ true) × ((k : ℕ) → at < k → k < to → flag_at (flags n row) k ≡ false))
  last_flag None h = h
  last_flag (Some at) h = (
    h.0,
    h.1,
    flag-inside n row at (omega (arith, h.1)) ∙ h.2,
    λ k low high. flag-inside n row k (omega arith) ∙ h.3 k low high,
  )

  pub none_flag : (found : Option ℕ) → IfNone found ((b : ℕ) → from ≤ b → b < to → has row b ≡ false)
      → IfNone found ((k : ℕ) → from ≤ k → k < to → flag_at (flags n row) k ≡ false)
  none_flag None h = λ k low high. flag-inside n row k (omega arith) ∙ h k low high
  none_flag (Some at) h = h

-- ---- joined rows

all_or : (x y : Bool) → (y ≡ true → x ≡ true) → (x || y) ≡ x
all_or true y h = refl
all_or false true h = absurd (let e = h refl in cc)
all_or false false h = refl

none_of : (x y : Bool) → x ≡ false → y ≡ false → (x || y) ≡ false
none_of true y h k = absurd cc
none_of false y h k = k

module _ (n : ℕ) (row other new : List ℕ) (rest : (k : ℕ) → n ≤ k → has row k ≡ false) (other_rest : (k : ℕ) → n ≤ k → has other k ≡ false)
    (joined : (b : ℕ) → has new b ≡ (has row b || has other b)) where
  pub rest_joined : (k : ℕ) → n ≤ k → has new k ≡ false
  rest_joined k past = joined k ∙ none_of (has row k) (has other k) (rest k past) (other_rest k past)

  pub flags_joined : (k : ℕ) → flag_at (flags n new) k ≡ (flag_at (flags n row) k || flag_at (flags n other) k)
  flags_joined k = flag-is n new rest_joined k ∙ joined k
      ∙ ap (λ x. x || has other k) (sym (flag-is n row rest k))
      ∙ ap (λ x. flag_at (flags n row) k || x) (sym (flag-is n other other_rest k))

  pub flags_grown : (b : ℕ) × (has row b ≡ false) × (has other b ≡ true) → (k : ℕ) × (flag_at (flags n row) k ≡ false) × (flag_at (flags n new) k ≡ true)
  flags_grown (b, unset, set) = (
    b,
    flag-is n row rest b ∙ unset,
    flag-is n new rest_joined b ∙ joined b ∙ ap (λ x. x || has other b) unset ∙ set,
  )

  pub flags_same : ((b : ℕ) → has other b ≡ true → has row b ≡ true) → flags n new ≡ flags n row
  flags_same none = ext_get_or false (flags n new) (flags n row) (length-flags n new ∙ sym (length-flags n row))
      (λ k inside. flag-is n new rest_joined k ∙ joined k ∙ all_or (has row k) (has other k) (none k) ∙ sym (flag-is n row rest k))
