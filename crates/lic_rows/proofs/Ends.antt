-- Some words of a row, done as a whole.
use Rattle.std.proofs.Common.{◌≡◌, ℕ, ◌+◌, ◌-◌, ◌*◌, ◌/◌, ◌%◌, ◌<◌, ◌≤◌, List, get_or, length, ap, sym, ◌∙◌, arith, rules}
use Rattle.std.proofs.lemmas.List.{places}
use Rattle.std.proofs.lemmas.List.Edits.{get_or-between}
use Rattle.std.specs.Prelude.{◌==◌}
use Rattle.std.specs.Int.{bit_at}
use Rattle.std.specs.List.{slice_range}
use borrow.Rule.Slice.PartMut.{put_mid}
use Rattle.lic_rows.specs.Bits.{has}

-- a bit of a row whose words are in another from `first` on
bit_of : (xs ys : List ℕ) (first b : ℕ) → first * 64 ≤ b → get_or xs (b / 64 - first) 0 ≡ get_or ys (b / 64) 0 → has xs (b - first * 64) ≡ has ys b
bit_of xs ys first b low e =
    let word : (b - first * 64) / 64 ≡ b / 64 - first = omega arith in
    let bit : (b - first * 64) % 64 ≡ b % 64 = omega arith in
    rw (word, bit) (ap (λ w. bit_at w (b % 64) == 1) e)

module _ (row : List ℕ) (first last : ℕ) (order : first ≤ last) (fits : last < length row) where
  pub has_part : (b : ℕ) → first * 64 ≤ b → b < (last + 1) * 64 → has (slice_range row first (last + 1)) (b - first * 64) ≡ has row b
  has_part b low high =
      let index : first + (b / 64 - first) ≡ b / 64 = omega arith in
      bit_of (slice_range row first (last + 1)) row first b low
      (get_or-between row first (last + 1) (b / 64 - first) 0 (omega arith) ∙ ap (λ k. get_or row k 0) index)

  module _ (s : List ℕ) (len : length s ≡ last + 1 - first) where
    pub below_mid : (k : ℕ) → k < first → get_or (put_mid first (last + 1 - first) row s) k 0 ≡ get_or row k 0
    below_mid k low = search (rules, places)

    pub above_mid : (k : ℕ) → last < k → get_or (put_mid first (last + 1 - first) row s) k 0 ≡ get_or row k 0
    above_mid k high = search (rules, places)

    pub has_mid : (b : ℕ) → first * 64 ≤ b → b < (last + 1) * 64 → has (put_mid first (last + 1 - first) row s) b ≡ has s (b - first * 64)
    has_mid b low high = sym (bit_of s (put_mid first (last + 1 - first) row s) first b low (search (rules, places)))
