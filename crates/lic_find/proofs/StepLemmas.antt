-- What the steps of a finder come to.
use Rattle.std.proofs.Common.{◌≡◌, ℕ, suc, ◌+◌, ◌-◌, ◌*◌, ◌^◌, ◌<◌, ◌≤◌, List, length, get_or, drop, Option, None, sym, ap, ◌∙◌, arith}
use Rattle.std.specs.List.{sum_by, slice_range}
use Rattle.std.specs.Str.{chars}
use Rattle.std.proofs.Math.Nat.{mul-suc, mul-zero, mul-add, mul-one, mul-le-mul_left}
use Rattle.std.proofs.Math.Seq.{drop-length}
use Rattle.std.proofs.lemmas.List.Sums.{sum_by-cons}
use Rattle.lic_norm.specs.Tokens.{TokenValue}
use Rattle.lic_words.specs.Letters.{letters_in}
use Rattle.lic_set.specs.Sets.{Known}
use Rattle.lic_find.specs.Among.{HaveAllMatches}
use Rattle.lic_find.specs.Bounds.{letters_of, scan_steps, firsts_from, firsts_of, letters_of_longest, letters_of_matches}
use Rattle.lic_find.specs.Counts.{AreCounted}
use Rattle.lic_find.specs.Firsts.{NotedFirst, IsFirstFrom, NoneBeginFrom}
use Rattle.lic_find.specs.Listing.{matches_after}
use Rattle.lic_set.specs.Matches.{AreMatches}
use Rattle.lic_find.specs.Scans.{AllEndBy}
use Rattle.lic_set.specs.declared.triple.Triple.{Triple}
use Rattle.lic_find.proofs.CountLemmas.{firsts_from-none, firsts_from-next, firsts_from-more, firsts_from-fewer, letters_of_longest-ended}
use Rattle.lic_find.proofs.LetterLemmas.{letters_of-none, letters_of-empty, letters_of-more, letters_of-drop, letters_of-drop_le}

module _ (set : List Known) (tokens : List TokenValue) (listed : (after : Option Triple) → AreMatches set tokens after (matches_after set tokens after)) where
  -- one first token more is left
  left_more : (kept : List ℕ) (from : ℕ) (noted : NotedFirst) → IsFirstFrom set tokens kept from noted →
      scan_steps tokens * length (firsts_from set tokens (noted.first + 1)) + scan_steps tokens ≤ scan_steps tokens * length (firsts_from set tokens from)
  left_more kept from noted is =
      let most : scan_steps tokens * suc (length (firsts_from set tokens (noted.first + 1))) ≤ scan_steps tokens * length (firsts_from set tokens from) =
      mul-le-mul_left (scan_steps tokens) (firsts_from-more set tokens listed kept from noted is) in
      let one = mul-suc (scan_steps tokens) (length (firsts_from set tokens (noted.first + 1))) in
      omega arith

  sum_more : (kept : List ℕ) (from : ℕ) (noted : NotedFirst) → IsFirstFrom set tokens kept from noted → HaveAllMatches set tokens kept →
      sum_by (letters_of_longest set tokens) (firsts_from set tokens from)
      ≡ letters_of_longest set tokens noted.first + sum_by (letters_of_longest set tokens) (firsts_from set tokens (noted.first + 1))
  sum_more kept from noted is have =
      ap (sum_by (letters_of_longest set tokens)) (firsts_from-next set tokens listed kept from noted is have)
      ∙ sum_by-cons (letters_of_longest set tokens) noted.first (firsts_from set tokens (noted.first + 1))

  module _ (began : Option Triple) (noting : ℕ) (noting_most : noting ≤ 2 * letters_of tokens)
      (noting_least : began ≡ None → noting < 2 ^ 64 - 1 → letters_of tokens ≤ noting) where
    -- at the first of the first tokens from here on
    pub AreCounted-begin : (kept : List ℕ) (from walked : ℕ) (noted : NotedFirst) → (began ≡ None → from ≡ 0) → from ≤ length tokens → walked ≤ 2 →
        IsFirstFrom set tokens kept from noted → AreCounted set tokens kept began noting walked noted.first noted.first
    AreCounted-begin kept from walked noted whole within few is =
        let left = left_more kept from noted is in
        let fewer : scan_steps tokens * length (firsts_from set tokens from) ≤ scan_steps tokens * length (firsts_of set tokens) =
        mul-le-mul_left (scan_steps tokens) (firsts_from-fewer set tokens 0 from (omega arith) within) in
        let part : letters_of (drop noted.first tokens) ≤ letters_of tokens = letters_of-drop_le tokens noted.first in
        let empty : letters_of (slice_range tokens noted.first noted.first) ≡ 0 = letters_of-empty tokens noted.first in
        record {
          noting_most = noting_most;
          noting_least = noting_least;
          walked_most = omega arith;
          walked_least = λ b have bounded.
              let all : letters_of_matches set tokens ≡ sum_by (letters_of_longest set tokens) (firsts_from set tokens from) =
              ap (λ n. sum_by (letters_of_longest set tokens) (firsts_from set tokens n)) (sym (whole b)) in
              let sum = sum_more kept from noted is have in
              omega arith;
        }

    -- where no match begins from here on
    pub AreCounted-none : (kept : List ℕ) (from walked : ℕ) → (began ≡ None → from ≡ 0) → from ≤ length tokens → walked ≡ 0 → NoneBeginFrom set tokens kept from →
        AreCounted set tokens kept began noting walked (length tokens) (length tokens)
    AreCounted-none kept from walked whole within few none =
        let nothing : letters_of (drop (length tokens) tokens) ≡ 0 = ap letters_of (drop-length tokens) ∙ letters_of-none in
        let empty : letters_of (slice_range tokens (length tokens) (length tokens)) ≡ 0 = letters_of-empty tokens (length tokens) in
        let left : scan_steps tokens * length (firsts_from set tokens (length tokens + 1)) ≡ 0 =
        ap (λ firsts. scan_steps tokens * length firsts)
        (firsts_from-none set tokens listed (length tokens + 1)
        (λ t m late.
        let order : t.first ≤ t.last = m.order in
        let inside : t.last < length tokens = m.within in
        omega arith))
        ∙ mul-zero (scan_steps tokens) in
        record {
          noting_most = noting_most;
          noting_least = noting_least;
          walked_most = omega arith;
          walked_least = λ b have bounded.
              let all : letters_of_matches set tokens ≡ 0 =
              ap (λ n. sum_by (letters_of_longest set tokens) (firsts_from set tokens n)) (sym (whole b))
              ∙ ap (sum_by (letters_of_longest set tokens)) (firsts_from-none set tokens listed from (λ t m late. none t (m, have t m) late)) in
              omega arith;
        }

  module _ (kept : List ℕ) (began : Option Triple) (noting walked first end : ℕ) (counted : AreCounted set tokens kept began noting walked first end) where
    -- every match that begins here has ended
    module _ (order : first ≤ end) (ended : AllEndBy set tokens kept first end) where
      longest : HaveAllMatches set tokens kept → letters_of_longest set tokens first ≤ letters_of (slice_range tokens first end)
      longest have = letters_of_longest-ended set tokens listed first end order (λ t m here. ended t (m, have t m) here)

      -- the next first token
      pub AreCounted-next : (more : ℕ) (noted : NotedFirst)
          → IsFirstFrom set tokens kept (first + 1) noted → walked ≤ more → more ≤ walked + 2 →
          AreCounted set tokens kept began noting more noted.first noted.first
      AreCounted-next more noted is grows most =
          let left = left_more kept (first + 1) noted is in
          let before = counted.walked_most in
          let part : letters_of (drop noted.first tokens) ≤ letters_of tokens = letters_of-drop_le tokens noted.first in
          let empty : letters_of (slice_range tokens noted.first noted.first) ≡ 0 = letters_of-empty tokens noted.first in
          record {
            noting_most = counted.noting_most;
            noting_least = counted.noting_least;
            walked_most = omega arith;
            walked_least = λ b have bounded.
                let old = counted.walked_least b have (omega arith) in
                let sum = sum_more kept (first + 1) noted is have in
                let here = longest have in
                omega arith;
          }

      -- no first token is left
      pub walked-all : NoneBeginFrom set tokens kept (first + 1) → began ≡ None → HaveAllMatches set tokens kept → walked < 2 ^ 64 - 1 → letters_of_matches set tokens ≤ walked
      walked-all none b have bounded =
          let old = counted.walked_least b have bounded in
          let here = longest have in
          let nothing : sum_by (letters_of_longest set tokens) (firsts_from set tokens (first + 1)) ≡ 0 =
          ap (sum_by (letters_of_longest set tokens)) (firsts_from-none set tokens listed (first + 1) (λ t m late. none t (m, have t m) late)) in
          omega arith

module _ (set : List Known) (tokens : List TokenValue) (kept : List ℕ) (began : Option Triple) (noting walked first end : ℕ)
    (counted : AreCounted set tokens kept began noting walked first end) where
  -- one more token
  pub AreCounted-push : (d : TokenValue) (more : ℕ) → first ≤ end → end < length tokens → walked ≤ more
      → more ≤ walked + 2 * letters_in (chars (get_or tokens end d).text) →
      (more < 2 ^ 64 - 1 → walked + letters_in (chars (get_or tokens end d).text) ≤ more) → AreCounted set tokens kept began noting more first (end + 1)
  AreCounted-push d more order fits grows most least =
      let left : letters_of (drop end tokens)
      ≡ letters_in (chars (get_or tokens end d).text) + letters_of (drop (end + 1) tokens) =
      letters_of-drop tokens end d fits in
      let longer = letters_of-more tokens first end d order fits in
      let before = counted.walked_most in
      record {
        noting_most = counted.noting_most;
        noting_least = counted.noting_least;
        walked_most = omega arith;
        walked_least = λ b have bounded.
            let old = counted.walked_least b have (omega arith) in
            let new = least bounded in
            omega arith;
      }

  -- at any time
  pub steps_most : noting + walked ≤ 2 * (letters_of tokens + 1) * (1 + length (firsts_of set tokens))
  steps_most =
      let all : scan_steps tokens * (1 + length (firsts_of set tokens)) ≡ scan_steps tokens * 1 + scan_steps tokens * length (firsts_of set tokens) =
      mul-add (scan_steps tokens) 1 (length (firsts_of set tokens)) in
      let one : scan_steps tokens * 1 ≡ scan_steps tokens = mul-one (scan_steps tokens) in
      let a = counted.noting_most in
      let b = counted.walked_most in
      omega arith
