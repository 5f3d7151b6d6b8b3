-- What the steps have come to on a walk over a text.
use Rattle.std.specs.Prelude.{◌≡◌, ℕ, ◌+◌, ◌-◌, ◌*◌, ◌^◌, ◌<◌, ◌≤◌, List, length, drop, Option, None, slice_range, sum_by}
use Rattle.lic_norm.specs.Tokens.{TokenValue}
use Rattle.lic_set.specs.Sets.{Known}
use Rattle.lic_find.specs.Among.{HaveAllMatches}
use Rattle.lic_find.specs.Bounds.{letters_of, scan_steps, firsts_from, firsts_of, letters_of_longest, letters_of_matches}
use Rattle.lic_set.specs.declared.triple.Triple.{Triple}

-- The steps of the walk that noted first tokens, and of the walks from first tokens up to `first` and its `end`: with what is still to
-- come they fit into what is allowed. Below the greatest number each letter of these walks was counted, where the search began with the
-- first match and is for all matches.
pub record AreCounted (set : List Known) (tokens : List TokenValue) (numbers : List ℕ) (began : Option Triple)
    (noting walked first end : ℕ) : Type 0 where
  pub noting_most : noting ≤ 2 * letters_of tokens
  pub noting_least : began ≡ None → noting < 2 ^ 64 - 1 → letters_of tokens ≤ noting
  pub walked_most : walked + 2 * letters_of (drop end tokens)
      + scan_steps tokens * length (firsts_from set tokens (first + 1))
      ≤ scan_steps tokens * length (firsts_of set tokens)
  pub walked_least : began ≡ None → HaveAllMatches set tokens numbers → walked < 2 ^ 64 - 1
      → letters_of_matches set tokens + letters_of (slice_range tokens first end)
      ≤ walked + letters_of_longest set tokens first
      + sum_by (letters_of_longest set tokens) (firsts_from set tokens (first + 1))
