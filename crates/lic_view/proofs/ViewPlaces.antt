-- Where the tokens of a text begin and end, and the first token from a place on.
use Rattle.std.proofs.Common.{◌≡◌, inl, inr, ℕ, zero, suc, ◌+◌, ◌<◌, ◌≤◌, List, length, ap, ◌∙◌, arith}
use Rattle.std.proofs.Math.Nat.{eq-or-lt_of_le}
use Rattle.std.proofs.lemmas.Bool.{cases_lt, true≢false}
use Rattle.lic_tokens.specs.Tokens.{TokenValue}
use Rattle.lic_tokens.specs.Places.{IsTokenEnd, place_end, place_start}
use Rattle.lic_places.specs.Places.{AreTexts}
use Rattle.lic_view.specs.Views.{IsFirstFrom}
pub use Rattle.lic_places.proofs.TextReading.{end-within}
use Rattle.lic_view.proofs.Laws.{tokens_are_at-next, tokens_are_at-order}

-- a token begins no earlier than the one before it ends
pub start-after : (tokens : List TokenValue) (i : ℕ) → AreTexts tokens → suc i < length tokens → place_end tokens i ≤ place_start tokens (suc i)
start-after tokens i texts within =
    elim (tokens_are_at-next tokens i texts within) [ inl same ↦ omega (arith, same) | inr next ↦ omega (arith, next.0) ]

-- tokens end one after another
pub ends-rise : (tokens : List TokenValue) (i j : ℕ) → AreTexts tokens → i < j → j < length tokens → place_end tokens i < place_end tokens j
ends-rise tokens i zero texts below within = absurd (omega arith)
ends-rise tokens i (suc k) texts below within =
    let order : place_start tokens (suc k) < place_end tokens (suc k) = tokens_are_at-order tokens (suc k) texts within in
    let after : place_end tokens k ≤ place_start tokens (suc k) = start-after tokens k texts within in
    let le : i ≤ k = omega arith in
    elim (eq-or-lt_of_le le) [
      | inl same ↦ omega (arith, ap (λ n. place_end tokens n) same)
      | inr before ↦ omega (arith, ends-rise tokens i k texts before (omega arith))
    ]

pub ends-order : (tokens : List TokenValue) (i j : ℕ) → AreTexts tokens → i ≤ j → j < length tokens → place_end tokens i ≤ place_end tokens j
ends-order tokens i j texts le within =
    elim (eq-or-lt_of_le le) [
      | inl same ↦ omega (arith, ap (λ n. place_end tokens n) same)
      | inr before ↦ omega (arith, ends-rise tokens i j texts before within)
    ]

-- a token begins no earlier than each one before it ends
pub starts-after : (tokens : List TokenValue) (i j : ℕ) → AreTexts tokens → i < j → j < length tokens → place_end tokens i ≤ place_start tokens j
starts-after tokens i zero texts below within = absurd (omega arith)
starts-after tokens i (suc k) texts below within =
    omega (arith, ends-order tokens i k texts (omega arith) (omega arith), start-after tokens k texts within)

pub starts-order : (tokens : List TokenValue) (i j : ℕ) → AreTexts tokens → i ≤ j → j < length tokens → place_start tokens i ≤ place_start tokens j
starts-order tokens i j texts le within =
    elim (eq-or-lt_of_le le) [
      | inl same ↦ omega (arith, ap (λ n. place_start tokens n) same)
      | inr before ↦ omega (arith, tokens_are_at-order tokens i texts (omega arith), starts-after tokens i j texts before within)
    ]

-- ---- the first token from a place on

-- a token in the middle ends before the place
pub before-middle : (tokens : List TokenValue) (place middle : ℕ) → AreTexts tokens → middle < length tokens → place_end tokens middle < place
    → (i : ℕ) → i < suc middle → place_end tokens i < place
before-middle tokens place middle texts within ends i below = omega (arith, ends-order tokens i middle texts (omega arith) within)

-- it ends at the place or after it
pub from-middle : (tokens : List TokenValue) (place middle : ℕ) → AreTexts tokens → place ≤ place_end tokens middle
    → (i : ℕ) → middle ≤ i → i < length tokens → place ≤ place_end tokens i
from-middle tokens place middle texts ends i le within = omega (arith, ends-order tokens middle i texts le within)

-- the first token that ends there also begins there
pub begins-same : (tokens : List TokenValue) (place token : ℕ) → AreTexts tokens → IsFirstFrom (place_end tokens) (length tokens) place token
    → (token < length tokens → place ≤ place_start tokens token) → IsFirstFrom (place_start tokens) (length tokens) place token
begins-same tokens place token texts first begins = record {
  within = first.within;
  before = λ i below. omega (arith, first.before i below, tokens_are_at-order tokens i texts (omega (arith, first.within)));
  reached = λ i le within. omega (arith, begins (omega arith), starts-order tokens token i texts le within);
}

-- it begins before, and the next one begins there
pub begins-next : (tokens : List TokenValue) (place token : ℕ) → AreTexts tokens → IsFirstFrom (place_end tokens) (length tokens) place token
    → token < length tokens → place_start tokens token < place → IsFirstFrom (place_start tokens) (length tokens) place (token + 1)
begins-next tokens place token texts first within begins = record {
  within = omega arith;
  before = λ i below. omega (arith, starts-order tokens i token texts (omega arith) within);
  reached = λ i le inside. omega (arith, first.reached token (omega arith) within, starts-after tokens token i texts (omega arith) inside);
}

-- where a token ends, the first one from there on ends
pub token_end-first : (tokens : List TokenValue) (place token : ℕ) → AreTexts tokens → IsFirstFrom (place_end tokens) (length tokens) place token
    → IsTokenEnd tokens place → (token < length tokens) × (place_end tokens token ≡ place)
token_end-first tokens place token texts first ends =
    elim (cases_lt ends.number token) [
      | inl below ↦ absurd (omega (arith, first.before ends.number below, ends.ends))
      | inr le ↦
          let within : token < length tokens = omega (arith, ends.within) in
          (within, omega (arith, ends-order tokens token ends.number texts le ends.within, first.reached token (omega arith) within, ends.ends))
    ]
