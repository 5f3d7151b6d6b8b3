-- The values that a record gives.
use Rattle.std.specs.Prelude.{◌≡◌, ℕ, zero, suc, ◌==◌, List, [], ◌∷◌, ◌++◌, take, drop, None, slice_index_or, if◌then◌else◌}
use Rattle.lic_norm.specs.Tokens.{TokenValue}
use Rattle.lic_tokens.specs.declared.token.Span.{Span}
use Rattle.lic_words.specs.Letters.{letters_in}
use Rattle.lic_vars.specs.Values.{Assigned, covered}
use Rattle.lic_vars.specs.Moves.{Move, text, variable, optional}
use Rattle.lic_vars.specs.Making.{CanMake, LeastOf}
use Rattle.lic_vars.specs.Cuts.{ReadsOn, start}
use Rattle.lic_vars.specs.declared.cut.Cut.{Cut}

-- the values along moves of which the first n are left out, where the letters after them have these spans
abbrev pub recorded : ℕ → List Move → List ℕ → List Span → List Assigned
recorded left_out [] r spans = []
recorded (suc k) (text w ∷ ms) r spans = recorded k ms r spans
recorded (suc k) (variable name re ∷ ms) r spans = record { name = name; span = None } ∷ recorded k ms r spans
recorded (suc k) (optional n ∷ ms) r spans = recorded k ms r spans
recorded zero (text w ∷ ms) r spans = recorded 0 ms r (drop (letters_in w) spans)
recorded zero (variable name re ∷ ms) r spans =
    record { name = name; span = covered (take (slice_index_or r 0 0) spans) }
    ∷ recorded 0 ms (drop 1 r) (drop (slice_index_or r 0 0) spans)
recorded zero (optional n ∷ ms) r spans = recorded (if slice_index_or r 0 0 == 0 then 0 else n) ms (drop 1 r) spans

-- the values that the least record of the moves gives, where the letters of the tokens have these spans
pub record AreOfLeast (tokens : List TokenValue) (ms : List Move) (letters : List Span) (values : List Assigned) : Type 0 where
  pub numbers : List ℕ
  pub least : LeastOf ms (ReadsOn tokens start) numbers
  pub same : values ≡ recorded 0 ms numbers letters

-- the moves that are left can finish after the cut, and what their least record gives completes the values of the least of all
pub record IsWalk (tokens : List TokenValue) (all ms : List Move) (letters : List Span) (values : List Assigned) (cut : Cut) (after : List Span) : Type 0 where
  pub can : CanMake ms (ReadsOn tokens cut)
  pub least : (r : List ℕ) → LeastOf ms (ReadsOn tokens cut) r → AreOfLeast tokens all letters (values ++ recorded 0 ms r after)
