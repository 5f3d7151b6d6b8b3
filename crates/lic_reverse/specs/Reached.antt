-- Ways that were reached by going back over words again and again, and those that one word more leads to.
use Rattle.std.specs.Prelude.{◌≡◌, ◌⊎◌, ◌++◌, ℕ, List, []}
use Rattle.lic_tokens.specs.Tokens.{TokenValue}
use Rattle.lic_spans.specs.declared.span.PlaceSpan.{PlaceSpan}
use Rattle.lic_reverse.specs.declared.ways.reached.Reached.{Reached}
use Rattle.lic_view.specs.PlaceSets.{ArePlaced, Reaches}
use Rattle.lic_reverse.specs.Tidily.{IsTidyBack, Taken, spans_of}
use Rattle.lic_view.specs.Fresh.{AreFresh}
use Rattle.lic_view.specs.declared.sets.keep.Keep.{Keep}

-- all spans that were reached, by what was taken last
abbrev pub reached_of : Reached → Taken → List PlaceSpan
reached_of reached s = spans_of reached.settled s ++ spans_of reached.recent s

-- All spans represent all, and the frontier has those of their places that are not known.
pub record IsFrontierOf (keep : Keep) (tokens : List TokenValue) (known all new front : Taken → List PlaceSpan) : Type 0 where
  pub back : IsTidyBack keep tokens (λ w. w ≡ []) all new
  pub placed : (s : Taken) → ArePlaced tokens (front s)
  pub among : (s : Taken) (p last : ℕ) → Reaches tokens (front s) p last → Reaches tokens (new s) p last
  pub parted : (s : Taken) (p last : ℕ) → Reaches tokens (new s) p last → Reaches tokens (front s) p last ⊎ Reaches tokens (known s) p last

-- What the frontier led to is kept, each once; what the frontier did not have itself is added to what was known, and makes the next frontier.
pub record IsNextFrontier (keep : Keep) (tokens : List TokenValue) (known reached front led next : Taken → List PlaceSpan) : Type 0 where
  pub kept : Taken → List PlaceSpan
  pub fresh : Taken → List PlaceSpan
  pub are_kept : IsTidyBack keep tokens (λ w. w ≡ []) led kept
  pub are_fresh : (s : Taken) → AreFresh (kept s) (front s) (fresh s)
  pub added : IsFrontierOf keep tokens known (λ s. known s ++ fresh s) reached next
