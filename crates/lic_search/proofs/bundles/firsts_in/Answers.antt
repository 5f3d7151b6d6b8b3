-- Words begin with the tokens from the first that begins in the span to the last.
use Rattle.std.proofs.Common.{◌<◌, ◌≤◌, ℕ, [], ◌∷◌, length, refl, arith}
use Rattle.std.proofs.lemmas.Bool.{cases_lt}
use Rattle.std.proofs.Math.Logic.{⊎_elim}
use Rattle.lic_search.specs.Beginnings.{BeginsIn}
use Rattle.lic_view.proofs.ViewSpans.{last-one}
use Rattle.lic_search.proofs.bundles.firsts_in.Goals as goal

pub returns : goal.returns
returns c =
    let tokens = c.args.view.now in
    let span = c.args.span in
    let n = c.first_beginning_from.result in
    let bound = c.first_beginning_from.ensures in
    let is = c.in_ok-range.ensures in
    let last : span.last < length tokens = last-one tokens span c.requires in
    let low : (first : ℕ) → BeginsIn tokens (span ∷ []) first span.last → n ≤ first =
    λ first begins.
    ⊎_elim (λ (before : first < n). absurd (omega (arith, bound.before first before, is.from first begins))) (λ from. from) (cases_lt first n) in
    record {
      kind = refl;
      last = refl;
      order = low c.in_ok-range.range.first is.begins;
      exact = λ first. (
        λ begins. (low first begins, is.greatest first begins),
        λ within. is.all first within.1 (bound.reached first within.0 (omega (arith, within.1, is.begins.order))),
      );
    }
