-- The tight ones of the matches that were found are those of all.
use Rattle.std.proofs.Common.{ap, ◌∙◌}
use Rattle.std.proofs.lemmas.List.Filters.{dedup_is}
use Rattle.std.proofs.lemmas.Result.{IfOk-weaker}
use Rattle.lic_filters.specs.Filters.{tight_of}
use Rattle.lic_search.specs.LeastMatches.{HasLeastMatches}
use Rattle.lic_search.proofs.LeastMatchLemmas.{least_same}
use Rattle.lic_search.proofs.Sorting.{IsSortedOnce, is_same, sorted_once}
use Rattle.lic_search.proofs.TightLemmas.{tight_of-least}
use Rattle.lic_search.proofs.tight.tight_matches.Goals as goal

pub returns : goal.returns
returns c =
    let set = c.args.set.now in
    let tokens = c.args.text.now.tokens in
    let found = c.in_ok-found.found.items in
    let sorted = c.sort_unstable.new.self.items in
    let kept = c.dedup.new.self.items in
    let once : IsSortedOnce found kept =
    sorted_once found sorted kept c.sort_unstable.ensures.permutation c.sort_unstable.ensures.sorted (dedup_is is_same sorted kept c.dedup.ensures.filtered) in
    let has : HasLeastMatches set tokens kept = least_same set tokens found kept once.members c.in_ok-found.ensures in
    record {
      tight = IfOk-weaker c.tight.result _ _
          (λ result is all matches. is ∙ (ap tight_of c.deref.ensures.value ∙ tight_of-least set tokens all kept matches has once.ascending)) c.tight.ensures;
    }
