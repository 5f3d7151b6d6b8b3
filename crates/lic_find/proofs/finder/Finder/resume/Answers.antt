use Rattle.std.proofs.Common.{◌≡◌, List, Some}
use Rattle.std.proofs.lemmas.Result.{IfOk-weaker}
use Rattle.lic_set.specs.Matches.{AreMatches}
use Rattle.lic_find.specs.Among.{AreMatchesAmong}
use Rattle.lic_find.specs.Remaining.{remaining_matches}
use Rattle.lic_set.specs.declared.triple.Triple.{Triple}
use Rattle.lic_find.proofs.AmongLemmas.{AreMatches-among}
use Rattle.lic_find.proofs.Matching.{AreMatches-unique}
use Rattle.lic_find.proofs.finder.Finder.resume.Goals as goal

pub returns-clause-later : goal.returns-clause-later
returns-clause-later c =
    let set = c.args.set.now in
    let tokens = c.args.text.now.tokens in
    let numbers = c.in_ok-numbers.numbers.items in
    IfOk-weaker c.over.result (λ f. AreMatchesAmong set tokens numbers (Some c.args.after) (remaining_matches f)) (λ f. AreMatches set tokens (Some c.args.after) (remaining_matches f))
    (λ f among. AreMatches-among set tokens numbers c.in_ok-numbers.ensures.others (Some c.args.after) (remaining_matches f) among) c.over.ensures.matches

pub returns-clause-only : goal.returns-clause-only
returns-clause-only c =
    let set = c.args.set.now in
    let tokens = c.args.text.now.tokens in
    IfOk-weaker c.over.result (λ f. AreMatches set tokens (Some c.args.after) (remaining_matches f))
    (λ f. (others : List Triple) → AreMatches set tokens (Some c.args.after) others → others ≡ remaining_matches f)
    (λ f all others m. AreMatches-unique set tokens (Some c.args.after) others (remaining_matches f) m all) (returns-clause-later c)
