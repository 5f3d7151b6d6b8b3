use Rattle.std.proofs.Common.{◌≡◌, List, Contains, None, sym, subst}
use Rattle.std.proofs.lemmas.Result.{IfOk-weaker}
use Rattle.lic_set.specs.Matches.{AreMatches, IsMatch}
use Rattle.lic_find.specs.Among.{AreMatchesAmong}
use Rattle.lic_find.specs.Remaining.{HasAllMatches, IsBegun, numbers_in, remaining_matches}
use Rattle.lic_set.specs.declared.triple.Triple.{Triple}
use Rattle.lic_find.proofs.AmongLemmas.{AreMatches-among}
use Rattle.lic_find.proofs.GivingLemmas.{IfOk-both}
use Rattle.lic_find.proofs.Matching.{AreMatches-unique}
use Rattle.lic_find.proofs.finder.Finder.new.Goals as goal

pub returns-clause-all : goal.returns-clause-all
returns-clause-all c =
    let set = c.args.set.now in
    let tokens = c.args.text.now.tokens in
    let numbers = c.in_ok-numbers.numbers.items in
    IfOk-weaker c.over.result (λ f. AreMatchesAmong set tokens numbers None (remaining_matches f)) (λ f. AreMatches set tokens None (remaining_matches f))
    (λ f among. AreMatches-among set tokens numbers c.in_ok-numbers.ensures.others None (remaining_matches f) among) c.over.ensures.matches

pub returns-clause-only : goal.returns-clause-only
returns-clause-only c =
    let set = c.args.set.now in
    let tokens = c.args.text.now.tokens in
    IfOk-weaker c.over.result (λ f. AreMatches set tokens None (remaining_matches f))
    (λ f. (others : List Triple) → AreMatches set tokens None others → others ≡ remaining_matches f)
    (λ f all others m. AreMatches-unique set tokens None others (remaining_matches f) m all) (returns-clause-all c)

pub returns-clause-whole : goal.returns-clause-whole
returns-clause-whole c =
    IfOk-both c.over.result (λ f. IsBegun f c.args.set.now c.args.text.now.tokens None) (λ f. numbers_in f ≡ c.in_ok-numbers.numbers.items) HasAllMatches
    (λ f begun numbers t m.
    subst (λ ns. Contains ns t.template) (sym numbers)
    (c.in_ok-numbers.ensures.others t (subst (λ s. IsMatch s c.args.text.now.tokens t) begun.templates (subst (λ ts. IsMatch f.set.now ts t) begun.text m))))
    c.over.ensures.begun c.over.ensures.numbers
