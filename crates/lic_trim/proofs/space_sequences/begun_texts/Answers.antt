use Rattle.std.proofs.Common.{arith}
use Rattle.lic_kind.specs.LineRules.{rules_of}
use Rattle.lic_trim.specs.Walks.{Front, End}
use Rattle.lic_kind.proofs.BeginningLemmas.{some_both}
use Rattle.lic_trim.proofs.BegunTexts.{has_begun, Has, HasSome}
use Rattle.lic_trim.proofs.space_sequences.begun_texts.Goals as goal

pub returns-in-Front : goal.returns-in-Front
returns-in-Front c =
    let rules = rules_of c.args.rules.now in
    rw c.in-Front.is
    (some_both c.begun_leads.result _ _ _
    (λ mask texts spaced way two. has_begun c.args.first c.args.second mask Front way two rules texts spaced (λ i lt. absurd (omega arith)))
    c.begun_leads.ensures.lead c.begun_leads.ensures.lead_space)

pub returns-in-End : goal.returns-in-End
returns-in-End c =
    let rules = rules_of c.args.rules.now in
    let first = c.args.first in
    let second = c.args.second in
    rw c.in-End.is
    (some_both c.begun_tails.result _ _ _ (λ mask both repeated way two. has_begun first second mask End way two rules both.0 both.1 repeated)
    (some_both c.begun_tails.result _ _ (λ mask. Has first second mask End rules.tail × HasSome first second mask End rules.tail_space)
    (λ mask texts spaced. (texts, spaced)) c.begun_tails.ensures.tail c.begun_tails.ensures.tail_space)
    c.begun_tails.ensures.tail_repeat)
