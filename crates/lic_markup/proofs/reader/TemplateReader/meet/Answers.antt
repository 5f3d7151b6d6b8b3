use Rattle.std.proofs.Common.{sym, subst}
use Rattle.lic_kind.specs.LineRules.{rules_of}
use Rattle.lic_elements.specs.declared.elements.Element.{Element}
use Rattle.lic_elements.specs.Faults.{Fails}
use Rattle.lic_markup.specs.Reading.{State, meet}
use Rattle.lic_elements.specs.Views.{element_of}
use Rattle.lic_markup.specs.Views.{state_of}
use Rattle.lic_elements.proofs.FaultLemmas.{Fails-reported}
use Rattle.lic_markup.proofs.PartTextLemmas.{meet_variable-texts, meet_end-texts}
use Rattle.lic_markup.proofs.reader.TemplateReader.meet.Goals as goal

pub returns-in-Refused-clause-state : goal.returns-in-Refused-clause-state
unfolding meet
returns-in-Refused-clause-state c =
    let f = c.reported_again.result in
    subst (λ (e : Element). Fails f.cause f.offset
    (meet (rules_of c.args.rules.now) c.args.words.now (element_of e) c.args.follows
    (state_of c.args.self.now))) (sym c.in-Refused.is)
    (Fails-reported State c.in-Refused.fault f c.reported_again.ensures)

pub returns-in-Rule-Variable-clause-texts : goal.returns-in-Rule-Variable-clause-texts
returns-in-Rule-Variable-clause-texts c =
    meet_variable-texts (state_of c.args.self.now) _ c.requires c.variable.result _ _ _ _ c.variable.ensures

pub returns-in-Rule-End-clause-texts : goal.returns-in-Rule-End-clause-texts
returns-in-Rule-End-clause-texts c =
    meet_end-texts (state_of c.args.self.now) _ c.requires c.end.result _ c.end.ensures
