use Rattle.std.proofs.Common.{◌≡◌, [], sym, ◌∙◌, rules, arith}
use Rattle.std.proofs.lemmas.Grind.{common_steps}
use Rattle.lic_kind.specs.LineRules.{rules_of}
use Rattle.lic_markup.specs.Parts.{template_of}
use Rattle.lic_markup.specs.Views.{state_of}
use Rattle.lic_elements.proofs.FaultLemmas.{Gives-err, Gives-same}
use Rattle.lic_markup.proofs.ReadingLemmas.{read_taken, read_refused, read_ends}
use Rattle.lic_markup.proofs.reading.read_elements.Goals as goal

pub returns-in_err-meet-clause-exact : goal.returns-in_err-meet-clause-exact
returns-in_err-meet-clause-exact c =
    Gives-err _ _ _ _ _ c.from_residual.ensures.1
    (λ e is. read_refused (rules_of c.args.rules.now) c.args.words.now
    (state_of c.loop-element.reader) c.loop-element.elements.items c.pop.new.self.items
    (c.in-Some.element, c.in-Some.follows) _ c.in-Some.ensures.items c.loop-element.invariant.gives e is)
    c.in_err-meet.ensures.state

pub loop-element-preserved : goal.loop-element-preserved
loop-element-preserved c = record {
  gives =
      read_taken (rules_of c.args.rules.now) c.args.words.now
      (state_of c.loop-element.reader) c.loop-element.elements.items c.pop.new.self.items
      (c.in-Some.element, c.in-Some.follows) _ c.in-Some.ensures.items c.loop-element.invariant.gives _ c.in_ok-meet.ensures.state;
  texts = c.in_ok-meet.ensures.texts;
}

pub returns-clause-exact : goal.returns-clause-exact
returns-clause-exact c =
    let none : c.loop-element.elements.items ≡ [] = first_of (search rules, grind (arith, common_steps)) in
    Gives-same template_of c.finish.result _ _
    (sym (read_ends (rules_of c.args.rules.now) c.args.words.now
    (state_of c.loop-element.reader) c.loop-element.elements.items none)
    ∙ c.loop-element.invariant.gives) c.finish.ensures.exact
