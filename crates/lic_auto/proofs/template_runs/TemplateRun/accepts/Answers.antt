use Rattle.std.proofs.Common.{[], sym, ◌∙◌, subst, append-nil}
use Rattle.std.proofs.lemmas.Bool.{false≢true}
use Rattle.lic_words.specs.Describing.{IsDescribed}
use Rattle.lic_auto.proofs.template_runs.TemplateRun.accepts.Goals as goal

pub returns-then-self-clause-described : goal.returns-then-self-clause-described
returns-then-self-clause-described c = λ e ts follows. c.accepts.ensures e ts (follows.live c.if-self.true)

pub returns-else-self-clause-described : goal.returns-else-self-clause-described
returns-else-self-clause-described c = λ e ts follows. (
  λ h. absurd (false≢true (sym c.if-self.false ∙ h)),
  λ described. absurd (follows.ended c.if-self.false [] (subst (IsDescribed e) (sym (append-nil ts)) described)),
)
