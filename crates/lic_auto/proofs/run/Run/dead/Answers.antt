use Rattle.std.proofs.Common.{◌≡◌, not, sym, ap, ◌∙◌}
use Rattle.std.specs.List.{list_all}
use Rattle.lic_auto.specs.Runs.{is_dead}
use Rattle.lic_auto.specs.declared.template_runs.TemplateRun.{TemplateRun}
use Rattle.lic_auto.proofs.Accepting.{dead_described}
use Rattle.lic_auto.proofs.run.Run.dead.Goals as goal

pub returns-clause-among : goal.returns-clause-among
returns-clause-among c = λ dead numbers ts more k known s among is.
    let self = c.args.self.now in
    let value : c.none_is_live.result ≡ is_dead self = c.none_is_live.ensures ∙ ap (list_all (λ (one : TemplateRun). not one.is_live)) c.deref.ensures.value in
    dead_described self.set.now self.runs.items numbers ts s.some s.runs (sym value ∙ dead) more k known among is

pub returns-clause-none : goal.returns-clause-none
returns-clause-none c = λ dead ts more k known s among is. returns-clause-among c dead _ ts more k known s among is
