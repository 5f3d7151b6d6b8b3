-- A variable that is left out matches nothing.
use Rattle.std.proofs.Common.{suc, ◌∷◌, ◌++◌, map, sym, ap, ◌∙◌}
use Rattle.lic_vars.specs.Cuts.{move_of}
use Rattle.lic_vars.specs.Recorded.{recorded}
use Rattle.lic_vars.specs.Views.{value_of}
use Rattle.lic_vars.specs.declared.instructions.Instruction.{Instruction}
use Rattle.lic_vars.proofs.AssignLemmas.{value-pushed}
use Rattle.lic_vars.proofs.search.leave_out_one.Goals as goal

pub returns-in_ok-push-in-Variable : goal.returns-in_ok-push-in-Variable
returns-in_ok-push-in-Variable c = λ n ms r letters.
    let old = c.args.values.now.items in
    value-pushed old c.push.new.self.items _ (recorded n ms r letters) c.in_ok-push-in-Variable.ensures.items
    ∙ ap (λ (s : Instruction). map value_of old ++ recorded (suc n) (move_of s ∷ ms) r letters) (sym c.in-Variable.is)
