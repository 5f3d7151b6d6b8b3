-- One instruction more.
use Rattle.std.proofs.Common.{subst}
use Rattle.std.specs.List.{All}
use Rattle.std.proofs.lemmas.List.{take_all}
use Rattle.std.proofs.lemmas.List.Elements.{All-more}
use Rattle.lic_vars.specs.Cuts.{HasNoValue}
use Rattle.lic_vars.proofs.NoValueLemmas.{no-value}
use Rattle.lic_vars.proofs.values.has_variable.Goals as goal

pub loop-instruction-preserved : goal.loop-instruction-preserved
loop-instruction-preserved c =
    All-more HasNoValue c.args.instructions.now c.loop-instruction.instruction-index c.instruction-item.result c.loop-instruction-test.true c.loop-instruction.invariant
    (subst HasNoValue c.instruction-item.is (no-value c.instruction-item.result c.in_default.not-Variable))

pub returns : goal.returns
returns c = λ e. subst (All HasNoValue) (take_all c.loop-instruction.instruction-index c.args.instructions.now c.loop-instruction-test.false) c.loop-instruction.invariant
