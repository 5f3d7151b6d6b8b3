-- The set of no instruction.
use Rattle.std.proofs.Common.{◌-◌, arith}
use Rattle.lic_vars.proofs.KeptLemmas.{sets-first}
use Rattle.lic_vars.proofs.SetLemmas.{finish-end}
use Rattle.lic_vars.proofs.sets.end_alone.Goals as goal

pub returns-clause-sets : goal.returns-clause-sets
returns-clause-sets c =
    let spans = rw c.new-spans.ensures.items at c.in_ok-push.ensures.items in
    let finish = finish-end c.args.view.now c.tokens_have_texts.ensures c.push.new.self.items (c.len-last.result - 1) c.end-end.result
    (omega (arith, c.len-last.ensures, c.requires)) c.end-end.ensures spans in
    sets-first c.args.view.now c.args.instructions.now _ _ (rw c.new-sets.ensures.items at c.in_ok-push-2.ensures.items) finish
