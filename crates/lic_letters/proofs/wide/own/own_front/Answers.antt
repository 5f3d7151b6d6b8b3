use Rattle.std.proofs.Common.{get_or, sym, ◌∙◌}
use Rattle.std.proofs.lemmas.Bool.{ltb-true}
use Rattle.lic_letters.proofs.SpelledFronts.{one_own}
use Rattle.lic_letters.proofs.wide.own.own_front.Goals as goal

pub returns-then-is_ascii-clause-own : goal.returns-then-is_ascii-clause-own
returns-then-is_ascii-clause-own c =
    one_own c.args.bytes.now c.requires (ltb-true (get_or c.args.bytes.now 0 0) 128 (sym c.is_ascii.ensures ∙ c.if-is_ascii.true))
