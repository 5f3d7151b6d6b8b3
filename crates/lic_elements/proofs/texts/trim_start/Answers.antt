use Rattle.std.proofs.Common.{sym, ◌∙◌}
use Rattle.lic_elements.proofs.TextLemmas.{trim_front_turn}
use Rattle.lic_elements.proofs.texts.trim_start.Goals as goal

pub loop-first-preserved : goal.loop-first-preserved
loop-first-preserved c =
    trim_front_turn _ c.in-Some.first _ _ c.in-Some.ensures.some (sym c.is_whitespace.ensures ∙ c.if-not-is_whitespace.false) c.loop-first.invariant
