use Rattle.std.proofs.Common.{sym, ◌∙◌}
use Rattle.lic_elements.proofs.TextLemmas.{trim_end_turn, trim_end_stop}
use Rattle.lic_elements.proofs.texts.trim_end.Goals as goal

pub loop-last-preserved : goal.loop-last-preserved
loop-last-preserved c =
    trim_end_turn _ _ c.in-Some.last _ c.in-Some.ensures.some (sym c.is_whitespace.ensures ∙ c.if-not-is_whitespace.false) c.loop-last.invariant

pub returns-then-not-is_whitespace : goal.returns-then-not-is_whitespace
returns-then-not-is_whitespace c =
    trim_end_stop _ _ c.in-Some.last _ c.in-Some.ensures.some (sym c.is_whitespace.ensures ∙ c.if-not-is_whitespace.true) c.loop-last.invariant
