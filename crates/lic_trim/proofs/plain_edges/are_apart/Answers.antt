use Rattle.std.proofs.Common.{◌∙◌, inl, inr, sym}
use Rattle.lic_trim.proofs.PlainEdges.{not_on}
use Rattle.lic_trim.proofs.plain_edges.are_apart.Goals as goal

pub returns-then-first-second : goal.returns-then-first-second
returns-then-first-second c = λ yes. inl c.if-first-second.true

pub returns-else-first-second : goal.returns-else-first-second
returns-else-first-second c = λ yes. inr (sym c.is_mark.ensures ∙ not_on _ yes)
