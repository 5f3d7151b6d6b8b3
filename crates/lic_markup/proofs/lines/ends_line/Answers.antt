use Rattle.std.proofs.Common.{sym, ap, ◌∙◌}
use Rattle.lic_markup.specs.Lines.{ends_line}
use Rattle.lic_elements.specs.Pieces.{characters}
use Rattle.lic_markup.proofs.LineLemmas.{ends_line-last}
use Rattle.lic_markup.proofs.lines.ends_line.Goals as goal

pub returns-in-Some : goal.returns-in-Some
returns-in-Some c = sym (ap ends_line c.in-Some.ensures.some ∙ ends_line-last (characters c.in-Some._before) c.in-Some.last)
