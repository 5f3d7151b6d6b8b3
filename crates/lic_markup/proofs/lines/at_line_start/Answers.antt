use Rattle.std.proofs.Common.{eq-eqb, ne_eqb, sym, ◌∙◌}
use Rattle.lic_elements.specs.Pieces.{characters}
use Rattle.lic_elements.specs.Signs.{new_line}
use Rattle.lic_markup.proofs.LineLemmas.{line_starts, line_has_text, line_continues}
use Rattle.lic_markup.proofs.lines.at_line_start.Goals as goal

pub returns-then-last-eq10 : goal.returns-then-last-eq10
returns-then-last-eq10 c =
    let x = c.in-Some.last in
    line_starts c.args.so_far (characters c.args.piece) (characters c.loop-last.front) (characters c.in-Some.before) x c.in-Some.ensures.some c.loop-last.invariant
    (eq-eqb x.1 new_line c.if-last-eq10.true)

pub returns-then-not-is_space : goal.returns-then-not-is_space
returns-then-not-is_space c =
    let x = c.in-Some.last in
    line_has_text c.args.so_far (characters c.args.piece) (characters c.loop-last.front) (characters c.in-Some.before) x c.in-Some.ensures.some c.loop-last.invariant
    (ne_eqb x.1 new_line c.if-last-eq10.false) (sym c.is_space.ensures ∙ c.if-not-is_space.true)

pub loop-last-preserved : goal.loop-last-preserved
loop-last-preserved c =
    let x = c.in-Some.last in
    line_continues c.args.so_far (characters c.args.piece) (characters c.loop-last.front) (characters c.in-Some.before) x c.in-Some.ensures.some c.loop-last.invariant
    (ne_eqb x.1 new_line c.if-last-eq10.false) (sym c.is_space.ensures ∙ c.if-not-is_space.false)
