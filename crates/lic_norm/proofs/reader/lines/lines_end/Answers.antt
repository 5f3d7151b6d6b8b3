use Rattle.std.proofs.Common.{length-take, arith, inl}
use Rattle.lic_norm.proofs.LineCuts.{first_line-ends, lines_end-found}
use Rattle.lic_norm.proofs.reader.lines.lines_end.Goals as goal

pub slice_bounds-memrchr-end : goal.slice_bounds-memrchr-end
slice_bounds-memrchr-end c = omega (arith, c.ascii_prefix-front.ensures, length-take c.min.result c.args.bytes.now, length-take c.ascii_prefix-front.result c.args.bytes.now)

pub overflow_add-result : goal.overflow_add-result
overflow_add-result c = omega (arith, c.in-Some.ensures.0.high, length-take c.ascii_prefix-front.result c.args.bytes.now)

pub returns-in-Some-clause-within : goal.returns-in-Some-clause-within
returns-in-Some-clause-within c = omega (arith, c.in-Some.ensures.0.high, length-take c.ascii_prefix-front.result c.args.bytes.now)

pub returns-in-Some-clause-lines : goal.returns-in-Some-clause-lines
returns-in-Some-clause-lines c = inl (lines_end-found c.args.bytes.now c.ascii_prefix-front.result c.in-Some.offset c.in-Some.ensures)

pub returns-in-None-clause-lines : goal.returns-in-None-clause-lines
returns-in-None-clause-lines c = first_line-ends c.args.bytes.now c.line_end.result c.line_end.ensures.line
