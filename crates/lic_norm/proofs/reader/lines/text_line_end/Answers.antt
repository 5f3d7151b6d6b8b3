use Rattle.std.proofs.Common.{◌≡◌, ◌≤◌, length, take, drop, subst}
use Rattle.lic_norm.specs.LineEnds.{IsFirstLine}
use Rattle.lic_norm.proofs.LineCuts.{text_line-boundary, text_line-is}
use Rattle.lic_norm.proofs.reader.lines.text_line_end.Goals as goal

pub returns-clause-boundary : goal.returns-clause-boundary
returns-clause-boundary c =
    let n = c.line_end.result in
    let is : c.as_bytes.result.now ≡ c.args.text.now = c.as_bytes.ensures.value in
    text_line-boundary c.args.text.now n c.utf8.text (subst (λ l. n ≤ length l) is c.line_end.ensures.within)
    (subst (λ l. IsFirstLine (take n l) (drop n l)) is c.line_end.ensures.line)

pub returns-clause-line : goal.returns-clause-line
returns-clause-line c =
    let n = c.line_end.result in
    let is : c.as_bytes.result.now ≡ c.args.text.now = c.as_bytes.ensures.value in
    text_line-is c.args.text.now n c.utf8.text (subst (λ l. n ≤ length l) is c.line_end.ensures.within)
    (subst (λ l. IsFirstLine (take n l) (drop n l)) is c.line_end.ensures.line)
