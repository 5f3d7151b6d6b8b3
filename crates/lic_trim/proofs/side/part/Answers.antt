use Rattle.std.proofs.Common.{◌≡◌, ◌-◌, ◌∙◌, sym, ap, length, arith}
use Rattle.std.specs.Prelude.{reverse, slice_range}
use Rattle.std.proofs.lemmas.List.{length-map}
use Rattle.lic_trim.specs.Sources.{SourceChar, chars_of}
use Rattle.lic_trim.proofs.Walking.{chars_of-range, reverse-range}
use Rattle.lic_trim.proofs.side.part.Goals as goal

pub returns-in-Front : goal.returns-in-Front
returns-in-Front c =
    let line = c.args.line.now in
    rw c.in-Front.is (chars_of-range line c.args.from c.args.to)

pub returns-in-End : goal.returns-in-End
returns-in-End c =
    let line = c.args.line.now in
    let many : length (chars_of line) ≡ length line = length-map line (λ (s : SourceChar). s.char) in
    rw c.in-End.is
    (ap reverse (chars_of-range line (length line - c.args.to) (length line - c.args.from)
    ∙ ap (λ n. slice_range (chars_of line) (n - c.args.to) (n - c.args.from)) (sym many))
    ∙ reverse-range (chars_of line) c.args.from c.args.to c.requires.order (omega arith))
