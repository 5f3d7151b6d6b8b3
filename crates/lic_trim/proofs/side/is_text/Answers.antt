use Rattle.std.proofs.Common.{◌≡◌, ◌∙◌, ap, length, get_or, arith}
use Rattle.std.proofs.lemmas.List.{length-map, get_or-map, get_or_read}
use Rattle.lic_trim.specs.Sources.{SourceChar, chars_of}
use Rattle.lic_trim.proofs.TextLemmas.{bytes_eq-same, bytes_eq-other}
use Rattle.lic_trim.proofs.side.is_text.Goals as goal

pub returns-then-text-i : goal.returns-then-text-i
returns-then-text-i c =
    let char = λ (s : SourceChar). s.char in
    let none : SourceChar = record { char = 0; start = 0; end = 0 } in
    bytes_eq-other c.args.text.now (chars_of c.args.part.now) (λ same.
    c.if-text-i.true
    (get_or_read c.args.text.now c.loop-i.i _ (omega arith) c.index-text-i.is 0 ∙ ap (λ l. get_or l c.loop-i.i 0) same
    ∙ get_or-map char c.args.part.now c.loop-i.i none 0 (omega arith)))

pub returns : goal.returns
returns c =
    let many : length (chars_of c.args.part.now) ≡ length c.args.part.now = length-map c.args.part.now (λ (s : SourceChar). s.char) in
    bytes_eq-same c.args.text.now (chars_of c.args.part.now) (omega arith) (λ k lt. c.loop-i.invariant k (omega arith))
