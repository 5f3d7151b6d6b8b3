use Rattle.std.proofs.Common.{◌≡◌, ◌∙◌, ◌+◌, [], false, length, sym, map, arith}
use Rattle.std.specs.Prelude.{reverse}
use Rattle.std.proofs.lemmas.List.{ext_get_or, get_or-map, length-map}
use Rattle.lic_trim.specs.Sources.{chars_of}
use Rattle.lic_kind.specs.LineRules.{texts_of}
use Rattle.lic_trim.specs.Walks.{repeat_ends}
use Rattle.lic_trim.proofs.sequences.step_texts.Goals as goal

pub returns : goal.returns
returns c =
    let ts = texts_of c.args.texts.now in
    let test = repeat_ends c.args.flags.now (reverse (chars_of c.args.line.now)) (c.args.k + 1) in
    let many : length (map test ts) ≡ length ts = length-map ts test in
    ext_get_or false c.loop-i.repeating (map test ts) (omega arith)
    (λ i lt. c.loop-i.invariant.moved i (omega arith) ∙ sym (get_or-map test ts i [] false (omega arith)))
