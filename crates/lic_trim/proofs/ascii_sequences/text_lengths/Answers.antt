use Rattle.std.proofs.Common.{drop, refl, w64, arith}
use Rattle.std.specs.Int.{trailing_zeros}
use Rattle.lic_kind.specs.LineRules.{texts_of}
use Rattle.lic_trim.specs.Walks.{walked}
use Rattle.lic_trim.proofs.BegunTexts.{none_found, one_found, all_found}
use Rattle.lic_trim.proofs.ascii_sequences.text_lengths.Goals as goal

pub loop-left-init : goal.loop-left-init
loop-left-init c =
    none_found c.args.side (texts_of c.args.texts.now) (drop c.args.index (walked c.args.side c.args.line.now)) c.args.begun c.requires.begun

pub loop-left-preserved : goal.loop-left-preserved
loop-left-preserved c =
    let left = c.loop-left.left in
    one_found c.args.side (texts_of c.args.texts.now) (drop c.args.index (walked c.args.side c.args.line.now)) c.loop-left.mask left c.loop-left.invariant
    (omega (arith, c.loop-left-test.true)) c.loop-left.auto.left-fits.fits (trailing_zeros w64 left) c.in_ok-mask.mask refl c.in_ok-mask.ensures

pub returns : goal.returns
returns c =
    all_found c.args.side (texts_of c.args.texts.now) (drop c.args.index (walked c.args.side c.args.line.now)) c.loop-left.mask c.loop-left.left
    c.loop-left.invariant (omega (arith, c.loop-left-test.false))
