use Rattle.std.proofs.Common.{◌||◌, [], drop, ap, sym, ◌∙◌, arith, ℕ, List, get_or}
use Rattle.std.specs.List.{list_any}
use Rattle.std.proofs.lemmas.List.{take_all}
use Rattle.std.proofs.lemmas.List.Folds.{list_any_more}
use Rattle.lic_kind.specs.LineRules.{texts_of}
use Rattle.lic_trim.specs.PieceLengths.{has_bit, begins_with_spaced}
use Rattle.lic_trim.specs.Walks.{walked}
use Rattle.lic_trim.proofs.PieceLengths.{has_bit_zero}
use Rattle.lic_trim.proofs.ascii_sequences.spaced_lengths.Goals as goal

pub loop-i-init : goal.loop-i-init
loop-i-init c = has_bit_zero

pub loop-i-preserved : goal.loop-i-preserved
loop-i-preserved c = λ n.
    let way = drop c.args.index (walked c.args.side c.args.line.now) in
    let texts = texts_of c.args.texts.now in
    let i = c.loop-i.i in
    let test = λ (t : List ℕ). begins_with_spaced n way (walked c.args.side t) in
    c.in_ok-mask.ensures n
    ∙ ap (λ t. has_bit c.loop-i.mask n || test t) c.characters.ensures
    ∙ ap (λ b. b || test (get_or texts i [])) (c.loop-i.invariant n)
    ∙ sym (list_any_more test texts i [] (omega arith))

pub returns : goal.returns
returns c = λ n.
    let way = drop c.args.index (walked c.args.side c.args.line.now) in
    let texts = texts_of c.args.texts.now in
    c.loop-i.invariant n ∙ ap (list_any (λ t. begins_with_spaced n way (walked c.args.side t))) (take_all c.loop-i.i texts (omega arith))
