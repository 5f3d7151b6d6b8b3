use Rattle.std.proofs.Common.{[], ◌&&◌, ◌||◌, drop, length, get_or, ap, sym, ◌∙◌, arith}
use Rattle.std.proofs.lemmas.Bool.{lt-ltb}
use Rattle.lic_kind.proofs.BeginningLemmas.{some_weaker}
use Rattle.lic_kind.specs.LineRules.{texts_of}
use Rattle.lic_trim.specs.PieceLengths.{has_bit, begins_with_length}
use Rattle.lic_trim.specs.Walks.{walked}
use Rattle.lic_trim.proofs.ascii_sequences.with_number.Goals as goal

pub returns : goal.returns
returns c =
    let texts = texts_of c.args.texts.now in
    let side = c.args.side in
    let way = drop c.args.index (walked side c.args.line.now) in
    let on = lt-ltb c.args.i (length texts) (omega arith) in
    some_weaker c.with_text.result _ _ (λ new is n. is n
    ∙ ap (λ t. has_bit c.args.mask n || begins_with_length n way (walked side t)) c.characters.ensures
    ∙ sym (ap (λ b. has_bit c.args.mask n || (b && begins_with_length n way (walked side (get_or texts c.args.i [])))) on)) c.with_text.ensures
