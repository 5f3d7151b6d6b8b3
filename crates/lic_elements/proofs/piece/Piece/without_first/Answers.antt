use Rattle.std.proofs.Common.{◌≡◌, [], drop, sym, ap, ◌∙◌}
use Rattle.std.proofs.lemmas.List.{nil_from_length}
use Rattle.lic_elements.specs.Pieces.{characters}
use Rattle.lic_elements.proofs.piece.Piece.without_first.Goals as goal

pub returns-in-Some : goal.returns-in-Some
returns-in-Some c = sym (ap (drop 1) c.in-Some.ensures.some)

pub returns-in-None : goal.returns-in-None
returns-in-None c =
    let none : characters c.args.self ≡ [] = nil_from_length (characters c.args.self) c.in-None.ensures.none in
    none ∙ sym (ap (drop 1) none)
