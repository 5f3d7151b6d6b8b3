-- The letters of the bytes are those of the text.
use Rattle.std.proofs.Common.{sym, subst}
use Rattle.lic_phrases.specs.PieceTexts.{IsPieceText}
use Rattle.lic_places.specs.Texts.{AreEdges}
use Rattle.lic_places.proofs.EdgeLemmas.{are_edges}
use Rattle.lic_places.proofs.edges.edges_of.Goals as goal

pub returns : goal.returns
returns c =
    let front = c.without_front-has_front in
    let end = c.without_end-has_end in
    subst (λ l. AreEdges l front.result.0 end.result.1.now end.result.0) c.as_bytes.ensures.value
    (are_edges c.as_bytes.result.now front.result.1.now end.result.1.now front.result.0 end.result.0
    c.as_bytes.ensures.utf8 (subst IsPieceText (sym c.as_bytes.ensures.value) c.requires)
    front.ensures.parts front.ensures.none end.ensures.parts end.ensures.none)
