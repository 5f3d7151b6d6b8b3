-- The letters of a text among the parts.
use Rattle.std.proofs.Common.{◌≡◌, ℕ, ◌-◌, ◌<◌, List, false, length, arith, subst, sym, ◌∙◌}
use Rattle.std.specs.Prelude.{◌==◌}
use Rattle.std.proofs.lemmas.Bool.Decides.{nat_tests}
use Rattle.lic_phrases.specs.PieceTexts.{IsPieceText}
use Rattle.lic_places.specs.Texts.{AreEdges}
use Rattle.lic_keys.proofs.LongestLemmas.{text-letters, text-piece}
use Rattle.lic_search.proofs.last_text.last_text.Goals as goal

some : (letters : List ℕ) → length letters == 0 ≡ false → 0 < length letters
some letters is = grind (arith, nat_tests)

pub edges_of-requires : goal.edges_of-requires
edges_of-requires c =
    subst IsPieceText (sym c.deref.ensures)
    (text-piece c.args.parts.now (c.loop-number.number - 1) c.index-parts-number.result c.in-Text.text (omega (arith, c.loop-number-test.true, c.loop-number.auto.number)) c.index-parts-number.is c.in-Text.is c.requires)

pub returns-then-not-is_empty : goal.returns-then-not-is_empty
returns-then-not-is_empty c =
    let e = c.edges_of.result in
    let edges = subst (λ t. AreEdges t e.has_front e.letters.now e.has_end) c.deref.ensures c.edges_of.ensures in
    text-letters c.args.parts.now (c.loop-number.number - 1) c.index-parts-number.result c.in-Text.text e.letters.now e.has_front e.has_end
    (omega (arith, c.loop-number-test.true, c.loop-number.auto.number)) c.index-parts-number.is c.in-Text.is edges
    (some e.letters.now (sym c.is_empty.ensures ∙ c.if-not-is_empty.true))
