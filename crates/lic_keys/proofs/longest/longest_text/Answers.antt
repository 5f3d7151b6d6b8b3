-- One part more: a longer text, another text, or no text.
use Rattle.std.proofs.Common.{◌+◌, ◌≤◌, List, ℕ, length, arith, subst, sym}
use Rattle.lic_phrases.specs.PieceTexts.{IsPieceText}
use Rattle.lic_places.specs.Texts.{AreEdges}
use Rattle.lic_keys.specs.Required.{HasLetters}
use Rattle.lic_keys.proofs.LongestLemmas.{IsLongest, longest-all, longest-more, longest-other, longest-same, other-no_letters, text-letters, text-most, text-piece}
use Rattle.lic_keys.proofs.longest.longest_text.Goals.{in-Text+then-letters-letter_count, in-Text+else-letters-letter_count, in_default}
use Rattle.lic_keys.proofs.longest.longest_text.Goals as goal

pub edges_of-requires : goal.edges_of-requires
edges_of-requires c =
    subst IsPieceText (sym c.deref.ensures)
    (text-piece c.args.parts.now c.loop-number.number c.index-parts-number.result c.in-Text.text c.loop-number-test.true c.index-parts-number.is c.in-Text.is c.requires)

pub loop-number-preserved : goal.loop-number-preserved
loop-number-preserved c =
    let parts = c.args.parts.now in
    let i = c.loop-number.number in
    let p = c.index-parts-number.result in
    elim c.match-part.branch [
      | in-Text+then-letters-letter_count w ↦
          let e = w.edges_of.result in
          let edges = subst (λ t. AreEdges t e.has_front e.letters.now e.has_end) w.deref.ensures w.edges_of.ensures in
          subst (IsLongest parts (i + 1)) (sym w.longest-is)
          (longest-more parts i c.loop-number.longest w.letter_count.result e.letters.now w.letter_count.ensures w.if-letters-letter_count.true
          (text-letters parts i p w.in-Text.text e.letters.now e.has_front e.has_end c.loop-number-test.true c.index-parts-number.is w.in-Text.is edges
          (omega (arith, w.if-letters-letter_count.true)))
          (λ l has. text-most parts i p w.in-Text.text e.letters.now l e.has_front e.has_end c.index-parts-number.is w.in-Text.is edges has)
          c.loop-number.invariant)
      | in-Text+else-letters-letter_count w ↦
          let e = w.edges_of.result in
          let edges = subst (λ t. AreEdges t e.has_front e.letters.now e.has_end) w.deref.ensures w.edges_of.ensures in
          let most : (l : List ℕ) → HasLetters parts i l → length l ≤ w.letter_count.result = λ l has.
          omega (arith, w.if-letters-letter_count.false, text-most parts i p w.in-Text.text e.letters.now l e.has_front e.has_end c.index-parts-number.is w.in-Text.is edges has) in
          subst (IsLongest parts (i + 1)) (sym w.longest-is)
          (longest-same parts i c.loop-number.longest w.letter_count.result w.letter_count.ensures most c.loop-number.invariant)
      | in_default w ↦
          subst (IsLongest parts (i + 1)) (sym w.longest-is)
          (longest-other parts i c.loop-number.longest
          (λ l has. other-no_letters parts i p l c.index-parts-number.is w.in_default.not-Text has) c.loop-number.invariant)
    ]

pub returns : goal.returns
returns c = longest-all c.args.parts.now c.loop-number.number c.loop-number.longest c.loop-number-test.false c.loop-number.invariant
