-- A block of letters of one byte each, or one letter.
use Rattle.std.proofs.Common.{◌-◌, true, sym, ap, subst, ◌∙◌}
use Rattle.std.proofs.lemmas.Bool.{true≢false}
use Rattle.lic_ere.specs.Trees.{tree_of}
use Rattle.lic_places.specs.Places.{spelling_of}
use Rattle.lic_places.proofs.TokenPlaces.{spelling-utf8}
use Rattle.lic_reverse.specs.Passing.{passes_of}
use Rattle.lic_reverse.specs.Streaks.{IsChain}
use Rattle.lic_reverse.proofs.KnownStreaks.{block-chain}
use Rattle.lic_view.proofs.LastLetters.{letter-one}
use Rattle.lic_reverse.proofs.letters.streak.stretch_back.Goals as goal

pub returns-then-ends_block : goal.returns-then-ends_block
returns-then-ends_block c =
    let bytes = spelling_of c.args.view.now in
    let block = c.ends_block.ensures c.if-ends_block.true in
    let chain : IsChain bytes (λ _. true) c.args.size (c.args.place - c.args.size) c.args.place =
    subst (λ b. IsChain b (λ _. true) c.args.size (c.args.place - c.args.size) c.args.place) c.bytes.ensures
    (block-chain c.bytes.result.now c.args.size c.args.place block.0 block.1 block.2) in (
      c.requires.size,
      c.if-size-most.true,
      subst (λ t. IsChain bytes (passes_of t) c.args.size (c.args.place - c.args.size) c.args.place) (sym (c.is_any.ensures c.if-is_any.true)) chain,
    )

pub returns-in_default : goal.returns-in_default
returns-in_default c = λ p d is passing.
    let bytes = spelling_of c.args.view.now in
    let one = letter-one bytes c.args.place p d c.in-Some.start c.in-Some.letter (spelling-utf8 c.args.view.now c.tokens_have_texts.ensures) is c.in-Some.ensures in
    true≢false (sym passing ∙ ap (passes_of (tree_of c.args.ere.now)) one.1 ∙ sym c.passes.ensures ∙ c.if-passes.false)
