use Rattle.std.proofs.Common.{sym, ap, subst, ◌∙◌}
use Rattle.std.proofs.lemmas.Bool.{true≢false}
use Rattle.lic_ere.specs.Trees.{tree_of}
use Rattle.lic_places.specs.Places.{spelling_of}
use Rattle.lic_view.specs.LettersBefore.{IsLetterBefore}
use Rattle.lic_reverse.specs.Passing.{passes_of}
use Rattle.lic_places.proofs.TokenPlaces.{spelling-utf8}
use Rattle.lic_view.proofs.LastLetters.{letter-one}
use Rattle.lic_reverse.proofs.PassingLemmas.{place-one}
use Rattle.lic_reverse.proofs.letters.passing.passing_before.Goals as goal
use Rattle.lic_reverse.proofs.letters.passing.passing_before.Goals.{then-letter-eq32-via-then-letter-eq32, then-letter-eq32-via-else-letter-eq32+then-not-passes}

pub returns-in_err-start : goal.returns-in_err-start
returns-in_err-start c = rw c.from_residual-in_err-start.ensures (λ p q d place dark passes is.
    let tokens = c.args.view.now in
    let same = place-one tokens c.args.kind c.args.number q c.in_ok-place.place place c.in_ok-place.ensures in
    c.in_err-start.ensures p d (subst (λ x. IsLetterBefore (spelling_of tokens) x p d) same is))

pub returns-then-letter-eq32 : goal.returns-then-letter-eq32
returns-then-letter-eq32 c = λ p q d place dark passes is.
    let tokens = c.args.view.now in
    let same = place-one tokens c.args.kind c.args.number q c.in_ok-place.place place c.in_ok-place.ensures in
    let here = subst (λ x. IsLetterBefore (spelling_of tokens) x p d) same is in
    let one = letter-one (spelling_of tokens) c.in_ok-place.place p d c.in_ok-start.start c.in_ok-start.letter (spelling-utf8 tokens c.tokens_have_texts.ensures) here c.in_ok-start.ensures in
    elim c.then-letter-eq32.branch [
      | then-letter-eq32-via-then-letter-eq32 w ↦ dark (one.1 ∙ w.if-letter-eq32.true)
      | then-letter-eq32-via-else-letter-eq32+then-not-passes w ↦
          true≢false (sym passes ∙ ap (passes_of (tree_of c.args.ere.now)) one.1 ∙ sym w.passes.ensures ∙ w.if-not-passes.true)
    ]
