use Rattle.std.proofs.Common.{◌≡◌, ◌⊎◌, true, inl, inr, sym, ◌∙◌}
use Rattle.std.proofs.lemmas.Bool.{true≢false}
use Rattle.lic_ere.specs.Trees.{tree_of}
use Rattle.lic_places.specs.Places.{IsAfterBlank, spelling_of}
use Rattle.lic_reverse.specs.Passing.{passes_of}
use Rattle.lic_view.proofs.ViewSpans.{within-one}
use Rattle.lic_reverse.proofs.StreakSpans.{may-go_on, streak-following, streak-no_place, streak-none, streak-some}
use Rattle.lic_reverse.proofs.letters.streaks.streak_before.Goals as goal
use Rattle.lic_reverse.proofs.letters.streaks.streak_before.Goals.{else-not-letters-via-then-not-letters+else-is_after_blank, else-not-letters-via-else-not-letters}

pub place_of-requires : goal.place_of-requires
place_of-requires c = within-one c.args.view.now c.args.span c.args.number c.requires.placed c.requires.low c.requires.high

pub returns-in_err-place-clause-back : goal.returns-in_err-place-clause-back
returns-in_err-place-clause-back c =
    let letters = c.args.letters.now in
    rw c.from_residual.ensures
    (λ keep. streak-no_place keep c.args.view.now c.tokens_have_texts.ensures (passes_of (tree_of letters.ere.now)) letters.count letters.after c.args.span c.args.number c.in_err-place.ensures)

pub returns-then-is_after_blank-clause-back : goal.returns-then-is_after_blank-clause-back
returns-then-is_after_blank-clause-back c =
    let letters = c.args.letters.now in
    λ keep. streak-following keep c.args.view.now c.tokens_have_texts.ensures (passes_of (tree_of letters.ere.now)) letters.count letters.after c.args.span c.args.number c.in_ok-place.place
    c.if-not-letters.true c.in_ok-place.ensures (c.is_after_blank.ensures.0 c.if-is_after_blank.true)

pub returns-then-low-place-clause-back : goal.returns-then-low-place-clause-back
returns-then-low-place-clause-back c =
    let letters = c.args.letters.now in
    λ keep. streak-none keep c.args.view.now c.tokens_have_texts.ensures (passes_of (tree_of letters.ere.now)) letters.count letters.after c.args.span c.args.number c.in_ok-place.place
    c.streak_start-low.result c.in_ok-place.ensures c.streak_start-low.ensures.start c.if-low-place.true

pub returns-clause-back : goal.returns-clause-back
returns-clause-back c =
    let letters = c.args.letters.now in
    let free : (letters.after ≡ true) ⊎ ¬ (IsAfterBlank (spelling_of c.args.view.now) c.in_ok-place.place) =
    elim c.else-not-letters.branch [
      | else-not-letters-via-then-not-letters+else-is_after_blank w ↦
          inr (λ following. true≢false (sym (w.is_after_blank.ensures.1 following) ∙ w.if-is_after_blank.false))
      | else-not-letters-via-else-not-letters w ↦ inl w.if-not-letters.false
    ] in
    λ keep. streak-some keep c.args.view.now c.tokens_have_texts.ensures (passes_of (tree_of letters.ere.now)) letters.count letters.after c.args.span c.args.number c.in_ok-place.place
    c.streak_start-low.result c.requires.placed c.requires.low c.requires.high c.in_ok-place.ensures
    (may-go_on (spelling_of c.args.view.now) letters.after c.in_ok-place.place free) c.streak_start-low.ensures.start c.if-low-place.false
