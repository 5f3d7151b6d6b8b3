use Rattle.std.proofs.Common.{◌≤◌, ◌-◌, sym, subst, arith}
use Rattle.lic_ere.specs.Trees.{tree_of}
use Rattle.lic_places.specs.Places.{spelling_of}
use Rattle.lic_places.proofs.TokenPlaces.{spelling-utf8}
use Rattle.lic_reverse.specs.Passing.{passes_of}
use Rattle.lic_reverse.specs.Streaks.{IsStreakStart}
use Rattle.lic_reverse.proofs.AnyChains.{any-start}
use Rattle.lic_reverse.proofs.KnownStreaks.{ascii-start, longest-start}
use Rattle.lic_reverse.proofs.letters.streak.streak_start.Goals as goal

pub returns-then-place-count-clause-start : goal.returns-then-place-count-clause-start
returns-then-place-count-clause-start c =
    let bytes = spelling_of c.args.view.now in
    subst (λ t. IsStreakStart bytes (passes_of t) c.args.count c.args.place 0) (sym (c.is_any.ensures c.if-is_any.true))
    (any-start bytes c.args.count c.args.place (spelling-utf8 c.args.view.now c.tokens_have_texts.ensures) (c.is_boundary.ensures.0 c.if-is_boundary.true)
    c.if-place-count.true)

pub returns-then-is_ascii-clause-start : goal.returns-then-is_ascii-clause-start
returns-then-is_ascii-clause-start c =
    let bytes = spelling_of c.args.view.now in
    let many : c.args.count ≤ c.args.place = omega (arith, c.if-place-count.false) in
    subst (λ t. IsStreakStart bytes (passes_of t) c.args.count c.args.place (c.args.place - c.args.count)) (sym (c.is_any.ensures c.if-is_any.true))
    (ascii-start bytes c.args.count c.args.place (c.is_ascii.ensures c.if-is_ascii.true) (c.is_boundary.ensures.0 c.if-is_boundary.true).0 many)

pub returns-clause-start : goal.returns-clause-start
returns-clause-start c =
    longest-start (spelling_of c.args.view.now) (passes_of (tree_of c.args.ere.now)) c.args.count c.args.place c.streak_up_to.result
    c.streak_up_to.ensures.place c.streak_up_to.ensures.longest
