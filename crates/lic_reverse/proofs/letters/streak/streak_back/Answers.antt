use Rattle.std.proofs.Common.{◌≡◌, ◌+◌, subst, arith}
use Rattle.lic_ere.specs.Trees.{tree_of}
use Rattle.lic_places.specs.Places.{spelling_of}
use Rattle.lic_reverse.specs.Passing.{passes_of}
use Rattle.lic_reverse.specs.Streaks.{IsChain}
use Rattle.lic_reverse.proofs.KnownStreaks.{chain-joined}
use Rattle.lic_reverse.proofs.letters.streak.streak_back.Goals as goal

pub loop-low-preserved : goal.loop-low-preserved
loop-low-preserved c =
    let bytes = spelling_of c.args.view.now in
    let passes = passes_of (tree_of c.args.ere.now) in
    let more = c.in-Some.ensures in
    let sum : c.in-Some.letters + c.loop-low.number ≡ c.loop-low.number + c.in-Some.letters = omega arith in
    let chain : IsChain bytes passes (c.in-Some.letters + c.loop-low.number) c.in-Some.start c.args.place =
    chain-joined bytes passes c.in-Some.letters c.loop-low.number c.in-Some.start c.loop-low.low c.args.place more.2 c.loop-low.invariant.1 in
    (omega (arith, more.1, c.loop-low.invariant.0), subst (λ n. IsChain bytes passes n c.in-Some.start c.args.place) sum chain)
