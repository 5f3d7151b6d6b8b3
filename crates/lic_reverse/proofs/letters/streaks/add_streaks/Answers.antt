use Rattle.std.proofs.Common.{◌≤◌, [], ◌∷◌, ◌++◌, arith, ap, sym, subst}
use Rattle.lic_ere.specs.Trees.{tree_of}
use Rattle.lic_view.specs.Backward.{Keeps}
use Rattle.lic_reverse.specs.Passing.{passes_of}
use Rattle.lic_reverse.specs.Streaks.{IsStreakTo}
use Rattle.lic_reverse.proofs.KeptLoops.{keeps-below_all, keeps-below_first, keeps-below_more, keeps-below_same}
use Rattle.lic_reverse.proofs.letters.streaks.add_streaks.Goals as goal
use Rattle.lic_reverse.proofs.letters.streaks.add_streaks.Goals.{in-Some+in_ok-push_joined, in_default}

pub loop-number-init : goal.loop-number-init
loop-number-init c =
    let letters = c.args.letters.now in
    record {
      adds = keeps-below_first c.args.keep c.args.view.now (IsStreakTo (passes_of (tree_of letters.ere.now)) letters.count letters.after) c.args.span c.args.found.now.items
          c.requires.ordered;
      known = c.requires.known;
    }

pub push_joined-requires-clause-ordered : goal.push_joined-requires-clause-ordered
push_joined-requires-clause-ordered c = c.loop-number.invariant.adds.kept.ordered

pub push_joined-requires-clause-span : goal.push_joined-requires-clause-span
push_joined-requires-clause-span c = (c.in-Some.ensures.back c.args.keep).placed.ordered 0 c.in-Some.stretch (omega arith)

pub loop-number-preserved : goal.loop-number-preserved
loop-number-preserved c =
    let tokens = c.args.view.now in
    let span = c.args.span in
    let letters = c.args.letters.now in
    let number = c.loop-number.number in
    let from : span.low ≤ number = c.loop-number.auto.number in
    elim c.match-streak_before.branch [
      | in-Some+in_ok-push_joined w ↦ record {
        adds = keeps-below_more c.args.keep tokens (IsStreakTo (passes_of (tree_of letters.ere.now)) letters.count letters.after) span number
            c.args.found.now.items c.loop-number.found.items (w.in-Some.stretch ∷ []) c.match-streak_before.found.items from c.loop-number.invariant.adds
            (w.in-Some.ensures.back c.args.keep)
            (subst (λ v. Keeps c.args.keep (c.loop-number.found.items ++ w.in-Some.stretch ∷ []) v.items) (sym w.found-is) w.in_ok-push_joined.ensures);
        known = w.in-Some.ensures.known;
      }
      | in_default w ↦ record {
        adds = keeps-below_same c.args.keep tokens (IsStreakTo (passes_of (tree_of letters.ere.now)) letters.count letters.after) span number
            c.args.found.now.items c.loop-number.found.items c.match-streak_before.found.items from c.loop-number.invariant.adds
            (w.in_default.ensures.back c.args.keep) (ap (λ v. v.items) w.found-is);
        known = w.in_default.ensures.known;
      }
    ]

pub returns-clause-adds : goal.returns-clause-adds
returns-clause-adds c =
    let letters = c.args.letters.now in
    keeps-below_all c.args.keep c.args.view.now (IsStreakTo (passes_of (tree_of letters.ere.now)) letters.count letters.after) c.args.span c.loop-number.number
    c.args.found.now.items c.loop-number.found.items
    (omega (arith, c.loop-number.auto, c.loop-number-test.false, c.end_of-number-end.ensures, c.requires.placed.ordered 0 c.args.span (omega arith)))
    c.loop-number.invariant.adds

pub returns-clause-known : goal.returns-clause-known
returns-clause-known c = c.loop-number.invariant.known
