-- The part that the groups have, or all.
use Rattle.std.proofs.Common.{subst}
use Rattle.std.specs.Prelude.{IfSome}
use Rattle.lic_ere.specs.Trees.{tree_of}
use Rattle.lic_ere.specs.Meaning.{tree_words}
use Rattle.lic_words.specs.Expressions.{Language}
use Rattle.lic_reverse.specs.Grouped.{AreGroupedWays}
use Rattle.lic_reverse.specs.Tidily.{spans_of}
use Rattle.lic_reverse.proofs.EreLemmas.{ok-changed}
use Rattle.lic_reverse.proofs.GroupParts.{grouped-part, ok-three, whole-part}
use Rattle.lic_reverse.proofs.ways.endings.part_for.Goals as goal

pub returns : goal.returns
returns c =
    ok-three _ _ _ _ c.with.result
    (λ part one other third tokens s placed grouped.
    grouped-part tokens (Language (tree_words (tree_of c.args.ere.now))) c.in-Some-last_letters.hash c.args.ways.now part c.in-Some.grouped placed
    (subst (λ o. IfSome o (AreGroupedWays tokens c.args.ways.now)) c.in-Some.is grouped) c.in-Some-last_letters.ensures one other third s)
    c.with.ensures.nothing c.with.ensures.letter c.with.ensures.blank

pub returns-2 : goal.returns-2
returns-2 c =
    ok-changed _ _ c.copy.result
    (λ part same tokens s placed grouped. whole-part tokens (Language (tree_words (tree_of c.args.ere.now))) (spans_of c.args.ways.now s) (spans_of part s) (placed s) (same s))
    c.copy.ensures
