use Rattle.std.proofs.Common.{◌≡◌, false, true, [], ◌∷◌, ◌++◌, refl, arith, rules, ◌∙◌}
use Rattle.std.proofs.lemmas.Iterator.Adapters.{YieldsList-from_vec}
use Rattle.std.proofs.lemmas.Iterator.Consumers.{YieldsList-turn}
use Rattle.lic_marks.specs.Marks.{is_nullable}
use Rattle.lic_marks.specs.Rows.{weight}
use Rattle.lic_marks.specs.Nodes.{core_of}
use Rattle.lic_auto.proofs.Taken.{sequence_keeps, sequence_leaves_out, sequence_ends}
use Rattle.lic_auto.proofs.WordSets.{AreSame-trans}
use Rattle.lic_auto.proofs.compile.sequence.Goals as goal

pub loop-child-preserved-in-Continue-1 : goal.loop-child-preserved-in-Continue-1
loop-child-preserved-in-Continue-1 c =
    let known = c.loop-child.invariant in
    let given = c.into_iter-child-iterator.ensures.into_iter_gives in
    let turn = YieldsList-turn (YieldsList-from_vec {s =
    c.into_iter-child-iterator.result} c.args.children.items given.0
    (given.1 ∙ c.args.children.ok.0)) c.loop-child.yielded c.loop-child.child-iterator c.loop-child.yielded_by c.next.result c.next.new.self c.in-Some.child c.in-Some.is c.next.ensures.steps in
    record {
      measured = c.in_ok-push_joined.ensures.measured;
      words = AreSame-trans c.in_ok-push_joined.ensures.words (sequence_keeps _ _ _ turn _ (c.loop-child.kept.items ++ c.in-Some.child ∷ []) refl known.words);
    }

pub returns-then-not-has_empty_word : goal.returns-then-not-has_empty_word
returns-then-not-has_empty_word c =
    let given = c.into_iter-child-iterator.ensures.into_iter_gives in
    let turn = YieldsList-turn (YieldsList-from_vec {s =
    c.into_iter-child-iterator.result} c.args.children.items given.0
    (given.1 ∙ c.args.children.ok.0)) c.loop-child.yielded c.loop-child.child-iterator c.loop-child.yielded_by c.next.result c.next.new.self c.in-Some.child c.in-Some.is c.next.ensures.steps in
    let light : weight (core_of c.in-Some.child) ≡ 0 = omega (arith, c.weight.ensures, c.if-weight-gt0.false) in
    let never : is_nullable (core_of c.in-Some.child) ≡ false = search rules in
    sequence_ends _ _ _ turn _ light never c.no_word.ensures

pub loop-child-preserved : goal.loop-child-preserved
loop-child-preserved c =
    let known = c.loop-child.invariant in
    let given = c.into_iter-child-iterator.ensures.into_iter_gives in
    let turn = YieldsList-turn (YieldsList-from_vec {s =
    c.into_iter-child-iterator.result} c.args.children.items given.0
    (given.1 ∙ c.args.children.ok.0)) c.loop-child.yielded c.loop-child.child-iterator c.loop-child.yielded_by c.next.result c.next.new.self c.in-Some.child c.in-Some.is c.next.ensures.steps in
    let light : weight (core_of c.in-Some.child) ≡ 0 = omega (arith, c.weight.ensures, c.if-weight-gt0.false) in
    let empty_too : is_nullable (core_of c.in-Some.child) ≡ true = search rules in
    record {
      measured = known.measured;
      words = sequence_leaves_out _ _ _ turn _ light empty_too known.words;
    }
