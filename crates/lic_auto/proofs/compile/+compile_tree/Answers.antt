use Rattle.std.proofs.Common.{◌≡◌, map, take, ap, ◌∙◌, arith}
use Rattle.std.proofs.lemmas.List.{take_all}
use Rattle.lic_words.specs.Expressions.{Language}
use Rattle.lic_words.specs.Expressions as words
use Rattle.lic_marks.specs.Cores.{WordsOf, alt_all}
use Rattle.lic_marks.specs.Rows.{weight}
use Rattle.lic_marks.specs.Nodes.{core_of}
use Rattle.lic_auto.specs.Compiling.{AreSame, pattern_words}
use Rattle.lic_auto.specs.Directions.{read}
use Rattle.lic_auto.proofs.WordSets.{Either, EmptyIf}
use Rattle.lic_auto.proofs.Taken.{measured-push, choice_keeps, choice_leaves_out, choice_with_empty, choice_without, node_given}
use Rattle.lic_auto.proofs.Trees.{AllHaveWords-measured, AllHaveWords-push, changed, compiled_sequence, compiled_choice, compiled_repetition, more_of}
use Rattle.lic_auto.proofs.compile.+compile_tree.Goals.{compile_choice-then-weight-gt0+in_ok-push, compile_choice-else-weight-gt0, compile_choice-then-has_empty+in_ok-push-2, compile_choice-else-has_empty}
use Rattle.lic_auto.proofs.compile.+compile_tree.Goals as goal

pub compile_tree-ordered_sequence-requires : goal.compile_tree-ordered_sequence-requires
compile_tree-ordered_sequence-requires t c = AllHaveWords-measured _ _ c.in_ok-compile_trees-in-Cat.ensures

pub compile_choice-loop-sub-preserved : goal.compile_choice-loop-sub-preserved
compile_choice-loop-sub-preserved t c =
    let d = c.args.direction in
    let known = c.loop-sub.invariant in
    let has = c.in_ok-node.ensures in
    let so_far = map (read d) (map pattern_words (take c.loop-sub.sub-index c.args.subs.now)) in
    let grew = more_of (read d) pattern_words c.args.subs.now c.loop-sub.sub-index c.sub-item.result c.loop-sub-test.true c.sub-item.is in
    elim c.if-weight-gt0.branch [
      | compile_choice-then-weight-gt0+in_ok-push w ↦
          let items = ap (λ v. v.items) w.kept-is ∙ w.in_ok-push.ensures.items in
          record {
            measured = measured-push _ _ _ items known.measured has.measured;
            words = rw w.has_empty-is (choice_keeps so_far _ _ _ _ _ grew has known.words _ items);
          }
      | compile_choice-else-weight-gt0 w ↦
          let light : weight (core_of c.in_ok-node.node) ≡ 0 = omega (arith, c.weight.ensures, w.if-weight-gt0.false) in
          record {
            measured = rw w.kept-is known.measured;
            words = rw (w.kept-is, w.has_empty-is) (choice_leaves_out so_far _ _ _ _ _ grew has known.words _ w.has_empty_word-has_empty.ensures light);
          }
    ]

pub compile_choice-returns : goal.compile_choice-returns
compile_choice-returns t c =
    let all = map (read c.args.direction) (map pattern_words c.args.subs.now) in
    let b = c.loop-sub.has_empty in
    let kept = WordsOf (alt_all (map core_of c.loop-sub.kept.items)) in
    let choice : AreSame (Either (EmptyIf b) kept) (Language (words.alt_all all)) =
    rw (take_all c.loop-sub.sub-index c.args.subs.now c.loop-sub-test.false) at c.loop-sub.invariant.words in
    let same : AreSame (WordsOf (alt_all (map core_of c.if-has_empty.kept.items))) (Language (words.alt_all all)) =
    elim c.if-has_empty.branch [
      | compile_choice-then-has_empty+in_ok-push-2 w ↦
          choice_with_empty _ _ _ b _ (ap (λ v. v.items) w.kept-is ∙ w.in_ok-push-2.ensures.items) w.empty_word.ensures w.if-has_empty.true choice
      | compile_choice-else-has_empty w ↦
          rw w.kept-is (choice_without kept _ b w.if-has_empty.false choice)
    ] in
    rw c.ok_or.ensures.value (node_given c.alt.result _ _ _ same c.alt.ensures.built)

pub compile_tree-returns-in_ok-compile_trees-in-Cat : goal.compile_tree-returns-in_ok-compile_trees-in-Cat
compile_tree-returns-in_ok-compile_trees-in-Cat t c =
    changed _ (compiled_sequence c.args.direction _ _ _ (rw c.deref.ensures.value at c.in_ok-compile_trees-in-Cat.ensures) c.in-Cat.is) c.ordered_sequence.ensures

pub compile_tree-returns-in-Alt : goal.compile_tree-returns-in-Alt
compile_tree-returns-in-Alt t c =
    changed _ (compiled_choice c.args.direction _ _ c.in-Alt.is) (rw c.deref-in-Alt.ensures.value at c.compile_choice.ensures)

pub compile_tree-returns-in_ok-body-in_default : goal.compile_tree-returns-in_ok-body-in_default
compile_tree-returns-in_ok-body-in_default t c =
    changed _ (compiled_repetition c.args.direction _ _ _ _ _ c.in-Repeat.is
    (rw c.deref-in_default.ensures at c.in_ok-body-in_default.ensures)) c.repetition.ensures

pub compile_trees-loop-sub-preserved : goal.compile_trees-loop-sub-preserved
compile_trees-loop-sub-preserved t c =
    let d = c.args.direction in
    rw (c.in_ok-push.ensures.items, more_of (read d) pattern_words c.args.subs.now c.loop-sub.sub-index c.sub-item.result c.loop-sub-test.true c.sub-item.is)
    (AllHaveWords-push c.loop-sub.nodes.items
    (map (read d) (map pattern_words
    (take c.loop-sub.sub-index c.args.subs.now))) _ _ c.loop-sub.invariant c.in_ok-compile_tree.ensures)
