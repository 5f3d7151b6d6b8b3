use Rattle.std.proofs.Common.{◌≡◌, length, refl, rules, ◌∙◌, ap}
use Rattle.std.specs.Str.{chars}
use Rattle.lic_vars.specs.Moves.{text, variable}
use Rattle.lic_ere.specs.Meaning.{tree_words}
use Rattle.lic_ere.specs.Trees.{tree_of}
use Rattle.lic_markup.specs.declared.part.Part.{the_lemmas}
use Rattle.lic_vars.proofs.PartLemmas.{more-Text, more-Var, more-Optional, pushed, pushed-optional, pieces-pushed, pieces-appended, text-piece, body-texts}
use Rattle.lic_vars.proofs.instructions.+instructions_of.Goals as goal
use Rattle.lic_vars.proofs.instructions.+instructions_of.Goals.{in-Text+in_ok-push-in-Text, in-Var+in_ok-push-in-Var, in-Optional+in_ok-inner-in-Optional+in_ok-push-in-Optional+in_ok-append-in-Optional}

pub loop-i-preserved : goal.loop-i-preserved
loop-i-preserved t c = record {
  moves = elim c.match-parts-i.branch [
    | in-Text+in_ok-push-in-Text w ↦
        rw w.instructions-is (pushed _ _ _ _ _ _ w.in_ok-push-in-Text.ensures.items (ap (λ n. text (chars n)) w.as_str.ensures.value)
        (more-Text _ _ _ c.loop-i-test.true c.index-parts-i.is _ w.in-Text.is) ∙ c.loop-i.invariant.moves)
    | in-Var+in_ok-push-in-Var w ↦
        rw w.instructions-is (pushed _ _ _ _ _ _ w.in_ok-push-in-Var.ensures.items
        (ap (λ n. variable n (tree_words (tree_of w.in-Var.ere))) w.as_str-in-Var.ensures.value)
        (more-Var _ _ _ c.loop-i-test.true c.index-parts-i.is _ _ _ w.in-Var.is) ∙ c.loop-i.invariant.moves)
    | in-Optional+in_ok-inner-in-Optional+in_ok-push-in-Optional+in_ok-append-in-Optional w ↦
        let size : w.len.result ≡ length w.in_ok-inner-in-Optional.inner.items = search rules in
        rw w.instructions-is (pushed-optional _ _ _ w.in_ok-inner-in-Optional.inner.items _ w.len.result _ _ _ w.in_ok-push-in-Optional.ensures.items refl size w.in_ok-inner-in-Optional.ensures.moves
        w.in_ok-append-in-Optional.ensures.items
        (rw w.deref.ensures.value (more-Optional _ _ _ c.loop-i-test.true c.index-parts-i.is _ w.in-Optional.is))
        ∙ c.loop-i.invariant.moves)
  ];
  pieces = elim c.match-parts-i.branch [
    | in-Text+in_ok-push-in-Text w ↦
        rw w.instructions-is (pieces-pushed _ _ _ w.in_ok-push-in-Text.ensures.items c.loop-i.invariant.pieces
        (text-piece c.args.parts.now c.loop-i.i _ c.loop-i-test.true c.index-parts-i.is _ w.in-Text.is c.requires w.as_str.ensures.value))
    | in-Var+in_ok-push-in-Var w ↦
        rw w.instructions-is (pieces-pushed _ _ _ w.in_ok-push-in-Var.ensures.items c.loop-i.invariant.pieces
        w.has_empty_word_alone.ensures)
    | in-Optional+in_ok-inner-in-Optional+in_ok-push-in-Optional+in_ok-append-in-Optional w ↦
        rw w.instructions-is (pieces-appended _ _ _ w.in_ok-append-in-Optional.ensures.items
        (pieces-pushed _ _ _ w.in_ok-push-in-Optional.ensures.items c.loop-i.invariant.pieces tt) w.in_ok-inner-in-Optional.ensures.pieces)
  ];
}

pub instructions_of-requires : goal.instructions_of-requires
instructions_of-requires t c =
    (search (rules, the_lemmas), rw c.deref.ensures.value (body-texts c.args.parts.now c.loop-i.i _ c.loop-i-test.true c.index-parts-i.is _ c.in-Optional.is c.requires))
