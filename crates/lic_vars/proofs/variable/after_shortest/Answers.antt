-- The shortest word of a variable.
use Rattle.std.proofs.Common.{◌≡◌, false, sym, subst, arith}
use Rattle.lic_ere.specs.Trees.{tree_of}
use Rattle.lic_ere.specs.Meaning.{tree_words}
use Rattle.lic_vars.specs.Shortest.{IsShortest}
use Rattle.lic_vars.proofs.StepOverLemmas.{cut_at}
use Rattle.lic_vars.proofs.ShortestLemmas.{end_of, shortest-empty, shortest-letters}
use Rattle.lic_vars.proofs.variable.after_shortest.Goals as goal

pub returns-then-end-begin : goal.returns-then-end-begin
returns-then-end-begin c =
    let tokens = c.args.view.now in
    let are = c.tokens_have_texts.ensures in
    let end : c.end_of-end.result ≡ end_of tokens are c.args.cut c.in_ok-number.number = rw c.letter_place-begin.ensures at c.end_of-end.ensures in
    shortest-empty tokens are c.args.cut (tree_words (tree_of c.args.ere.now)) c.args.spans.now c.in_ok-number.number c.in_ok-number.ensures
    (omega (arith, end, c.letter_place-begin.ensures, c.if-end-begin.true))

pub returns : goal.returns
returns c =
    let tokens = c.args.view.now in
    let are = c.tokens_have_texts.ensures in
    let words = tree_words (tree_of c.args.ere.now) in
    let end : c.end_of-end.result ≡ end_of tokens are c.args.cut c.in_ok-number.number = rw c.letter_place-begin.ensures at c.end_of-end.ensures in
    subst (λ p. IsShortest tokens words c.args.spans.now c.args.cut (cut_at p false)) (sym end)
    (shortest-letters tokens are c.args.cut words c.args.spans.now c.in_ok-number.number c.in_ok-number.ensures
    (omega (arith, end, c.letter_place-begin.ensures, c.if-end-begin.false)))
