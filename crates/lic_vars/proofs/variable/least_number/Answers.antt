-- The least number, between two bounds.
use Rattle.std.proofs.Common.{◌+◌, length, refl, sym, ap, ◌∙◌, subst, arith}
use Rattle.std.proofs.lemmas.Bool.{true≢false}
use Rattle.lic_ere.specs.Trees.{tree_of}
use Rattle.lic_ere.specs.Meaning.{tree_words}
use Rattle.lic_vars.specs.Shortest.{IsBetween}
use Rattle.lic_vars.proofs.WithinLemmas.{between-all, between-above, between-next, between-one, leads-from}
use Rattle.lic_vars.proofs.variable.least_number.Goals as goal

pub first_number-low-requires : goal.first_number-low-requires
first_number-low-requires c =
    let order = leads-from c.args.view.now c.tokens_have_texts.ensures (tree_words (tree_of c.args.ere.now)) c.args.spans.now c.args.cut _ c.requires.can in
    omega (arith, order, ap length c.bytes-high.ensures)

pub loop-low-init : goal.loop-low-init
loop-low-init c =
    let words = tree_words (tree_of c.args.ere.now) in
    let tokens = c.args.view.now in
    let are = c.tokens_have_texts.ensures in
    let spans = c.args.spans.now in
    between-next tokens are words spans c.args.cut c.args.cut.place _ c.first_number-low.result c.first_number-low.ensures.within
    (subst (λ l. IsBetween tokens words spans c.args.cut c.args.cut.place l) (sym (ap length c.bytes-high.ensures))
    (between-all tokens are words spans c.args.cut c.args.cut.place _ refl c.requires.can)) c.first_number-low.ensures.none

pub loop-low-preserved : goal.loop-low-preserved
loop-low-preserved c =
    let words = tree_words (tree_of c.args.ere.now) in
    let tokens = c.args.view.now in
    let are = c.tokens_have_texts.ensures in
    let spans = c.args.spans.now in
    let middle = c.loop-low.low + c.min.result in
    between-next tokens are words spans c.args.cut (middle + 1) c.loop-low.high c.first_number-low-else-branch.result c.first_number-low-else-branch.ensures.within
    (between-above tokens are words spans c.args.cut c.loop-low.low c.loop-low.high middle (omega (arith, c.min.ensures, c.loop-low-test.true)) c.loop-low.invariant
    (λ leads. true≢false (sym (c.in_ok-leads_within.ensures.1 leads) ∙ c.if-branch.false))) c.first_number-low-else-branch.ensures.none

pub returns : goal.returns
returns c =
    between-one c.args.view.now c.tokens_have_texts.ensures (tree_words (tree_of c.args.ere.now)) c.args.spans.now c.args.cut c.loop-low.low c.loop-low.high
    c.loop-low-test.false c.loop-low.invariant
