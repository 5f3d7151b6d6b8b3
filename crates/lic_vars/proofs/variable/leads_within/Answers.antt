-- Whether a word leads to a number up to a bound.
use Rattle.std.proofs.Common.{◌≡◌, vec_len, sym, ◌∙◌, arith}
use Rattle.std.proofs.lemmas.Bool.{eqb-true, false≢true}
use Rattle.std.proofs.lemmas.List.{nil_from_length}
use Rattle.lic_ere.specs.Trees.{tree_of}
use Rattle.lic_ere.specs.Meaning.{tree_words}
use Rattle.lic_vars.proofs.WithinLemmas.{leads-back, leads-none, within-placed}
use Rattle.lic_vars.proofs.variable.leads_within.Goals as goal

pub over_pattern-requires-clause-placed : goal.over_pattern-requires-clause-placed
over_pattern-requires-clause-placed c =
    within-placed c.args.view.now c.args.spans.now c.in_ok-ends.ends.items c.args.cut.place c.args.high c.requires.placed c.in_ok-ends.ensures

pub returns : goal.returns
returns c =
    let both = leads-back c.args.view.now c.tokens_have_texts.ensures (tree_words (tree_of c.args.ere.now)) c.args.spans.now c.args.cut c.args.high
    c.in_ok-ends.ends.items c.in_ok-begins.begins.items c.in_ok-ends.ensures c.in_ok-begins.ensures in
    let have = rw c.deref.ensures.value at c.have_cut.ensures in
    (λ is. both.0 (have.0 is), λ leads. have.1 (both.1 leads))

pub returns-then-is_empty : goal.returns-then-is_empty
returns-then-is_empty c =
    let ends = c.in_ok-ends.ends in
    let long = ends.ok.0 in
    let none : vec_len ends ≡ 0 = eqb-true (vec_len ends) 0 (sym c.is_empty.ensures ∙ c.if-is_empty.true) in (
      λ e. absurd (false≢true e),
      λ leads. absurd (leads-none c.args.view.now c.tokens_have_texts.ensures (tree_words (tree_of c.args.ere.now)) c.args.spans.now c.args.cut c.args.high
          ends.items c.in_ok-ends.ensures (nil_from_length ends.items (omega arith)) leads),
    )
