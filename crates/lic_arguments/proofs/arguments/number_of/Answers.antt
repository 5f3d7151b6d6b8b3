use Rattle.std.proofs.Common.{◌≡◌, ◌∙◌, [], sym, ap, ⊎_elim, arith}
use Rattle.std.specs.Prelude.{slice_index_or}
use Rattle.std.proofs.lemmas.Bool.{cases_lt, false≢true}
use Rattle.std.proofs.lemmas.Slice.Eq.{bytes_eq-Decides}
use Rattle.lic_set.specs.Sets.{Known}
use Rattle.lic_arguments.proofs.arguments.number_of.Goals as goal

pub loop-k-preserved : goal.loop-k-preserved
loop-k-preserved c = λ j lt named. ⊎_elim
    (λ before. c.loop-k.invariant j before named)
    (λ here.
    let same : j ≡ c.loop-k.k = omega arith in
    let none : Known = record { id = c.args.id.now; template = record { parts = []; weight = 0; original = [] } } in
    let is : c.id.result.now ≡ c.args.id.now = c.id.ensures none ∙ sym (ap (λ k. (slice_index_or c.args.set.now k none).id) same) ∙ named.1 none in
    false≢true (c.if-eq.ensures ∙ (bytes_eq-Decides _ _).1 is))
    (cases_lt j c.loop-k.k)

pub returns-clause-none : goal.returns-clause-none
returns-clause-none c = λ k named. c.loop-k.invariant k (omega (arith, named.0)) named
