use Rattle.std.proofs.Common.{rules, ◌≡◌, ◌∙◌, arith}
use Rattle.std.proofs.lemmas.Grind.{common_steps}
use Rattle.std.proofs.lemmas.Bool.Decides.{nat_tests}
use Rattle.lic_engine.proofs.OuterLemmas.{begins_outer, whole_outer}
use Rattle.lic_engine.proofs.outer.report_outer.Goals as goal

pub returns-in_err-put_valued-clause-part : goal.returns-in_err-put_valued-clause-part
returns-in_err-put_valued-clause-part g c =
    let here : c.as_slice.result.now ≡ c.in_ok-triples.triples.items = search rules in
    begins_outer c.args.name.now c.args.set.now c.args.text.now.source c.args.text.now.tokens c.as_slice.result.now _ _ _
    (λ others matches. here ∙ c.in_ok-triples.ensures.only others matches) c.in_err-put_valued.ensures.part

pub returns-clause-written : goal.returns-clause-written
returns-clause-written g c =
    let here : c.as_slice.result.now ≡ c.in_ok-triples.triples.items = search rules in
    let all = c.in_ok-triples.ensures.all in
    whole_outer c.args.name.now c.args.set.now c.args.text.now.source c.args.text.now.tokens c.as_slice.result.now _ _ _
    (all.0, all.1, here ∙ all.2) c.in_ok-put_valued.ensures.written (first_of (search rules, grind (arith, nat_tests, common_steps)))
