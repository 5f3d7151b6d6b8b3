-- The literals that are kept are the candidates.
use Rattle.std.proofs.Common.{◌≡◌, ◌<◌, [], arith, length, get_or, sym, ap, subst}
use Rattle.std.specs.Prelude.{IfOk}
use Rattle.std.proofs.lemmas.List.Elements.{All-weaker}
use Rattle.std.proofs.lemmas.Option.{slice_get-get_or}
use Rattle.std.proofs.lemmas.Result.{IfOk-weaker}
use Rattle.lic_literals.specs.Ends.{EndsAt}
use Rattle.lic_keys.proofs.CandidateLemmas.{AreKept, IfOk-four, each-candidate, ending-found}
use Rattle.lic_keys.proofs.keys.Keys.candidates.Goals as goal

are-kept : (c : goal.After-kept) → IfOk c.kept.result (λ kept. AreKept c.args.self.now c.args.bytes.now kept.items)
are-kept c =
    let keys = c.args.self.now in
    let texts : length c.self.inside.texts.items ≡ length keys.texts = ap (λ v. length v.texts) c.self.view_is in
    let letters : c.self.inside.literals ≡ keys.letters = ap (λ v. v.letters) c.self.view_is in
    let count : length c.self.inside.literals ≡ length c.self.inside.texts.items = c.self.invariant.count in
    IfOk-four c.kept.result _ _ _ _ _
    (λ kept rising below complete rise. record {
      rising = rising;
      below =
          All-weaker (λ k. k.number < length c.self.inside.literals) (λ k. k.number < length keys.texts) (λ k h. omega arith) kept.items below;
      complete = λ number e less ends.
          complete number e (get_or c.self.inside.literals number [])
          (slice_get-get_or c.self.inside.literals number [] (omega arith))
          (subst (λ ls. EndsAt c.args.bytes.now (get_or ls number []) e) (sym letters) ends);
      ends_rise = rise;
    })
    c.kept.ensures.numbers c.kept.ensures.below c.kept.ensures.complete c.kept.ensures.rising

pub returns-clause-rising : goal.returns-clause-rising
returns-clause-rising c = c.kept.ensures.numbers

pub returns-clause-others : goal.returns-clause-others
returns-clause-others c =
    IfOk-weaker c.kept.result _ _ (λ kept are. ending-found c.args.self.now c.args.bytes.now kept.items are) (are-kept c)

pub returns-clause-each : goal.returns-clause-each
returns-clause-each c =
    IfOk-weaker c.kept.result _ _ (λ kept are. each-candidate c.args.self.now c.args.bytes.now kept.items are) (are-kept c)
