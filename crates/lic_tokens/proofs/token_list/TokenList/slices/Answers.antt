use Rattle.std.proofs.Common.{length, refl, ap, subst, arith}
use Rattle.lic_tokens.specs.Entries.{IsKept}
use Rattle.lic_tokens.proofs.EntryLemmas.{kept_near}
use Rattle.lic_tokens.proofs.token_list.TokenList.slices.Goals as goal

pub returns-in_err-ends-clause-near : goal.returns-in_err-ends-clause-near
returns-in_err-ends-clause-near c = λ small _.
    let spelling = c.self.inside.spelling.items in
    let entries = c.self.inside.entries in
    let kept = subst (IsKept spelling entries) c.self.view_is c.self.invariant.0 in
    c.in_err-ends.ensures.all (kept_near spelling entries c.args.self.now kept (omega (arith, small, ap length kept.spells))) refl
