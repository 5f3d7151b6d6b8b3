use Rattle.std.proofs.Common.{sym, ◌∙◌, ap, eqb, vec_len}
use Rattle.lic_ere.specs.Brackets.{closes}
use Rattle.lic_ere.specs.Views.{left}
use Rattle.lic_ere.proofs.FaultLemmas.{Gives-err}
use Rattle.lic_ere.proofs.BracketLemmas.{one_more, closed, failed, ended}
use Rattle.lic_ere.proofs.lexeme.brackets.members.Goals as goal

pub returns-then-closes : goal.returns-then-closes
returns-then-closes c =
    closed c.args.offset (vec_len c.loop-first.members) _ c.in-Some.first _ _ _
    (sym (c.closes.ensures ∙ ap (λ b. closes b c.in-Some.first.1) c.is_empty.ensures)
    ∙ c.if-closes.true) c.in-Some.ensures.some c.loop-first.invariant

pub returns-in_err-member : goal.returns-in_err-member
returns-in_err-member c =
    Gives-err _ _ _ _ _ c.from_residual.ensures.1
    (λ e is. failed c.args.offset (vec_len c.loop-first.members) _ c.in-Some.first _ _ e _
    (sym (c.closes.ensures ∙ ap (λ b. closes b c.in-Some.first.1) c.is_empty.ensures)
    ∙ c.if-closes.false) c.in-Some.ensures.some c.loop-first.invariant is)
    c.in_err-member.ensures

pub loop-first-preserved : goal.loop-first-preserved
loop-first-preserved c =
    one_more c.args.offset (vec_len c.loop-first.members) _ _ _ c.in-Some.first _ _ _ _ _ c.in_ok-push.ensures.items c.in_ok-push.ensures.len (sym (c.closes.ensures ∙ ap (λ b. closes b c.in-Some.first.1) c.is_empty.ensures) ∙ c.if-closes.false) c.in-Some.ensures.some c.in_ok-member.ensures c.loop-first.invariant

pub returns : goal.returns
returns c = ended c.args.offset (eqb (vec_len c.loop-first.members) 0) c.loop-first.members.items
    (left c.loop-first.rest) _ c.in_default.ensures.none c.loop-first.invariant
