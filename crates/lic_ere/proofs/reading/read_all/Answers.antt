use Rattle.std.proofs.Common.{sym, ◌∙◌}
use Rattle.lic_ere.specs.Trees.{tree_of}
use Rattle.lic_ere.specs.Views.{left, state_of}
use Rattle.lic_ere.proofs.FaultLemmas.{Gives-err, Gives-same}
use Rattle.lic_ere.proofs.ReadingLemmas.{read_fails, read_refused, read_taken, read_ends}
use Rattle.lic_ere.proofs.reading.read_all.Goals as goal

pub returns-in_err-lexeme : goal.returns-in_err-lexeme
returns-in_err-lexeme c =
    Gives-err _ _ _ _ _ c.from_residual.ensures.1
    (λ e is. sym c.loop-first.invariant ∙ read_fails (state_of c.loop-first.reader) c.in-Some.first (left c.in-Some.after) _ e c.in-Some.ensures.some is)
    c.in_err-lexeme.ensures

pub returns-in_err-meet : goal.returns-in_err-meet
returns-in_err-meet c =
    Gives-err _ _ _ _ _ c.from_residual-in_err-meet.ensures.1
    (λ e is. read_refused (state_of c.loop-first.reader) c.in-Some.first
    (left c.in-Some.after) _ _ _ e _ c.in-Some.ensures.some c.in_ok-lexeme.ensures c.loop-first.invariant is)
    c.in_err-meet.ensures

pub loop-first-preserved : goal.loop-first-preserved
loop-first-preserved c =
    read_taken (state_of c.loop-first.reader) _ c.in-Some.first
    (left c.in-Some.after) _ _ _ _ c.in-Some.ensures.some c.in_ok-lexeme.ensures c.loop-first.invariant c.in_ok-meet.ensures

pub returns : goal.returns
returns c = Gives-same tree_of c.finish.result _ _
    (sym (read_ends (state_of c.loop-first.reader) (left c.loop-first.rest) c.in_default.ensures.none)
    ∙ c.loop-first.invariant) c.finish.ensures
