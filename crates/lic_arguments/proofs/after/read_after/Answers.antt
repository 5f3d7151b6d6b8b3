use Rattle.std.proofs.Common.{List, ℕ, Some, None, sym, subst}
use Rattle.lic_arguments.specs.After.{IsNumber}
use Rattle.lic_arguments.proofs.Triples.{at_first_colon, at_second_colon, if_none}
use Rattle.lic_arguments.proofs.after.read_after.Goals as goal

pub returns-in_err-first-clause-none : goal.returns-in_err-first-clause-none
returns-in_err-first-clause-none c = if_none _ c.args.text.now (λ after is.
    at_first_colon c.args.text.now after None is c.in_err-first.ensures.cases)

pub returns-in_err-last-clause-none : goal.returns-in_err-last-clause-none
returns-in_err-last-clause-none c = if_none _ c.args.text.now (λ after is.
    let first = at_first_colon c.args.text.now after (Some (c.in_ok-first.first, c.in_ok-first.rest)) is c.in_ok-first.ensures.cases in
    at_second_colon c.args.text.now c.in_ok-first.rest.now after None is first.1 c.in_err-last.ensures.cases)

pub returns-in_err-read_number-clause-none : goal.returns-in_err-read_number-clause-none
returns-in_err-read_number-clause-none c = if_none _ c.args.text.now (λ after is.
    let first = at_first_colon c.args.text.now after (Some (c.in_ok-first.first, c.in_ok-first.rest)) is c.in_ok-first.ensures.cases in
    c.in_err-read_number.ensures.none after.first (subst (λ (t : List ℕ). IsNumber t after.first) (sym first.0) is.is_first))

pub returns-in_err-read_number-2-clause-none : goal.returns-in_err-read_number-2-clause-none
returns-in_err-read_number-2-clause-none c = if_none _ c.args.text.now (λ after is.
    let first = at_first_colon c.args.text.now after (Some (c.in_ok-first.first, c.in_ok-first.rest)) is c.in_ok-first.ensures.cases in
    let last = at_second_colon c.args.text.now c.in_ok-first.rest.now after (Some (c.in_ok-last.last, c.in_ok-last.id)) is first.1 c.in_ok-last.ensures.cases in
    c.in_err-read_number-2.ensures.none after.last (subst (λ (t : List ℕ). IsNumber t after.last) (sym last.0) is.is_last))
