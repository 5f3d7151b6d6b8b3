use Rattle.std.proofs.Common.{◌≡◌, ◌∙◌, ap, subst, sym, List, None}
use Rattle.std.proofs.lemmas.Result.{IfOk-weaker}
use Rattle.lic_set.specs.declared.triple.Triple.{Triple}
use Rattle.lic_filters.specs.Filters.{tight_of, outermost_of}
use Rattle.lic_report.proofs.ValueLemmas.{outer_are_matches}
use Rattle.lic_report.proofs.outer.outer_matches.Goals as goal

pub outermost-requires : goal.outermost-requires
outermost-requires c =
    let (found, all) = c.matches_exist.ensures c.args.set.now c.args.text.now.tokens None in
    subst (λ list. tight_of list ≡ list) (sym (c.in_ok-tight.ensures.tight found all)) (c.tight_ones_are_tight.ensures found)

pub returns-clause-all : goal.returns-clause-all
returns-clause-all c =
    let tight : List Triple = c.in_ok-tight.tight.items in
    let (found, all) = c.matches_exist.ensures c.args.set.now c.args.text.now.tokens None in
    IfOk-weaker c.outermost.result (λ x. x.items ≡ outermost_of tight) _
    (λ x e. (found, all, e ∙ ap outermost_of (c.in_ok-tight.ensures.tight found all))) c.outermost.ensures

pub returns-clause-only : goal.returns-clause-only
returns-clause-only c =
    let tight : List Triple = c.in_ok-tight.tight.items in
    IfOk-weaker c.outermost.result (λ x. x.items ≡ outermost_of tight) _
    (λ x e others all. e ∙ ap outermost_of (c.in_ok-tight.ensures.tight others all)) c.outermost.ensures

pub returns-clause-matches : goal.returns-clause-matches
returns-clause-matches c =
    let tight : List Triple = c.in_ok-tight.tight.items in
    let (found, all) = c.matches_exist.ensures c.args.set.now c.args.text.now.tokens None in
    IfOk-weaker c.outermost.result (λ x. x.items ≡ outermost_of tight) _
    (λ x e. outer_are_matches c.args.set.now c.args.text.now.tokens found x.items c.outer_ones_are_tight.ensures.outer c.outer_ones_are_tight.ensures.tight all
    (e ∙ ap outermost_of (c.in_ok-tight.ensures.tight found all))) c.outermost.ensures
