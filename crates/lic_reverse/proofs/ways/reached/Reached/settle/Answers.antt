use Rattle.std.proofs.Common.{◌≡◌, ◌++◌, ap₂, sym, subst, ◌∙◌}
use Rattle.lic_view.specs.PlaceSets.{ArePlaced}
use Rattle.lic_reverse.specs.Reached.{reached_of}
use Rattle.lic_reverse.specs.Tidily.{Taken, spans_of}
use Rattle.lic_reverse.proofs.EreLemmas.{tidy-copied}
use Rattle.lic_reverse.proofs.TidyBack.{IsEmptyWord}
use Rattle.lic_reverse.proofs.ways.reached.Reached.settle.Goals as goal
use Rattle.lic_reverse.proofs.ways.reached.Reached.settle.Goals.{In_ok-append}

-- what is settled is all that was reached
joined : (c : In_ok-append) (s : Taken) → spans_of c.append.new.self s ≡ reached_of c.args.self.now s
joined c s = c.in_ok-append.ensures s ∙ ap₂ (λ x y. x ++ y) (c.in_ok-all.ensures s) (c.in_ok-copy.ensures s)

pub kept-requires : goal.kept-requires
kept-requires c = λ s. subst (λ x. ArePlaced c.args.view.now x) (sym (joined c s)) (c.requires s)

pub returns-clause-settled : goal.returns-clause-settled
returns-clause-settled c =
    tidy-copied c.args.keep c.args.view.now IsEmptyWord (reached_of c.args.self.now) (spans_of c.append.new.self) (spans_of c.in_ok-kept.kept)
    (λ s. c.in_ok-append.ensures s ∙ ap₂ (λ x y. x ++ y) (c.in_ok-all.ensures s) (c.in_ok-copy.ensures s))
    c.in_ok-kept.ensures
