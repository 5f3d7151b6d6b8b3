use Rattle.std.proofs.Common.{◌++◌, ap, sym, refl, ◌∙◌, append_assoc}
use Rattle.lic_reverse.specs.Reached.{reached_of}
use Rattle.lic_reverse.specs.Tidily.{spans_of}
use Rattle.lic_reverse.proofs.EreLemmas.{placed-joined}
use Rattle.lic_reverse.proofs.ReachedLemmas.{front-added, front-settled}
use Rattle.lic_reverse.proofs.ways.reached.Reached.add.Goals as goal

pub returns-then-longest : goal.returns-then-longest
returns-then-longest c =
    front-added c.args.keep c.args.view.now (reached_of c.args.self.now) (spans_of c.args.next) _ (spans_of c.in_ok-front.front)
    (λ s. ap (λ x. spans_of c.args.self.now.settled s ++ x) (c.in_ok-append.ensures s)
    ∙ sym (append_assoc (spans_of c.args.self.now.settled s) (spans_of c.args.self.now.recent s) (spans_of c.args.next s)))
    c.in_ok-front.ensures c.requires.reached c.requires.next

pub kept-requires : goal.kept-requires
kept-requires c =
    placed-joined c.args.view.now (spans_of c.settle.new.self.settled) (spans_of c.args.next) (spans_of c.append-2.new.self)
    (λ s. c.in_ok-append-2.ensures s ∙ ap (λ x. x ++ spans_of c.args.next s) (c.in_ok-all.ensures s))
    c.in_ok-settle.ensures.settled.placed c.requires.next

pub returns : goal.returns
returns c =
    front-settled c.args.keep c.args.view.now (reached_of c.args.self.now) (spans_of c.args.next) (spans_of c.settle.new.self.settled) (spans_of c.settle.new.self.recent)
    (spans_of c.append-2.new.self) (spans_of c.in_ok-kept.kept) _ (spans_of c.in_ok-fresh.fresh)
    c.in_ok-settle.ensures.settled
    (λ s. c.in_ok-append-2.ensures s ∙ ap (λ x. x ++ spans_of c.args.next s) (c.in_ok-all.ensures s))
    c.requires.next c.in_ok-kept.ensures c.in_ok-fresh.ensures c.in_ok-settle.ensures.recent (λ s. refl)
