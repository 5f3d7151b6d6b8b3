use Rattle.std.proofs.Common.{drop, reverse, sym, ap, ◌∙◌, arith}
use Rattle.lic_find.specs.Starts.{starts_in, noted_in}
use Rattle.lic_find.proofs.StartLemmas.{noted_in-none, noted_in-removed}
use Rattle.lic_find.proofs.starts.Starts.remove_least.Goals as goal

pub returns-in-Some : goal.returns-in-Some
unfolding starts_in
returns-in-Some c =
    ap (λ l. noted_in (reverse c.pop.new.self.items) l) c.truncate.ensures.items
    ∙ noted_in-removed c.args.self.now.entries.items c.args.self.now.numbers.items c.pop.new.self.items c.len.result c.in-Some.entry c.in-Some.ensures.items
    (c.len.ensures ∙ c.args.self.now.numbers.ok.0)

pub returns-in_default : goal.returns-in_default
unfolding starts_in
returns-in_default c =
    let both = c.in_default.ensures.cases in
    noted_in-none c.pop.new.self.items c.args.self.now.numbers.items (omega (arith, c.pop.new.self.ok))
    ∙ sym (ap (drop 1) (noted_in-none c.args.self.now.entries.items c.args.self.now.numbers.items (omega (arith, c.args.self.now.entries.ok))))
