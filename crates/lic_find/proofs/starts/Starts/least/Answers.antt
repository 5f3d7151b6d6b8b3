use Rattle.std.proofs.Common.{◌≡◌, ◌-◌, [], IfNone, Some, length, sym, ap, ◌∙◌, subst}
use Rattle.std.specs.List.{slice_get}
use Rattle.lic_find.specs.Starts.{starts_in}
use Rattle.lic_find.proofs.StartLemmas.{noted_in-none, noted_in-read, none_of}
use Rattle.lic_find.proofs.starts.Starts.least.Goals as goal

pub returns-in_err-entry-clause-none : goal.returns-in_err-entry-clause-none
unfolding starts_in
returns-in_err-entry-clause-none c =
    let entries = c.args.self.now.entries.items in
    let empty : length entries ≡ 0 = sym (ap length c.deref.ensures.value) ∙ none_of c.deref.result.now c.in_err-entry.ensures.value in
    subst (λ r. IfNone r (starts_in c.args.self.now ≡ [])) (sym c.from_residual.ensures) (noted_in-none entries c.args.self.now.numbers.items empty)

pub returns-clause-some : goal.returns-clause-some
unfolding starts_in
returns-clause-some c =
    let entries = c.args.self.now.entries.items in
    let last : slice_get entries (length entries - 1) ≡ Some c.in_ok-entry.entry.now =
    subst (λ l. slice_get l (length l - 1) ≡ Some c.in_ok-entry.entry.now) c.deref.ensures.value (sym c.in_ok-entry.ensures.value) in
    noted_in-read entries c.args.self.now.numbers.items c.deref-2.result.now c.len.result c.in_ok-entry.entry.now last c.deref-2.ensures.value
    (c.len.ensures ∙ sym c.deref-2.ensures.len ∙ ap length c.deref-2.ensures.value)
