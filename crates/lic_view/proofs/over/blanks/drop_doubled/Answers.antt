-- The last span stays, since it is no single place.
use Rattle.std.proofs.Common.{◌≡◌, ◌-◌, Some, Contains, length, rules}
use Rattle.std.specs.List.{slice_get}
use Rattle.std.proofs.lemmas.Option.{get_or_from_slice_get, slice_get_within}
use Rattle.lic_spans.specs.declared.span.SpanKind.TheVariants.{Blanks}
use Rattle.lic_view.specs.Doubled.{IsWithin}
use Rattle.lic_view.proofs.DoubledLemmas.{as-many, retained-all, retained-among}
use Rattle.lic_view.proofs.over.blanks.drop_doubled.Goals as goal

pub returns : goal.returns
returns c =
    let tokens = c.args.view.now in
    let spans = c.args.spans.now.items in
    let some = c.retain.new.self.items in
    let last = c.in-Some.last in
    let end = length spans - 1 in
    let kind : last.kind ≡ Blanks = search rules in
    let is : slice_get spans end ≡ Some last = search rules in
    let there : Contains spans last = (end, slice_get_within spans end last is, get_or_from_slice_get spans end last last is) in
    as-many tokens last spans some kind there
    (retained-among _ (IsWithin tokens last) _ (λ s b f' k. (λ e. search rules, search rules)) spans some c.retain.ensures.filtered)
    (retained-all _ (IsWithin tokens last) _ (λ s b f' k. (λ e. search rules, search rules)) spans some c.retain.ensures.filtered)
