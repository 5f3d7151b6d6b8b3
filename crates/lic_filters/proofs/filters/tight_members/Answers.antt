use Rattle.std.proofs.Common.{◌≡◌, List, rules, subst, sym}
use Rattle.std.proofs.lemmas.Fn.{dedup_same, always_returns_same}
use Rattle.std.specs.List.{dedup}
use Rattle.std.specs.List.Sorted.{IsPermutation, IsSortedBy}
use Rattle.std.specs.Ordering.{is_lt}
use Rattle.lic_set.specs.declared.triple.Triple.{Triple}
use Rattle.lic_filters.specs.Filters.{SameMembers, tight_of}
use Rattle.lic_filters.proofs.Orders.{by_template}
use Rattle.lic_filters.proofs.TightLemmas.{is_over, tight_of-swept}
use Rattle.lic_filters.proofs.filters.tight_members.Goals as goal

pub returns : goal.returns
returns c =
    let sorted : List Triple = c.sort_unstable_by_key.new.self.items in
    let order : IsSortedBy (λ x y. is_lt (by_template x y)) sorted =
    c.sort_unstable_by_key.ensures.sorted (λ t. (t.template, record { 0 = t.first }, t.last)) (always_returns_same _ _ _ (λ a r f' k. search rules)) in
    let kept : c.dedup_by.new.self.items ≡ dedup is_over sorted = dedup_same _ is_over _ (λ x y b f' x' y' k. search rules) _ _ c.dedup_by.ensures.filtered in
    let moved : IsPermutation c.args.triples.now sorted =
    subst (λ list. IsPermutation list sorted) c.in_ok-members.ensures.items c.sort_unstable_by_key.ensures.permutation in
    subst (λ members. SameMembers members (tight_of c.args.triples.now)) (sym kept) (tight_of-swept c.args.triples.now sorted moved order)
