-- Bundles that are sorted by their first triples.
use Rattle.std.proofs.Common.{◌≡◌, true, false, List, get_or, arith}
use Rattle.std.specs.Cmp.{IsTotalOrder}
use Rattle.std.specs.List.{AllPairs}
use Rattle.std.specs.List.Sorted.{IsSortedBy}
use Rattle.std.specs.Ordering.{nat_cmp, is_lt, ordering_then}
use Rattle.std.specs.declared.cmp.Ordering.{Ordering}
use Rattle.std.proofs.lemmas.Bool.{both_ways}
use Rattle.std.proofs.lemmas.Bool.Decides.{nat_tests}
use Rattle.std.proofs.lemmas.Cmp.{nat_cmp_total, on_total, then_total}
use Rattle.std.proofs.lemmas.List.Sorted.{sorted_far, ranks_by}
use Rattle.lic_set.specs.Matches.{Precedes}
use Rattle.lic_set.specs.declared.triple.Triple.{Triple}
use Rattle.lic_bundles.specs.declared.bundle.Bundle.{Bundle}
use Rattle.lic_bundles.specs.Bundles.{first_of}
use Rattle.lic_bundles.specs.Merging.{IsNoLater}

-- by first token, then by last token, then by template
abbrev pub by_triple : Triple → Triple → Ordering
by_triple s t = ordering_then (nat_cmp s.first t.first) (ordering_then (nat_cmp s.last t.last) (nat_cmp s.template t.template))

by_triple-total : IsTotalOrder by_triple
by_triple-total = then_total (on_total (λ s. s.first) nat_cmp_total) (then_total (on_total (λ s. s.last) nat_cmp_total) (on_total (λ s. s.template) nat_cmp_total))

is_lt-by_triple : (s t : Triple) → Precedes s t → is_lt (by_triple s t) ≡ true
is_lt-by_triple s t h = grind (arith, nat_tests, h)

pub IsNoLater-sorted : (bs : List Bundle) → IsSortedBy (λ b c. is_lt (by_triple (first_of b) (first_of c))) bs → AllPairs IsNoLater bs
IsNoLater-sorted bs sorted = λ i j d before low earlier.
    let fails : is_lt (by_triple (first_of (get_or bs j d)) (first_of (get_or bs i d))) ≡ false =
    sorted_far (λ b c. is_lt (by_triple (first_of b) (first_of c))) (ranks_by by_triple-total first_of) bs sorted i j d (omega arith) low in
    both_ways _ fails (is_lt-by_triple (first_of (get_or bs j d)) (first_of (get_or bs i d)) earlier)
