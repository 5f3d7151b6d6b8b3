-- Where places rise, those before the first one that is not less are less.
use Rattle.std.proofs.Common.{◌≡◌, ℕ, ◌<◌, ◌≤◌, List, true, false, get_or, length, arith, rules}
use Rattle.std.specs.Prelude.{nat_lt}
use Rattle.std.specs.List.Sorted.{IsPartitionPoint, IsStrictlyIncreasing}
use Rattle.std.proofs.lemmas.List.{get_or_default}
use Rattle.std.proofs.lemmas.Bool.Decides.{nat_tests}
use Rattle.std.proofs.lemmas.List.Sorted.{IsPartitionPoint-from_clause, IsPartitionedBy-ltb}
use Rattle.lic_literals.proofs.Rising.{le_later}
use Rattle.lic_view.proofs.sets.wide.first_from.Goals as goal

less : (x y : ℕ) → nat_lt x y ≡ true → x < y
less x y is = grind (arith, nat_tests)

not_less : (x y : ℕ) → nat_lt x y ≡ false → y ≤ x
not_less x y is = grind (arith, nat_tests)

rises : (places : List ℕ) → IsStrictlyIncreasing places → (i j d : ℕ) → i ≤ j → j < length places → get_or places i d ≤ get_or places j d
rises places rising i j d order low =
    let one : get_or places i d ≡ get_or places i 0 = get_or_default places i d 0 (omega arith) in
    let other : get_or places j d ≡ get_or places j 0 = get_or_default places j d 0 low in
    omega (arith, le_later places rising i j order low)

pub returns : goal.returns
returns c =
    let places = c.args.places.now in
    let place = c.args.place in
    let split : IsPartitionPoint (λ y. nat_lt y place ≡ true) (λ y. nat_lt y place ≡ false) places c.partition_point.result =
    IsPartitionPoint-from_clause (λ y. nat_lt y place) places c.partition_point.result c.partition_point.ensures.partitioned
    (IsPartitionedBy-ltb (λ y. y) places place (λ i j d order low. rises c.args.places.now c.requires i j d order low))
    (λ a r f' k. search rules) in
    record {
      within = c.partition_point.ensures.bound;
      before = λ i low. less (get_or places i 0) place (split.0 i 0 (omega arith) low);
      reached = λ i from low. not_less (get_or places i 0) place (split.1 i 0 from low);
    }
