-- Ranges within others, in numbers.
use Rattle.std.proofs.Common.{◌≡◌, ◌≤◌, false, true, arith}
use Rattle.std.proofs.lemmas.Bool.Decides.{nat_tests}
use Rattle.lic_set.specs.declared.triple.Triple.{Triple}
use Rattle.lic_filters.specs.Filters.{has_range_of, has_template_of, is_strictly_within, is_inside}

-- the range of s lies within that of t, and is another
pub record IsStrictlyWithin (s t : Triple) : Type 0 where
  pub first : t.first ≤ s.first
  pub last : s.last ≤ t.last
  pub another : s.first ≡ t.first → s.last ≡ t.last → ⊥

pub IsStrictlyWithin-test : (s t : Triple) → is_strictly_within s t ≡ true → IsStrictlyWithin s t
IsStrictlyWithin-test s t h = record { first = grind (arith, nat_tests); last = grind (arith, nat_tests); another = λ e f. grind (arith, nat_tests) }

pub test-IsStrictlyWithin : (s t : Triple) → IsStrictlyWithin s t → is_strictly_within s t ≡ true
test-IsStrictlyWithin s t h = grind (arith, nat_tests)

pub has_range_is : (s t : Triple) → has_range_of s t ≡ true → (s.first ≡ t.first) × (s.last ≡ t.last)
has_range_is s t h = (grind (arith, nat_tests), grind (arith, nat_tests))

pub has_another : (s t : Triple) → has_range_of s t ≡ false → s.first ≡ t.first → s.last ≡ t.last → ⊥
has_another s t h e f = grind (arith, nat_tests)

-- s has the template of t, and another range, which lies within that of t
pub record IsInside (s t : Triple) : Type 0 where
  pub template : s.template ≡ t.template
  pub within : IsStrictlyWithin s t

pub IsInside-test : (s t : Triple) → is_inside s t ≡ true → IsInside s t
IsInside-test s t h =
    let both : (s.template ≡ t.template) × (is_strictly_within s t ≡ true) = (grind (arith, nat_tests), grind (arith, nat_tests)) in
    record { template = both.0; within = IsStrictlyWithin-test s t both.1 }

pub test-IsInside : (s t : Triple) → IsInside s t → is_inside s t ≡ true
test-IsInside s t h =
    let within : is_strictly_within s t ≡ true = test-IsStrictlyWithin s t h.within in
    let same : has_template_of s t ≡ true = grind (arith, nat_tests) in
    cc

pub same_triple : (s t : Triple) → s.first ≡ t.first → s.last ≡ t.last → s.template ≡ t.template → s ≡ t
same_triple s t e f g = λ i. record { first = e i; last = f i; template = g i }
