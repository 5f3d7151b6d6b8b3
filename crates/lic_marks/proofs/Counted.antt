-- Copies of a core in a row, and up to that many of them.
use Rattle.std.proofs.Common.{◌≡◌, ℕ, zero, suc, ◌+◌, ◌-◌, ◌*◌, ◌≤◌, ◌<◌, Bool, true, false, ◌==◌, ◌||◌, ne_eqb, refl, sym, ap, ◌∙◌, arith}
use Rattle.std.proofs.Math.Nat.{suc-mul, zero-mul}
use Rattle.lic_marks.specs.Cores.{Core, empty, cat, alt, copies, up_to}
use Rattle.lic_marks.specs.Marks.{is_nullable}
use Rattle.lic_marks.specs.Rows.{weight}
use Rattle.lic_marks.specs.Nodes.{times_over}
use Rattle.lic_marks.specs.declared.node.Times.TheVariants.{Bounded, Unbounded}
use Rattle.lic_marks.proofs.Cuts.{and_left, and_right, and_both}

both_ways : (x y : Bool) → (x ≡ true → y ≡ true) → (y ≡ true → x ≡ true) → x ≡ y
both_ways true y to from = sym (to refl)
both_ways false true to from = from refl
both_ways false false to from = refl

module _ (a : Core) where
  pub weight-copies : (n : ℕ) → weight (copies n a) ≡ n * weight a
  weight-copies zero = sym (zero-mul (weight a))
  weight-copies (suc n) = omega (arith, weight-copies n, suc-mul n (weight a))

  -- the position after that many copies
  pub position_past : (n at w : ℕ) → w ≡ weight a → at + n * w ≡ at + weight (copies n a)
  position_past n at w e = ap (λ k. at + n * k) e ∙ ap (λ k. at + k) (sym (weight-copies n))

  pub weight-up_to : (n : ℕ) → weight (up_to n a) ≡ n * weight a
  weight-up_to zero = sym (zero-mul (weight a))
  weight-up_to (suc n) = omega (arith, weight-up_to n, suc-mul n (weight a))

  pub weight-same : (n : ℕ) → weight (copies n a) ≡ weight (up_to n a)
  weight-same n = omega (arith, weight-copies n, weight-up_to n)

  pub weight-bounded : (needed more : ℕ) → weight (times_over (Bounded needed more) a) ≡ needed * weight a + more * weight a
  weight-bounded needed more = omega (arith, weight-copies needed, weight-up_to more)

  pub weight-unbounded : (before : ℕ) → weight (times_over (Unbounded before) a) ≡ before * weight a + 1 * weight a
  weight-unbounded before = omega (arith, weight-copies before)

  -- the first of the copies that are left after `i` of them
  module _ (n i : ℕ) (some : i < n) where
    next : n - i ≡ suc (n - (i + 1))
    next = omega arith

    pub copies_more : copies (n - i) a ≡ cat a (copies (n - (i + 1)) a)
    copies_more = ap (λ k. copies k a) next

    pub up_to_more : up_to (n - i) a ≡ alt empty (cat a (up_to (n - (i + 1)) a))
    up_to_more = ap (λ k. up_to k a) next

  module _ (n i : ℕ) (all : n ≤ i) where
    none : n - i ≡ 0
    none = omega arith

    pub copies_done : copies (n - i) a ≡ empty
    copies_done = ap (λ k. copies k a) none

    pub up_to_done : up_to (n - i) a ≡ empty
    up_to_done = ap (λ k. up_to k a) none

  nullable-up_to : (n : ℕ) → is_nullable (up_to n a) ≡ true
  nullable-up_to zero = refl
  nullable-up_to (suc n) = refl

  nullable-copies : (n : ℕ) → is_nullable a ≡ true → is_nullable (copies n a) ≡ true
  nullable-copies zero h = refl
  nullable-copies (suc n) h = and_both (is_nullable a) (is_nullable (copies n a)) h (nullable-copies n h)

  some_copies : (n more : ℕ) → is_nullable (times_over (Bounded (suc n) more) a) ≡ is_nullable a
  some_copies n more =
      both_ways (is_nullable (times_over (Bounded (suc n) more) a)) (is_nullable a)
      (λ h. and_left (is_nullable a) (is_nullable (copies n a)) (and_left (is_nullable (copies (suc n) a)) (is_nullable (up_to more a)) h))
      (λ h. and_both (is_nullable (copies (suc n) a)) (is_nullable (up_to more a)) (nullable-copies (suc n) h) (nullable-up_to more))

  pub nullable-bounded : (needed more : ℕ) → ((needed == 0) || is_nullable a) ≡ is_nullable (times_over (Bounded needed more) a)
  nullable-bounded zero more = sym (nullable-up_to more)
  nullable-bounded (suc n) more = ap (λ b. b || is_nullable a) (ne_eqb (suc n) 0 (λ z. cc)) ∙ sym (some_copies n more)

  pub nullable-unbounded : (before : ℕ) → is_nullable (times_over (Unbounded before) a) ≡ is_nullable a
  nullable-unbounded before =
      both_ways (is_nullable (times_over (Unbounded before) a)) (is_nullable a)
      (λ h. and_right (is_nullable (copies before a)) (is_nullable a) h)
      (λ h. and_both (is_nullable (copies before a)) (is_nullable a) (nullable-copies before h) h)
