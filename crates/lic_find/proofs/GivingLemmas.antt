-- What a call for the next match gives.
use Rattle.std.proofs.Common.{◌≡◌, ℕ, ◌+◌, ◌-◌, ◌^◌, ◌<◌, ◌≤◌, List, ◌∷◌, Option, Some, None, IfSome, IfNone, IfOk, Result, Ok, Err, min, refl, sym, ◌∙◌, arith}
use Rattle.std.specs.Iterator.{YieldsFirst}
use Rattle.lic_find.specs.Remaining.{remaining_matches}
use Rattle.lic_set.specs.declared.triple.Triple.{Triple}
use Rattle.lic_find.specs.declared.finder.Finder.{Finder}

-- where something is given, it is the first of what was left
pub YieldsFirst-given : (old new : Finder) (left : List Triple) (r : Option Triple) → left ≡ remaining_matches old
    → IfSome r (λ triple. left ≡ triple ∷ remaining_matches new) → (r ≡ None → ⊥) →
    YieldsFirst remaining_matches old r new
YieldsFirst-given old new left None same some never = absurd (never refl)
YieldsFirst-given old new left (Some triple) same some never = sym same ∙ some

pub IfNone-never : {A : Type 0} {P : Type 0} → (r : Option A) → (r ≡ None → P → ⊥) → IfNone r P → r ≡ None → ⊥
IfNone-never None f p is = f is p
IfNone-never (Some x) f p is = let never : Some x ≡ None = is in cc

-- what follows from two facts of an answer
pub IfOk-both : {X E : Type 0} → (r : Result X E) (P Q R : X → Type 0) → ((x : X) → P x → Q x → R x) → IfOk r P → IfOk r Q → IfOk r R
IfOk-both (Ok x) P Q R f p q = f x p q
IfOk-both (Err e) P Q R f p q = tt

-- counts that stay at the greatest number
pub capped-le : (a b : ℕ) → a ≤ b → min a (2 ^ 64 - 1) ≤ min b (2 ^ 64 - 1)
capped-le a b h = omega arith

pub capped-most : (a b more : ℕ) → b ≤ a + more → min b (2 ^ 64 - 1) ≤ min a (2 ^ 64 - 1) + more
capped-most a b more h = omega arith

pub capped-below : (a : ℕ) → min a (2 ^ 64 - 1) < 2 ^ 64 - 1 → (a < 2 ^ 64 - 1) × (min a (2 ^ 64 - 1) ≡ a)
capped-below a h = (omega arith, omega arith)
