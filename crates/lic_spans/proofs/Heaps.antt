-- What is read of the first of a heap, and what stays once it is taken out.
use Rattle.std.proofs.Common.{◌≡◌, ◌↔◌, ℕ, ◌<◌, List, ◌∷◌, length, get_or, Option, Some, None, refl, sym, ◌∙◌, subst, arith}
use Rattle.std.proofs.lemmas.Bool.{false≢true}
use Rattle.std.proofs.lemmas.List.{get_or_default}
use Rattle.std.specs.BinaryHeap.{IsHeap, IsUpperBound}
use Rattle.std.specs.List.{Contains}
use Rattle.std.specs.List.Sorted.{IsPermutation}
use Rattle.std.specs.Option.{IfSome, IsSome, option_copied}
use Rattle.std.specs.declared.cmp.Ordering.{Ordering}
use denote.Ref.{Bor}

-- the element is the first of the list, and none is before it in the order
pub record IsFirst {X : Type 0} (R : X → X → Ordering) (x : X) (items : List X) : Type 0 where
  pub some : 0 < length items
  pub first : x ≡ get_or items 0 x
  pub bound : IsUpperBound R x items

module _ {X : Type 0} where
  -- what is so of what a reference points to is so of its copy
  from_copied : (P : X → Type 0) (r : Option (Bor X)) (x : X) → Some x ≡ option_copied r → IfSome r (λ y. P y.now) → P x
  from_copied P None x e h = absurd (cc)
  from_copied P (Some y) x e h = let same : y.now ≡ x = cc in subst P same h

  some_copied : (Q : Type 0) (r : Option (Bor X)) (x : X) → Some x ≡ option_copied r → (IsSome r ↔ Q) → Q
  some_copied Q None x e known = absurd (cc)
  some_copied Q (Some y) x e known = known.0 refl

  -- no copy, no element
  pub none_copied : (Q : Type 0) (r : Option (Bor X)) → None ≡ option_copied r → (IsSome r ↔ Q) → Q → ⊥
  none_copied Q None e known q = false≢true (known.1 q)
  none_copied Q (Some y) e known q = cc

  pub IsFirst-copied : (R : X → X → Ordering) (items : List X) (r : Option (Bor X)) (x : X) (len : ℕ) → len ≡ length items → Some x ≡ option_copied r →
      (IsSome r ↔ (0 < len)) → IfSome r (λ y. y.now ≡ get_or items 0 y.now) → IfSome r (λ y. IsHeap R items → IsUpperBound R y.now items) →
      IsHeap R items → IsFirst R x items
  IsFirst-copied R items r x len long e known first greatest order =
      let some : 0 < len = some_copied (0 < len) r x e known in record {
        some = omega arith;
        first = from_copied (λ y. y ≡ get_or items 0 y) r x e first;
        bound = from_copied (λ y. IsHeap R items → IsUpperBound R y items) r x e greatest order;
      }

  pub IsFirst-among : (R : X → X → Ordering) (items : List X) (x : X) → IsFirst R x items → Contains items x
  IsFirst-among R items x h = (0, h.some, sym h.first)

  -- the first was taken out, and the others stay
  pub taken_out : (R : X → X → Ordering) (r : Option X) (old new : List X) (x : X) (len : ℕ) → len ≡ length old → IsFirst R x old → (IsSome r ↔ (0 < len)) →
      IfSome r (λ y. y ≡ get_or old 0 y) → IfSome r (λ y. IsPermutation old (y ∷ new)) → IsPermutation old (x ∷ new)
  taken_out R None old new x len long h known top moved =
      let some : 0 < length old = h.some in absurd (false≢true (known.1 (omega arith)))
  taken_out R (Some y) old new x len long h known top moved =
      let same : y ≡ x = top ∙ get_or_default old 0 y x h.some ∙ sym h.first in
      subst (λ z. IsPermutation old (z ∷ new)) same moved
