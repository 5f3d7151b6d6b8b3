-- Laws of going back over the words of a pattern: words one after another, one set of words or another, one way or another.
use Rattle.std.proofs.Common.{◌≡◌, ◌⊎◌, ℕ, List, [], ◌++◌, inl, inr, refl, sym, subst}
use Rattle.lic_words.specs.Words.{Word, Cat}
use Rattle.lic_tokens.specs.Tokens.{TokenValue}
use Rattle.lic_places.specs.Reads.{Reads}
use Rattle.lic_spans.specs.declared.span.PlaceSpan.{PlaceSpan}
use Rattle.lic_view.specs.PlaceSets.{ArePlaced, Reaches}
use Rattle.lic_places.specs.Places.{AreTexts}
use Rattle.lic_view.specs.Backward.{Beats, IsBack, Keeps}
use Rattle.lic_reverse.specs.Tidily.{IsTakenBack, IsTidyBack, IsTidyBackFrom, Taken}
use Rattle.lic_view.proofs.Placed.{ArePlaced-append, ArePlaced-nil, Reaches-append, Reaches-append_left, Reaches-append_right, Reaches-nil}
use Rattle.lic_view.proofs.Back.{Beats-joined, Beats-same, Reaches-in_front, back-keeps, back-stay, reads-forward, reads-joined, reads-parted}
use Rattle.lic_reverse.proofs.TidyWords.{taken-joined, taken-parted}
use Rattle.lic_view.specs.declared.sets.keep.Keep.{Keep}

-- a list has the place with a last token that is as good
abbrev pub HasBetter : Keep → List TokenValue → List PlaceSpan → ℕ → ℕ → Type 0
HasBetter keep tokens xs p last = (other : ℕ) × Beats keep tokens p other last × Reaches tokens xs p other

-- the empty word
abbrev pub IsEmptyWord : Word → Type 0
IsEmptyWord w = w ≡ []

-- each place with those last tokens that are kept stays where it is
pub back-kept_same : (keep : Keep) (tokens : List TokenValue) (xs ys : List PlaceSpan) → AreTexts tokens → ArePlaced tokens xs → Keeps keep xs ys → IsBack keep tokens IsEmptyWord xs ys
back-kept_same keep tokens xs ys texts placed kept =
    back-keeps keep tokens IsEmptyWord (Reaches tokens xs) xs ys texts (back-stay keep tokens xs placed) kept

module _ (keep : Keep) (tokens : List TokenValue) where
  -- a word of the first set and then one of the second
  pub tidy-after : (P Q : Word → Type 0) (Ends : Taken → ℕ → ℕ → Type 0) (xs ys : Taken → List PlaceSpan) →
      IsTidyBackFrom keep tokens P Ends xs → IsTidyBack keep tokens Q xs ys → IsTidyBackFrom keep tokens (Cat Q P) Ends ys
  tidy-after P Q Ends xs ys last first = record {
    placed = first.placed;
    sound = λ s p l r.
        let a = first.sound s p l r in
        let b = last.sound a.0 a.1 l a.2 in
        (b.0, b.1, b.2, a.3 ++ b.3, (a.3, b.3, a.4, b.4, refl), taken-joined a.3 b.3 s a.0 b.0 a.5 b.5, reads-joined tokens a.3 b.3 p a.1 b.1 a.6 b.6);
    complete = λ s t p q l w e is taken reads.
        let r = reads-parted tokens is.0 is.1 p q (subst (λ x. Reads tokens p x q) is.4 reads) in
        let m = taken-parted is.0 is.1 s t (subst (λ x. IsTakenBack s x t) is.4 taken) in
        let c = last.complete m.0 t r.0 q l is.1 e is.3 m.2 r.2 in
        let d = first.complete s m.0 p r.0 c.0 is.0 c.2 is.2 m.1 r.1 in
        let front = Reaches-in_front tokens (xs m.0) r.0 c.0 (last.placed m.0) c.2 in
        let forward = reads-forward tokens is.0 p r.0 r.1 in
        (d.0, Beats-joined keep tokens p r.0 c.0 d.0 l front forward c.1 d.1, d.2);
  }

  -- the empty word
  pub tidy-stay : (xs : Taken → List PlaceSpan) → ((s : Taken) → ArePlaced tokens (xs s)) → IsTidyBack keep tokens IsEmptyWord xs xs
  tidy-stay xs placed = record {
    placed = placed;
    sound = λ s p l r. (s, p, r, [], refl, refl, refl);
    complete = λ s t p q l w r is taken reads.
        let same : p ≡ q = subst (λ x. Reads tokens p x q) is reads in
        let taken_same : s ≡ t = subst (λ x. IsTakenBack s x t) is taken in
        (l, Beats-same keep tokens p l, subst (λ x. Reaches tokens (xs x) p l) (sym taken_same) (subst (λ x. Reaches tokens (xs t) x l) (sym same) r));
  }

  -- the same words from the same places, and the same lists
  pub tidy-same : (P Q : Word → Type 0) (Ends : Taken → ℕ → ℕ → Type 0) (xs : Taken → List PlaceSpan) →
      ((w : Word) → P w → Q w) → ((w : Word) → Q w → P w) → IsTidyBackFrom keep tokens P Ends xs → IsTidyBackFrom keep tokens Q Ends xs
  tidy-same P Q Ends xs to from back = record {
    placed = back.placed;
    sound = λ s p l r. let a = back.sound s p l r in (a.0, a.1, a.2, a.3, to a.3 a.4, a.5, a.6);
    complete = λ s t p q l w e is taken reads. back.complete s t p q l w e (from w is) taken reads;
  }

  pub tidy-lists : (P : Word → Type 0) (Ends : Taken → ℕ → ℕ → Type 0) (xs ys : Taken → List PlaceSpan) →
      ((s : Taken) → ys s ≡ xs s) → IsTidyBackFrom keep tokens P Ends xs → IsTidyBackFrom keep tokens P Ends ys
  tidy-lists P Ends xs ys same back = record {
    placed = λ s. subst (λ x. ArePlaced tokens x) (sym (same s)) (back.placed s);
    sound = λ s p l r. back.sound s p l (subst (λ x. Reaches tokens x p l) (same s) r);
    complete = λ s t p q l w e is taken reads.
        let c = back.complete s t p q l w e is taken reads in
        (c.0, c.1, subst (λ x. Reaches tokens x p c.0) (sym (same s)) c.2);
  }

  -- each list with the least last tokens, or the same list once more
  pub tidy-each : (xs ys : Taken → List PlaceSpan) → ((s : Taken) → IsBack keep tokens IsEmptyWord (xs s) (ys s)) → IsTidyBack keep tokens IsEmptyWord xs ys
  tidy-each xs ys each = record {
    placed = λ s. let b = each s in b.placed;
    sound = λ s p l r.
        let b = each s in let a = b.sound p l r in
        let same : p ≡ a.0 = subst (λ x. Reads tokens p x a.0) a.3 a.4 in
        (s, p, subst (λ x. Reaches tokens (xs s) x l) (sym same) a.1, [], refl, refl, refl);
    complete = λ s t p q l w r is taken reads.
        let same : p ≡ q = subst (λ x. Reads tokens p x q) is reads in
        let taken_same : s ≡ t = subst (λ x. IsTakenBack s x t) is taken in
        let here = subst (λ x. Reaches tokens (xs x) p l) (sym taken_same) (subst (λ x. Reaches tokens (xs t) x l) (sym same) r) in
        let b = each s in
        b.complete p p l [] here refl refl;
  }

  -- going back over the empty word changes no set
  pub tidy-least : (P : Word → Type 0) (Ends : Taken → ℕ → ℕ → Type 0) (xs ys : Taken → List PlaceSpan) →
      IsTidyBackFrom keep tokens P Ends xs → IsTidyBack keep tokens IsEmptyWord xs ys → IsTidyBackFrom keep tokens P Ends ys
  tidy-least P Ends xs ys back least =
      tidy-same (Cat IsEmptyWord P) P Ends ys
      (λ w is. subst P (sym is.4) (subst (λ x. P (x ++ is.1)) (sym is.2) is.3))
      (λ w is. ([], w, refl, is, refl))
      (tidy-after P IsEmptyWord Ends xs ys back least)

  -- words of the one set and of the other
  pub tidy-either : (P Q : Word → Type 0) (Ends : Taken → ℕ → ℕ → Type 0) (xs ys zs : Taken → List PlaceSpan) →
      ((s : Taken) → zs s ≡ xs s ++ ys s) →
      IsTidyBackFrom keep tokens P Ends xs → IsTidyBackFrom keep tokens Q Ends ys → IsTidyBackFrom keep tokens (λ w. P w ⊎ Q w) Ends zs
  tidy-either P Q Ends xs ys zs are one other = tidy-lists Either Ends both zs are (record {
    placed = λ s. ArePlaced-append tokens (xs s) (ys s) (one.placed s) (other.placed s);
    sound = λ s p l r. sound s p l (Reaches-append tokens (xs s) (ys s) p l r);
    complete = λ s t p q l w e is taken reads. complete s t p q l w e is taken reads;
  })
    where
      Either : Word → Type 0
      Either w = P w ⊎ Q w

      both : Taken → List PlaceSpan
      both s = xs s ++ ys s

      sound : (s : Taken) (p l : ℕ) → Reaches tokens (xs s) p l ⊎ Reaches tokens (ys s) p l →
          (t : Taken) × (q : ℕ) × Ends t q l × (w : Word) × Either w × IsTakenBack s w t × Reads tokens p w q
      sound s p l (inl r) = let a = one.sound s p l r in (a.0, a.1, a.2, a.3, inl a.4, a.5, a.6)
      sound s p l (inr r) = let a = other.sound s p l r in (a.0, a.1, a.2, a.3, inr a.4, a.5, a.6)

      complete : (s t : Taken) (p q l : ℕ) (w : Word) → Ends t q l → Either w → IsTakenBack s w t → Reads tokens p w q →
          HasBetter keep tokens (xs s ++ ys s) p l
      complete s t p q l w e (inl is) taken reads =
          let c = one.complete s t p q l w e is taken reads in (c.0, c.1, Reaches-append_left tokens (xs s) (ys s) p c.0 c.2)
      complete s t p q l w e (inr is) taken reads =
          let c = other.complete s t p q l w e is taken reads in (c.0, c.1, Reaches-append_right tokens (xs s) (ys s) p c.0 c.2)

  -- no words
  pub tidy-none : (P : Word → Type 0) (Ends : Taken → ℕ → ℕ → Type 0) (xs : Taken → List PlaceSpan) →
      ((s : Taken) → xs s ≡ []) → ((w : Word) → P w → ⊥) → IsTidyBackFrom keep tokens P Ends xs
  tidy-none P Ends xs empty none = record {
    placed = λ s. subst (λ x. ArePlaced tokens x) (sym (empty s)) (ArePlaced-nil tokens);
    sound = λ s p l r. absurd (Reaches-nil tokens p l (subst (λ x. Reaches tokens x p l) (empty s) r));
    complete = λ s t p q l w e is taken reads. absurd (none w is);
  }
