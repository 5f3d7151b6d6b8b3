-- Going back over words of a set again and again.
use Rattle.std.proofs.Common.{◌≡◌, ◌⊎◌, ℕ, zero, suc, ◌+◌, ◌≤◌, List, [], ◌∷◌, ◌++◌, length, inl, inr, refl, sym, ap, arith, subst, ◌∙◌, append_assoc, length-append}
use Rattle.lic_words.specs.Words.{Word, Power}
use Rattle.lic_tokens.specs.Tokens.{TokenValue}
use Rattle.lic_places.specs.Reads.{Reads}
use Rattle.lic_spans.specs.declared.span.PlaceSpan.{PlaceSpan}
use Rattle.lic_view.specs.PlaceSets.{ArePlaced, Reaches}
use Rattle.lic_view.specs.Backward.{Beats}
use Rattle.lic_reverse.specs.Tidily.{IsTakenBack, IsTidyBack, IsTidyBackFrom, Taken, UpTo}
use Rattle.lic_view.proofs.Placed.{Reaches-append, Reaches-append_left, Reaches-append_right, Reaches-nil}
use Rattle.lic_view.proofs.Back.{Beats-joined, Beats-through, Reaches-in_front, reads-forward, reads-joined, reads-parted}
use Rattle.lic_reverse.proofs.TidyWords.{taken-joined, taken-parted}
use Rattle.lic_reverse.proofs.TidyBack.{HasBetter, IsEmptyWord, tidy-after, tidy-same}
use Rattle.lic_view.specs.declared.sets.keep.Keep.{Keep}

-- ---- powers

pub power-joined : (P : Word → Type 0) (j k n : ℕ) (u v : Word) → n ≡ j + k → Power P j u → Power P k v → Power P n (u ++ v)
power-joined P zero k n u v is first second =
    let same : n ≡ k = omega arith in
    subst (λ x. Power P x (u ++ v)) (sym same) (subst (λ x. Power P k (x ++ v)) (sym first) second)
power-joined P (suc j) k n u v is first second =
    let m = j + k in
    let next : n ≡ suc m = omega arith in
    let more = power-joined P j k m first.1 v refl first.3 second in
    subst (λ x. Power P x (u ++ v)) (sym next)
    (first.0, first.1 ++ v, first.2, more, subst (λ x. x ++ v ≡ first.0 ++ (first.1 ++ v)) (sym first.4) (append_assoc first.0 first.1 v))

pub power-parted : (P : Word → Type 0) (j k n : ℕ) (w : Word) → n ≡ j + k → Power P n w →
    (u v : Word) × Power P j u × Power P k v × (w ≡ u ++ v)
power-parted P zero k n w is power =
    let same : n ≡ k = omega arith in ([], w, refl, subst (λ x. Power P x w) same power, refl)
power-parted P (suc j) k n w is power =
    let m = j + k in
    let next : n ≡ suc m = omega arith in
    let parts : Power P (suc m) w = subst (λ x. Power P x w) next power in
    let more = power-parted P j k m parts.1 refl parts.3 in (
      parts.0 ++ more.0,
      more.1,
      (parts.0, more.0, parts.2, more.2, refl),
      more.3,
      parts.4 ∙ ap (λ x. parts.0 ++ x) more.4 ∙ sym (append_assoc parts.0 more.0 more.1),
    )

-- the parts that are empty left out, no more words make a word than it has letters
pub power-shorter : (P : Word → Type 0) (k : ℕ) (w : Word) → Power P k w → (j : ℕ) × (j ≤ length w) × (j ≤ k) × Power P j w
power-shorter P zero w power = (0, omega arith, omega arith, power)
power-shorter P (suc k) w power =
    let more = power-shorter P k power.1 power.3 in
    by_first power.0 power.1 power.2 more.0 more.1 more.2 more.3 power.4
  where
    by_first : (u v : Word) → P u → (j : ℕ) → j ≤ length v → j ≤ k → Power P j v → w ≡ u ++ v →
        (j : ℕ) × (j ≤ length w) × (j ≤ suc k) × Power P j w
    by_first [] v is j short few powers same =
        (j, subst (λ x. j ≤ length x) (sym same) short, omega arith, subst (λ x. Power P j x) (sym same) powers)
    by_first (c ∷ u) v is j short few powers same =
        (suc j, subst (λ x. suc j ≤ length x) (sym same) (omega (arith, length-append (c ∷ u) v)), omega arith, (c ∷ u, v, is, powers, same))

module _ (keep : Keep) (tokens : List TokenValue) (B : Word → Type 0) where
  -- ---- a number of times

  -- what going back changes nothing of stays as it is
  pub times-settled : (Ends : Taken → ℕ → ℕ → Type 0) (xs : Taken → List PlaceSpan) (i : ℕ) →
      IsTidyBackFrom keep tokens (Power B i) Ends xs → IsTidyBack keep tokens B xs xs → (d n : ℕ) → n ≡ i + d → IsTidyBackFrom keep tokens (Power B n) Ends xs
  times-settled Ends xs i back stays zero n is =
      let same : n ≡ i = omega arith in subst (λ x. IsTidyBackFrom keep tokens (Power B x) Ends xs) (sym same) back
  times-settled Ends xs i back stays (suc d) n is =
      let m = i + d in
      let next : n ≡ suc m = omega arith in
      subst (λ x. IsTidyBackFrom keep tokens (Power B x) Ends xs) (sym next)
      (tidy-after keep tokens (Power B m) B Ends xs xs (times-settled Ends xs i back stays d m refl) stays)

  -- ---- as often as one likes

  -- what one word more leads to is found
  abbrev pub IsFollowed : (Taken → List PlaceSpan) → Taken → ℕ → ℕ → Type 0
  IsFollowed found t q l = (s : Taken) (p : ℕ) (u : Word) → B u → IsTakenBack s u t → Reads tokens p u q → HasBetter keep tokens (found s) p l

  -- what up to `i` words lead to is found, and what one word more leads to, but for that from the start
  pub record IsReached (xs found front : Taken → List PlaceSpan) (i : ℕ) : Type 0 where
    pub back : IsTidyBack keep tokens (UpTo B i) xs found
    pub placed : (s : Taken) → ArePlaced tokens (front s)
    pub among : (s : Taken) (p l : ℕ) → Reaches tokens (front s) p l → Reaches tokens (found s) p l
    pub followed : (t : Taken) (q l : ℕ) → Reaches tokens (found t) q l → Reaches tokens (front t) q l ⊎ IsFollowed found t q l

  -- what is the same but for the empty word
  pub from-least : (xs ys : Taken → List PlaceSpan) → IsTidyBack keep tokens IsEmptyWord xs ys → (s : Taken) (p l : ℕ) → Reaches tokens (ys s) p l → Reaches tokens (xs s) p l
  from-least xs ys least s p l r =
      let a = least.sound s p l r in
      let same : p ≡ a.1 = subst (λ x. Reads tokens p x a.1) a.4 a.6 in
      let taken : s ≡ a.0 = subst (λ x. IsTakenBack s x a.0) a.4 a.5 in
      subst (λ x. Reaches tokens (xs x) p l) (sym taken) (subst (λ x. Reaches tokens (xs a.0) x l) (sym same) a.2)

  pub to-least : (xs ys : Taken → List PlaceSpan) → IsTidyBack keep tokens IsEmptyWord xs ys → (s : Taken) (p l m : ℕ) → Beats keep tokens p m l → Reaches tokens (xs s) p m → HasBetter keep tokens (ys s) p l
  to-least xs ys least s p l m beats r =
      let c = least.complete s s p p m [] r refl refl refl in
      (c.0, Beats-through keep tokens p c.0 m l c.1 beats, c.2)

  pub reached-first : (xs found : Taken → List PlaceSpan) → IsTidyBack keep tokens IsEmptyWord xs found → IsReached xs found found 0
  reached-first xs found same = record {
    back = tidy-same keep tokens IsEmptyWord (UpTo B 0) (λ t q l. Reaches tokens (xs t) q l) found (λ w is. (0, omega arith, is)) (λ w is. none w is.0 is.1 is.2) same;
    placed = same.placed;
    among = λ s p l r. r;
    followed = λ t q l r. inl r;
  }
    where
      none : (w : Word) (k : ℕ) → k ≤ 0 → Power B k w → w ≡ []
      none w zero few power = power
      none w (suc k) few power = absurd (omega arith)

  pub reached-more : (xs found front next both all fresh : Taken → List PlaceSpan) (i n : ℕ) → n ≡ suc i →
      IsReached xs found front i → IsTidyBack keep tokens B front next →
      ((s : Taken) → both s ≡ found s ++ next s) → IsTidyBack keep tokens IsEmptyWord both all →
      ((s : Taken) → ArePlaced tokens (fresh s)) →
      ((s : Taken) (p l : ℕ) → Reaches tokens (fresh s) p l → Reaches tokens (all s) p l) →
      ((s : Taken) (p l : ℕ) → Reaches tokens (all s) p l → Reaches tokens (fresh s) p l ⊎ Reaches tokens (found s) p l) →
      IsReached xs all fresh n
  reached-more xs found front next both all fresh i n one reached step joined least placed among parted = record {
    back = record {
      placed = least.placed;
      sound = λ s p l r. sound s p l (Reaches-append tokens (found s) (next s) p l
          (subst (λ x. Reaches tokens x p l) (joined s) (from-least both all least s p l r)));
      complete = λ s t p q l w e is taken reads. complete s t p q l w e is.0 is.1 is.2 taken reads;
    };
    placed = placed;
    among = among;
    followed = λ t q l r. followed t q l (parted t q l r);
  }
    where
      -- what was found, and what one step leads to, is found
      from_found : (s : Taken) (p l m : ℕ) → Beats keep tokens p m l → Reaches tokens (found s) p m → HasBetter keep tokens (all s) p l
      from_found s p l m beats r = to-least both all least s p l m beats
          (subst (λ x. Reaches tokens x p m) (sym (joined s)) (Reaches-append_left tokens (found s) (next s) p m r))

      from_next : (s : Taken) (p l m : ℕ) → Beats keep tokens p m l → Reaches tokens (next s) p m → HasBetter keep tokens (all s) p l
      from_next s p l m beats r = to-least both all least s p l m beats
          (subst (λ x. Reaches tokens x p m) (sym (joined s)) (Reaches-append_right tokens (found s) (next s) p m r))

      onward : (s t : Taken) (p q l : ℕ) (u : Word) → Reaches tokens (found t) q l → B u → IsTakenBack s u t → Reads tokens p u q →
          HasBetter keep tokens (all s) p l
      onward s t p q l u r is taken reads = by_case (reached.followed t q l r)
        where
          by_case : Reaches tokens (front t) q l ⊎ IsFollowed found t q l → HasBetter keep tokens (all s) p l
          by_case (inl from) = let c = step.complete s t p q l u from is taken reads in from_next s p l c.0 c.1 c.2
          by_case (inr follows) = let c = follows s p u is taken reads in from_found s p l c.0 c.1 c.2

      sound : (s : Taken) (p l : ℕ) → Reaches tokens (found s) p l ⊎ Reaches tokens (next s) p l →
          (t : Taken) × (q : ℕ) × Reaches tokens (xs t) q l × (w : Word) × UpTo B n w × IsTakenBack s w t × Reads tokens p w q
      sound s p l (inl r) = let a = reached.back.sound s p l r in
          (a.0, a.1, a.2, a.3, (a.4.0, omega (arith, one, a.4.1), a.4.2), a.5, a.6)
      sound s p l (inr r) =
          let a = step.sound s p l r in
          let b = reached.back.sound a.0 a.1 l (reached.among a.0 a.1 l a.2) in (
            b.0,
            b.1,
            b.2,
            a.3 ++ b.3,
            (suc b.4.0, omega (arith, one, b.4.1), (a.3, b.3, a.4, b.4.2, refl)),
            taken-joined a.3 b.3 s a.0 b.0 a.5 b.5,
            reads-joined tokens a.3 b.3 p a.1 b.1 a.6 b.6,
          )

      complete : (s t : Taken) (p q l : ℕ) (w : Word) → Reaches tokens (xs t) q l → (k : ℕ) → k ≤ n → Power B k w → IsTakenBack s w t → Reads tokens p w q →
          HasBetter keep tokens (all s) p l
      complete s t p q l w e zero few power taken reads =
          let c = reached.back.complete s t p q l w e (0, omega arith, power) taken reads in from_found s p l c.0 c.1 c.2
      complete s t p q l w e (suc k) few power taken reads =
          let r = reads-parted tokens power.0 power.1 p q (subst (λ x. Reads tokens p x q) power.4 reads) in
          let m = taken-parted power.0 power.1 s t (subst (λ x. IsTakenBack s x t) power.4 taken) in
          let c = reached.back.complete m.0 t r.0 q l power.1 e (k, omega arith, power.3) m.2 r.2 in
          let d = onward s m.0 p r.0 c.0 power.0 c.2 power.2 m.1 r.1 in
          let front_of = Reaches-in_front tokens (found m.0) r.0 c.0 (reached.back.placed m.0) c.2 in
          let forward = reads-forward tokens power.0 p r.0 r.1 in
          (d.0, Beats-joined keep tokens p r.0 c.0 d.0 l front_of forward c.1 d.1, d.2)

      followed : (t : Taken) (q l : ℕ) → Reaches tokens (fresh t) q l ⊎ Reaches tokens (found t) q l → Reaches tokens (fresh t) q l ⊎ IsFollowed all t q l
      followed t q l (inl r) = inl r
      followed t q l (inr r) = inr (λ s p u is taken reads. onward s t p q l u r is taken reads)

  -- once nothing is left to continue from, all is found
  pub reached-all : (xs found front : Taken → List PlaceSpan) (i n : ℕ) → i ≤ n → ((s : Taken) → front s ≡ []) →
      IsReached xs found front i → IsTidyBack keep tokens (UpTo B n) xs found
  reached-all xs found front i n more empty reached = record {
    placed = reached.back.placed;
    sound = λ s p l r. let a = reached.back.sound s p l r in
        (a.0, a.1, a.2, a.3, (a.4.0, omega (arith, more, a.4.1), a.4.2), a.5, a.6);
    complete = λ s t p q l w e is taken reads. every s t p q l w e is.0 is.2 taken reads;
  }
    where
      follows : (t : Taken) (q l : ℕ) → Reaches tokens (front t) q l ⊎ IsFollowed found t q l → IsFollowed found t q l
      follows t q l (inl r) = absurd (Reaches-nil tokens q l (subst (λ x. Reaches tokens x q l) (empty t) r))
      follows t q l (inr is) = is

      every : (s t : Taken) (p q l : ℕ) (w : Word) → Reaches tokens (xs t) q l → (k : ℕ) → Power B k w → IsTakenBack s w t → Reads tokens p w q →
          HasBetter keep tokens (found s) p l
      every s t p q l w e zero power taken reads = reached.back.complete s t p q l w e (0, omega arith, power) taken reads
      every s t p q l w e (suc k) power taken reads =
          let r = reads-parted tokens power.0 power.1 p q (subst (λ x. Reads tokens p x q) power.4 reads) in
          let m = taken-parted power.0 power.1 s t (subst (λ x. IsTakenBack s x t) power.4 taken) in
          let c = every m.0 t r.0 q l power.1 e k power.3 m.2 r.2 in
          let d = follows m.0 r.0 c.0 (reached.followed m.0 r.0 c.0 c.2) s p power.0 power.2 m.1 r.1 in
          let front_of = Reaches-in_front tokens (found m.0) r.0 c.0 (reached.back.placed m.0) c.2 in
          let forward = reads-forward tokens power.0 p r.0 r.1 in
          (d.0, Beats-joined keep tokens p r.0 c.0 d.0 l front_of forward c.1 d.1, d.2)
