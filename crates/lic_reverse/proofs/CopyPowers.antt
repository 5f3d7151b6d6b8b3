-- Going back over words of a set again and again, each time on from the places that are new.
use Rattle.std.proofs.Common.{◌≡◌, ◌⊎◌, ℕ, zero, suc, ◌+◌, ◌≤◌, List, [], ◌++◌, inl, inr, refl, sym, subst, arith}
use Rattle.lic_words.specs.Words.{Word, Power}
use Rattle.lic_tokens.specs.Tokens.{TokenValue}
use Rattle.lic_places.specs.Places.{AreTexts}
use Rattle.lic_places.specs.Reads.{Reads}
use Rattle.lic_spans.specs.declared.span.PlaceSpan.{PlaceSpan}
use Rattle.lic_view.specs.PlaceSets.{ArePlaced, Reaches}
use Rattle.lic_view.specs.Backward.{Beats, IsBack, Keeps}
use Rattle.lic_reverse.specs.Reached.{IsFrontierOf}
use Rattle.lic_reverse.specs.Tidily.{Taken, UpTo, a_blank, a_letter, nothing}
use Rattle.lic_view.specs.declared.sets.keep.Keep.{Keep}
use Rattle.lic_view.proofs.Placed.{ArePlaced-nil, Reaches-append, Reaches-append_left, Reaches-append_right, Reaches-nil}
use Rattle.lic_view.proofs.Back.{Beats-joined, Beats-through, Reaches-in_front, back-keeps, back-stay, reads-forward, reads-joined, reads-parted}
use Rattle.lic_reverse.proofs.TidyBack.{HasBetter, IsEmptyWord}
use Rattle.lic_reverse.proofs.TidyPowers as tidy

module _ (keep : Keep) (tokens : List TokenValue) (B : Word → Type 0) where
  -- what one word more leads to is found
  abbrev pub IsFollowed : List PlaceSpan → ℕ → ℕ → Type 0
  IsFollowed found q l = (p : ℕ) (u : Word) → B u → Reads tokens p u q → HasBetter keep tokens found p l

  -- what up to `i` words lead to is found, and what one word more leads to, but for that from the new places
  pub record AreReached (xs found front : List PlaceSpan) (i : ℕ) : Type 0 where
    pub back : IsBack keep tokens (UpTo B i) xs found
    pub placed : ArePlaced tokens front
    pub among : (p l : ℕ) → Reaches tokens front p l → Reaches tokens found p l
    pub followed : (q l : ℕ) → Reaches tokens found q l → Reaches tokens front q l ⊎ IsFollowed found q l

  -- at first nothing but the places themselves
  pub reached-start : (xs found front : List PlaceSpan) → found ≡ xs → front ≡ xs → ArePlaced tokens xs → AreReached xs found front 0
  reached-start xs found front same again placed = record {
    back = record {
      placed = subst (λ x. ArePlaced tokens x) (sym same) placed;
      sound = λ p l r. (p, subst (λ x. Reaches tokens x p l) same r, [], (0, omega arith, refl), refl);
      complete = λ p q l w r is reads. none p q l w r is.0 is.1 is.2 reads;
    };
    placed = subst (λ x. ArePlaced tokens x) (sym again) placed;
    among = λ p l r. subst (λ x. Reaches tokens x p l) (sym same) (subst (λ x. Reaches tokens x p l) again r);
    followed = λ q l r. inl (subst (λ x. Reaches tokens x q l) (sym again) (subst (λ x. Reaches tokens x q l) same r));
  }
    where
      none : (p q l : ℕ) (w : Word) → Reaches tokens xs q l → (k : ℕ) → k ≤ 0 → Power B k w → Reads tokens p w q → HasBetter keep tokens found p l
      none p q l w r zero few power reads =
          let stay = back-stay keep tokens xs placed in
          let c = stay.complete p q l w r power reads in
          (c.0, c.1, subst (λ x. Reaches tokens x p c.0) (sym same) c.2)
      none p q l w r (suc k) few power reads = absurd (omega arith)

  -- one word more
  pub reached-more : (xs found front next all fresh : List PlaceSpan) (i n : ℕ) → n ≡ suc i →
      AreReached xs found front i → IsBack keep tokens B front next → IsBack keep tokens IsEmptyWord (found ++ next) all →
      ArePlaced tokens fresh → ((p l : ℕ) → Reaches tokens fresh p l → Reaches tokens all p l) →
      ((p l : ℕ) → Reaches tokens all p l → Reaches tokens fresh p l ⊎ Reaches tokens found p l) →
      AreReached xs all fresh n
  reached-more xs found front next all fresh i n one reached step same placed among parted = record {
    back = record {
      placed = same.placed;
      sound = λ p l r. sound p l (Reaches-append tokens found next p l (from_all p l r));
      complete = λ p q l w e is reads. complete p q l w e is.0 is.1 is.2 reads;
    };
    placed = placed;
    among = among;
    followed = λ q l r. followed q l (parted q l r);
  }
    where
      from_all : (p l : ℕ) → Reaches tokens all p l → Reaches tokens (found ++ next) p l
      from_all p l r =
          let a = same.sound p l r in
          let here : p ≡ a.0 = subst (λ x. Reads tokens p x a.0) a.3 a.4 in
          subst (λ x. Reaches tokens (found ++ next) x l) (sym here) a.1

      to_all : (p l m : ℕ) → Beats keep tokens p m l → Reaches tokens (found ++ next) p m → HasBetter keep tokens all p l
      to_all p l m beats r =
          let c = same.complete p p m [] r refl refl in
          (c.0, Beats-through keep tokens p c.0 m l c.1 beats, c.2)

      from_found : (p l m : ℕ) → Beats keep tokens p m l → Reaches tokens found p m → HasBetter keep tokens all p l
      from_found p l m beats r = to_all p l m beats (Reaches-append_left tokens found next p m r)

      from_next : (p l m : ℕ) → Beats keep tokens p m l → Reaches tokens next p m → HasBetter keep tokens all p l
      from_next p l m beats r = to_all p l m beats (Reaches-append_right tokens found next p m r)

      onward : (p q l : ℕ) (u : Word) → Reaches tokens found q l → B u → Reads tokens p u q → HasBetter keep tokens all p l
      onward p q l u r is reads = by_case (reached.followed q l r)
        where
          by_case : Reaches tokens front q l ⊎ IsFollowed found q l → HasBetter keep tokens all p l
          by_case (inl from) = let c = step.complete p q l u from is reads in from_next p l c.0 c.1 c.2
          by_case (inr follows) = let c = follows p u is reads in from_found p l c.0 c.1 c.2

      sound : (p l : ℕ) → Reaches tokens found p l ⊎ Reaches tokens next p l →
          (q : ℕ) × Reaches tokens xs q l × (w : Word) × UpTo B n w × Reads tokens p w q
      sound p l (inl r) = let a = reached.back.sound p l r in (a.0, a.1, a.2, (a.3.0, omega (arith, one, a.3.1), a.3.2), a.4)
      sound p l (inr r) =
          let a = step.sound p l r in
          let b = reached.back.sound a.0 l (reached.among a.0 l a.1) in
          (b.0, b.1, a.2 ++ b.2, (suc b.3.0, omega (arith, one, b.3.1), (a.2, b.2, a.3, b.3.2, refl)), reads-joined tokens a.2 b.2 p a.0 b.0 a.4 b.4)

      complete : (p q l : ℕ) (w : Word) → Reaches tokens xs q l → (k : ℕ) → k ≤ n → Power B k w → Reads tokens p w q → HasBetter keep tokens all p l
      complete p q l w e zero few power reads =
          let c = reached.back.complete p q l w e (0, omega arith, power) reads in from_found p l c.0 c.1 c.2
      complete p q l w e (suc k) few power reads =
          let r = reads-parted tokens power.0 power.1 p q (subst (λ x. Reads tokens p x q) power.4 reads) in
          let c = reached.back.complete r.0 q l power.1 e (k, omega arith, power.3) r.2 in
          let d = onward p r.0 c.0 power.0 c.2 power.2 r.1 in
          let before = Reaches-in_front tokens found r.0 c.0 reached.back.placed c.2 in
          let forward = reads-forward tokens power.0 p r.0 r.1 in
          (d.0, Beats-joined keep tokens p r.0 c.0 d.0 l before forward c.1 d.1, d.2)

      followed : (q l : ℕ) → Reaches tokens fresh q l ⊎ Reaches tokens found q l → Reaches tokens fresh q l ⊎ IsFollowed all q l
      followed q l (inl r) = inl r
      followed q l (inr r) = inr (λ p u is reads. onward p q l u r is reads)

  -- once nothing is new, all is found
  pub reached-all : (xs found front : List PlaceSpan) (i n : ℕ) → i ≤ n → front ≡ [] → AreReached xs found front i → IsBack keep tokens (UpTo B n) xs found
  reached-all xs found front i n more empty reached = record {
    placed = reached.back.placed;
    sound = λ p l r. let a = reached.back.sound p l r in (a.0, a.1, a.2, (a.3.0, omega (arith, more, a.3.1), a.3.2), a.4);
    complete = λ p q l w e is reads. every p q l w e is.0 is.2 reads;
  }
    where
      follows : (q l : ℕ) → Reaches tokens front q l ⊎ IsFollowed found q l → IsFollowed found q l
      follows q l (inl r) = absurd (Reaches-nil tokens q l (subst (λ x. Reaches tokens x q l) empty r))
      follows q l (inr is) = is

      every : (p q l : ℕ) (w : Word) → Reaches tokens xs q l → (k : ℕ) → Power B k w → Reads tokens p w q → HasBetter keep tokens found p l
      every p q l w e zero power reads = reached.back.complete p q l w e (0, omega arith, power) reads
      every p q l w e (suc k) power reads =
          let r = reads-parted tokens power.0 power.1 p q (subst (λ x. Reads tokens p x q) power.4 reads) in
          let c = every r.0 q l power.1 e k power.3 r.2 in
          let d = follows r.0 c.0 (reached.followed r.0 c.0 c.2) p power.0 power.2 r.1 in
          let before = Reaches-in_front tokens found r.0 c.0 reached.back.placed c.2 in
          let forward = reads-forward tokens power.0 p r.0 r.1 in
          (d.0, Beats-joined keep tokens p r.0 c.0 d.0 l before forward c.1 d.1, d.2)

  -- or after `n` words
  pub reached-done : (xs found front : List PlaceSpan) (i n : ℕ) → i ≤ n → n ≤ i → AreReached xs found front i → IsBack keep tokens (UpTo B n) xs found
  reached-done xs found front i n few many reached = let is : i ≡ n = omega arith in subst (λ k. IsBack keep tokens (UpTo B k) xs found) is reached.back

  -- what is added to the places that were reached, of ways that only have such
  pub reached-added : (xs front next : List PlaceSpan) (old more new fresh : Taken → List PlaceSpan) (i : ℕ) →
      more nothing ≡ next → AreReached xs (old nothing) front i → IsBack keep tokens B front next →
      IsFrontierOf keep tokens old (λ s. old s ++ more s) new fresh → AreReached xs (new nothing) (fresh nothing) (i + 1)
  reached-added xs front next old more new fresh i is reached step added =
      reached-more xs (old nothing) front (more nothing) (new nothing) (fresh nothing) i (i + 1) (omega arith) reached
      (subst (λ x. IsBack keep tokens B front x) (sym is) step) plain
      (added.placed nothing) (added.among nothing) (added.parted nothing)
    where
      both : Taken → List PlaceSpan
      both s = old s ++ more s

      plain : IsBack keep tokens IsEmptyWord (old nothing ++ more nothing) (new nothing)
      plain = record {
        placed = added.back.placed nothing;
        sound = λ p l r. (p, tidy.from-least keep tokens B both new added.back nothing p l r, [], refl, refl);
        complete = λ p q l w r none reads.
            let here : p ≡ q = subst (λ x. Reads tokens p x q) none reads in
            added.back.complete nothing nothing p p l [] (subst (λ x. Reaches tokens (old nothing ++ more nothing) x l) (sym here) r) refl refl refl;
      }

-- ways of which the places alone are known
pub ways-placed : (tokens : List TokenValue) (xs : List PlaceSpan) (ways : Taken → List PlaceSpan) → ways nothing ≡ xs → ways a_letter ≡ [] → ways a_blank ≡ [] →
    ArePlaced tokens xs → (s : Taken) → ArePlaced tokens (ways s)
ways-placed tokens xs ways are letters blanks placed nothing = subst (λ x. ArePlaced tokens x) (sym are) placed
ways-placed tokens xs ways are letters blanks placed a_letter = subst (λ x. ArePlaced tokens x) (sym letters) (ArePlaced-nil tokens)
ways-placed tokens xs ways are letters blanks placed a_blank = subst (λ x. ArePlaced tokens x) (sym blanks) (ArePlaced-nil tokens)

-- each place with those last tokens that are kept
pub reached-kept : (keep : Keep) (tokens : List TokenValue) (P : Word → Type 0) (xs found kept : List PlaceSpan) → AreTexts tokens →
    IsBack keep tokens P xs found → Keeps keep found kept → IsBack keep tokens P xs kept
reached-kept keep tokens P xs found kept texts back keeps = back-keeps keep tokens P (Reaches tokens xs) found kept texts back keeps
