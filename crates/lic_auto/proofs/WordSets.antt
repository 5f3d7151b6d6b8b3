-- Sets of words that are the same.
use Rattle.std.proofs.Common.{◌≡◌, ◌++◌, [], ◌⊎◌, inl, inr, Bool, true, false, ◌||◌, refl, sym, ap, ◌∙◌, subst, append_assoc, append-nil}
use Rattle.lic_words.specs.Words.{Word, Cat}
use Rattle.lic_auto.specs.Compiling.{AreSame}

pub AreSame-refl : (P : Word → Type 0) → AreSame P P
AreSame-refl P = record { to = λ w p. p; from = λ w p. p }

pub AreSame-sym : {P Q : Word → Type 0} → AreSame P Q → AreSame Q P
AreSame-sym s = record { to = s.from; from = s.to }

pub AreSame-trans : {P Q R : Word → Type 0} → AreSame P Q → AreSame Q R → AreSame P R
AreSame-trans s t = record { to = λ w p. t.to w (s.to w p); from = λ w r. s.from w (t.from w r) }

-- a word of the one set or the other
abbrev pub Either : (Word → Type 0) → (Word → Type 0) → Word → Type 0
Either P Q w = P w ⊎ Q w

-- the empty word alone
abbrev pub IsEmpty : Word → Type 0
IsEmpty w = w ≡ []

-- no word
abbrev pub IsNone : Word → Type 0
IsNone w = ⊥

module _ {P P' Q Q' : Word → Type 0} (p : AreSame P P') (q : AreSame Q Q') where
  pub Cat-same : AreSame (Cat P Q) (Cat P' Q')
  Cat-same = record {
    to = λ w (u, v, a, b, e). (u, v, p.to u a, q.to v b, e);
    from = λ w (u, v, a, b, e). (u, v, p.from u a, q.from v b, e);
  }

  either_to : (w : Word) → Either P Q w → Either P' Q' w
  either_to w (inl a) = inl (p.to w a)
  either_to w (inr b) = inr (q.to w b)

  either_from : (w : Word) → Either P' Q' w → Either P Q w
  either_from w (inl a) = inl (p.from w a)
  either_from w (inr b) = inr (q.from w b)

  pub Either-same : AreSame (Either P Q) (Either P' Q')
  Either-same = record { to = either_to; from = either_from }

module _ (P : Word → Type 0) where
  pub Cat-empty_left : AreSame (Cat IsEmpty P) P
  Cat-empty_left = record {
    to = λ w (u, v, a, b, e). subst P (sym (e ∙ ap (λ x. x ++ v) a)) b;
    from = λ w p. ([], w, refl, p, refl);
  }

  pub Cat-empty_right : AreSame (Cat P IsEmpty) P
  Cat-empty_right = record {
    to = λ w (u, v, a, b, e). subst P (sym (e ∙ ap (λ x. u ++ x) b ∙ append-nil u)) a;
    from = λ w p. (w, [], p, refl, sym (append-nil w));
  }

  none_to : (w : Word) → Either P IsNone w → P w
  none_to w (inl p) = p
  none_to w (inr h) = absurd h

  pub Either-none : AreSame (Either P IsNone) P
  Either-none = record { to = none_to; from = λ w p. inl p }

  no_other : (w : Word) → Either IsNone P w → P w
  no_other w (inl h) = absurd h
  no_other w (inr p) = p

  pub Either-none_left : AreSame (Either IsNone P) P
  Either-none_left = record { to = no_other; from = λ w p. inr p }

module _ (P Q R : Word → Type 0) where
  pub Cat-assoc : AreSame (Cat (Cat P Q) R) (Cat P (Cat Q R))
  Cat-assoc = record {
    to = λ w (u, v, (a, b, p, q, f), r, e).
        (a, b ++ v, p, (b, v, q, r, refl), e ∙ ap (λ x. x ++ v) f ∙ append_assoc a b v);
    from = λ w (u, v, p, (a, b, q, r, f), e).
        (u ++ a, b, (u, a, p, q, refl), r, e ∙ ap (λ x. u ++ x) f ∙ sym (append_assoc u a b));
  }

  assoc_to : (w : Word) → Either (Either P Q) R w → Either P (Either Q R) w
  assoc_to w (inl (inl p)) = inl p
  assoc_to w (inl (inr q)) = inr (inl q)
  assoc_to w (inr r) = inr (inr r)

  assoc_from : (w : Word) → Either P (Either Q R) w → Either (Either P Q) R w
  assoc_from w (inl p) = inl (inl p)
  assoc_from w (inr (inl q)) = inl (inr q)
  assoc_from w (inr (inr r)) = inr r

  pub Either-assoc : AreSame (Either (Either P Q) R) (Either P (Either Q R))
  Either-assoc = record { to = assoc_to; from = assoc_from }

-- the empty word where the test says so
abbrev pub EmptyIf : Bool → Word → Type 0
EmptyIf true = IsEmpty
EmptyIf false = IsNone

module _ (P : Word → Type 0) where
  true_to : (b : Bool) (w : Word) → Either IsEmpty P w → Either (Either IsEmpty P) (EmptyIf b) w
  true_to b w h = inl h

  true_from : (b : Bool) (w : Word) → Either (Either IsEmpty P) (EmptyIf b) w → Either IsEmpty P w
  true_from b w (inl h) = h
  true_from true w (inr h) = inl h
  true_from false w (inr h) = absurd h

  false_to : (b : Bool) (w : Word) → Either (EmptyIf b) P w → Either (Either IsNone P) (EmptyIf b) w
  false_to b w (inl h) = inr h
  false_to b w (inr p) = inl (inr p)

  false_from : (b : Bool) (w : Word) → Either (Either IsNone P) (EmptyIf b) w → Either (EmptyIf b) P w
  false_from b w (inl (inl h)) = absurd h
  false_from b w (inl (inr p)) = inr p
  false_from b w (inr h) = inl h

  -- the empty word where one test or the other says so
  pub EmptyIf-or : (a b : Bool) → AreSame (Either (EmptyIf (a || b)) P) (Either (Either (EmptyIf a) P) (EmptyIf b))
  EmptyIf-or true b = record { to = true_to b; from = true_from b }
  EmptyIf-or false b = record { to = false_to b; from = false_from b }

module _ (P Q : Word → Type 0) where
  turn : (A B : Word → Type 0) (w : Word) → Either A B w → Either B A w
  turn A B w (inl a) = inr a
  turn A B w (inr b) = inl b

  pub Either-reversed_tokens : AreSame (Either P Q) (Either Q P)
  Either-reversed_tokens = record { to = turn P Q; from = turn Q P }
