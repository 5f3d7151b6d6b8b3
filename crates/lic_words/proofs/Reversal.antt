-- An expression read from its end.
use Rattle.std.proofs.Common.{◌≡◌, ℕ, zero, suc, [], ◌∷◌, ◌++◌, inl, inr, reverse, refl, sym, ap, ◌∙◌, subst, append_assoc, append-nil}
use Rattle.std.proofs.lemmas.List.{reverse-append, reverse-reverse}
use Rattle.lic_words.specs.Words.{Word, IsTidy, Power, blank}
use Rattle.lic_words.specs.Expressions.{Expression, Language, empty, one, cat, none, alt, repeat, tidy}
use Rattle.lic_words.specs.Reversal.{reversed_expression}

pub reversed_expression-reversed_expression : (e : Expression) → reversed_expression (reversed_expression e) ≡ e
reversed_expression-reversed_expression empty = refl
reversed_expression-reversed_expression (one passes) = refl
reversed_expression-reversed_expression (cat a b) = λ i. cat (reversed_expression-reversed_expression a i) (reversed_expression-reversed_expression b i)
reversed_expression-reversed_expression none = refl
reversed_expression-reversed_expression (alt a b) = λ i. alt (reversed_expression-reversed_expression a i) (reversed_expression-reversed_expression b i)
reversed_expression-reversed_expression (repeat min max a) = ap (repeat min max) (reversed_expression-reversed_expression a)
reversed_expression-reversed_expression (tidy a) = ap tidy (reversed_expression-reversed_expression a)

-- one word more after a sequence of words
Power-push : (P : Word → Type 0) (n : ℕ) (u v : Word) → Power P n u → P v → Power P (suc n) (u ++ v)
Power-push P zero u v h p = (v, [], p, refl, ap (λ x. x ++ v) h ∙ sym (append-nil v))
Power-push P (suc n) w v (u, rest, p, q, e) last =
    (u, rest ++ v, p, Power-push P n rest v q last, ap (λ x. x ++ v) e ∙ append_assoc u rest v)

-- the words of a sequence from the last to the first, each from its end
Power-reversed_expression : (P Q : Word → Type 0) → ((w : Word) → P w → Q (reverse w)) → (n : ℕ) (w : Word) → Power P n w → Power Q n (reverse w)
Power-reversed_expression P Q f zero w h = ap reverse h
Power-reversed_expression P Q f (suc n) w (u, v, p, q, e) =
    subst (Power Q (suc n)) (sym (ap reverse e ∙ reverse-append u v))
    (Power-push Q n (reverse v) (reverse u) (Power-reversed_expression P Q f n v q) (f u p))

IsTidy-reversed_expression : (w : Word) → IsTidy w → IsTidy (reverse w)
IsTidy-reversed_expression w t = record {
  not_first = λ v e. t.not_last (reverse v) (sym (reverse-reverse w) ∙ ap reverse e ∙ reverse-append (blank ∷ []) v);
  not_last = λ u e. t.not_first (reverse u) (sym (reverse-reverse w) ∙ ap reverse e ∙ reverse-append u (blank ∷ []));
  not_two = λ u v e. t.not_two (reverse v) (reverse u)
      (sym (reverse-reverse w) ∙ ap reverse e ∙ reverse-append u (blank ∷ blank ∷ v)
      ∙ ap (λ x. x ++ reverse u) (reverse-append (blank ∷ blank ∷ []) v)
      ∙ append_assoc (reverse v) (blank ∷ blank ∷ []) (reverse u));
}

pub Language-reversed_expression : (e : Expression) (w : Word) → Language e w → Language (reversed_expression e) (reverse w)
Language-reversed_expression empty w h = ap reverse h
Language-reversed_expression (one passes) w (c, p, e) = (c, p, ap reverse e)
Language-reversed_expression (cat a b) w (u, v, p, q, e) =
    (reverse v, reverse u, Language-reversed_expression b v q, Language-reversed_expression a u p, ap reverse e ∙ reverse-append u v)
Language-reversed_expression none w h = h
Language-reversed_expression (alt a b) w (inl h) = inl (Language-reversed_expression a w h)
Language-reversed_expression (alt a b) w (inr h) = inr (Language-reversed_expression b w h)
Language-reversed_expression (repeat min max a) w (n, low, high, p) =
    (n, low, high, Power-reversed_expression (Language a) (Language (reversed_expression a)) (Language-reversed_expression a) n w p)
Language-reversed_expression (tidy a) w (h, t) = (Language-reversed_expression a w h, IsTidy-reversed_expression w t)

pub reversed_expression-Language : (e : Expression) (w : Word) → Language (reversed_expression e) (reverse w) → Language e w
reversed_expression-Language e w h =
    subst (λ x. Language e x) (reverse-reverse w)
    (subst (λ x. Language x (reverse (reverse w))) (reversed_expression-reversed_expression e)
    (Language-reversed_expression (reversed_expression e) (reverse w) h))
