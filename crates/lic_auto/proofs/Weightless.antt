-- Cores with no letter position: they have the empty word, or none.
use Rattle.std.proofs.Common.{◌≡◌, ℕ, zero, suc, ◌<◌, Bool, true, false, ◌||◌, List, [], ◌∷◌, ◌++◌, map, length, get_or, ◌⊎◌, inl, inr, refl, sym, ap, ◌∙◌, subst, arith, ◌==◌, eqb-true, Option}
use Rattle.std.proofs.lemmas.Bool.{eqb-false}
use Rattle.lic_words.specs.Words.{Word, Power}
use Rattle.lic_marks.specs.Cores.{Core, empty, one, cat, none, alt, plus, tidy, WordsOf, cat_all}
use Rattle.lic_marks.specs.Marks.{is_nullable}
use Rattle.lic_marks.specs.Rows.{weight}
use Rattle.lic_marks.specs.Nodes.{core_of}
use Rattle.lic_marks.specs.declared.node.Node.{Node}
use Rattle.lic_marks.proofs.Shifting.{is_nullable_sound, is_nullable_complete}
use Rattle.lic_words.specs.Expressions.{IsAtMost}
use Rattle.lic_marks.proofs.Cuts.{or_cases}
use Rattle.lic_auto.specs.Compiling.{AreSame, Repeats}
use Rattle.lic_auto.proofs.Repetitions.{Repeats-left_out, Repeats-empty, Repeats-none}
use Rattle.lic_auto.proofs.WordSets.{AreSame-refl, AreSame-sym, AreSame-trans, IsEmpty, IsNone, EmptyIf, Cat-same, Cat-empty_right}
use Rattle.lic_auto.proofs.Sequences.{cat_all-push}

bool_cases : (b : Bool) → (b ≡ true) ⊎ (b ≡ false)
bool_cases true = inl refl
bool_cases false = inr refl

neither_left : (a b : Bool) → (a || b) ≡ false → a ≡ false
neither_left true b h = h
neither_left false b h = refl

neither_right : (a b : Bool) → (a || b) ≡ false → b ≡ false
neither_right true b h = cc
neither_right false b h = h

both_empty : (w u v : Word) → w ≡ u ++ v → u ≡ [] → v ≡ [] → w ≡ []
both_empty w u v e p q = e ∙ ap (λ x. x ++ v) p ∙ q

powers_empty : (P : Word → Type 0) → ((w : Word) → P w → w ≡ []) → (n : ℕ) (w : Word) → Power P n w → w ≡ []
powers_empty P h zero w p = p
powers_empty P h (suc n) w (u, v, p, q, e) = both_empty w u v e (h u p) (powers_empty P h n v q)

-- a core without a letter position has no word but the empty one
pub weightless : (r : Core) → weight r ≡ 0 → (w : Word) → WordsOf r w → w ≡ []
weightless empty h w p = p
weightless (one passes) h w p = absurd (omega (arith, h))
weightless (cat a b) h w (u, v, p, q, e) =
    both_empty w u v e (weightless a (omega (arith, h)) u p) (weightless b (omega (arith, h)) v q)
weightless none h w p = absurd p
weightless (alt a b) h w (inl p) = weightless a (omega (arith, h)) w p
weightless (alt a b) h w (inr p) = weightless b (omega (arith, h)) w p
weightless (plus a) h w (u, v, p, (n, q), e) =
    both_empty w u v e (weightless a h u p) (powers_empty (WordsOf a) (weightless a h) n v q)
weightless (tidy a) h w p = weightless a h w p.0

module _ (r : Core) (light : weight r ≡ 0) where
  -- where it has the empty word
  pub weightless_empty : is_nullable r ≡ true → AreSame (WordsOf r) IsEmpty
  weightless_empty h = record {
    to = weightless r light;
    from = λ w e. let word = is_nullable_sound r h in rw e word;
  }

  -- where it has not
  pub weightless_none : is_nullable r ≡ false → AreSame (WordsOf r) IsNone
  weightless_none h = record {
    to = λ w p.
        let e = weightless r light w p in
        let word = rw e at p in
        let yes_it_is = is_nullable_complete r word in cc;
    from = λ w p. absurd p;
  }

module _ (rs ss : List Core) (r : Core) (light : weight r ≡ 0) where
  -- a child that has the empty word alone changes no sequence
  pub cat_all-leave_out : is_nullable r ≡ true → AreSame (WordsOf (cat_all rs)) (WordsOf (cat_all ss)) →
      AreSame (WordsOf (cat_all rs)) (WordsOf (cat_all (ss ++ r ∷ [])))
  cat_all-leave_out h same =
      AreSame-trans same
      (AreSame-sym (AreSame-trans (cat_all-push ss r)
      (AreSame-trans (Cat-same (AreSame-refl (WordsOf (cat_all ss))) (weightless_empty r light h)) (Cat-empty_right (WordsOf (cat_all ss))))))

-- the words of a core without a letter position
pub weightless_words : (r : Core) → weight r ≡ 0 → AreSame (WordsOf r) (EmptyIf (is_nullable r))
weightless_words r light = elim (bool_cases (is_nullable r)) [
  | inl h ↦ rw h (weightless_empty r light h)
  | inr h ↦ rw h (weightless_none r light h)
]

-- a sequence with a child that has no word has none
pub cat_all-none : (ns : List Node) (i : ℕ) (n : Node) → i < length ns → n ≡ get_or ns i n → AreSame (WordsOf (core_of n)) IsNone →
    AreSame (WordsOf (cat_all (map core_of ns))) IsNone
cat_all-none [] i n inside is empty_set = absurd (omega arith)
cat_all-none (m ∷ ns) zero n inside is empty_set = record {
  to = λ w (u, v, p, q, e). empty_set.to u (subst (λ k. WordsOf (core_of k) u) (sym is) p);
  from = λ w h. absurd h;
}
cat_all-none (m ∷ ns) (suc i) n inside is empty_set =
    let rest = cat_all-none ns i n (omega (arith, inside)) is empty_set in
    record {
      to = λ w (u, v, p, q, e). rest.to v q;
      from = λ w h. absurd h;
    }

-- words of a core without a letter position, that many times
module _ (r : Core) (light : weight r ≡ 0) (min : ℕ) (max : Option ℕ) (some : IsAtMost max min) where
  pub weightless_repeats : ((min == 0) || is_nullable r) ≡ true → AreSame IsEmpty (Repeats (WordsOf r) min max)
  weightless_repeats h = elim (or_cases (min == 0) (is_nullable r) h) [
    | inl none_needed ↦
        let e : min ≡ 0 = eqb-true min 0 none_needed in
        rw e (Repeats-left_out (WordsOf r) (weightless r light) max (rw e at some))
    | inr empty_too ↦ Repeats-empty (WordsOf r) min max some (weightless_empty r light empty_too)
  ]

  pub weightless_never : ((min == 0) || is_nullable r) ≡ false → AreSame IsNone (Repeats (WordsOf r) min max)
  weightless_never h =
      let e : (min == 0) ≡ false = neither_left (min == 0) (is_nullable r) h in
      Repeats-none (WordsOf r) min max some (omega (arith, eqb-false min 0 e)) (weightless_none r light (neither_right (min == 0) (is_nullable r) h))
