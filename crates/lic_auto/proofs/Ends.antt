-- The ends of a list that is read from its end are the beginnings of the list.
use Rattle.std.proofs.Common.{◌≡◌, ◌⊎◌, inl, inr, ℕ, zero, suc, ◌-◌, ◌<◌, ◌≤◌, Bool, true, false, List, [], ◌∷◌, ◌++◌, length, take, drop, map, reverse, refl, sym, ap, ◌∙◌, subst, arith}
use Rattle.std.proofs.lemmas.Bool.{cases_lt}
use Rattle.std.proofs.lemmas.List.{reverse-append, length-reverse, length-map, map-append, take-append-drop, take_all, drop_all, length-drop}
use Rattle.std.proofs.Math.Logic.{⊎_elim, ∥∥₁_elim}
use Rattle.std.proofs.Math.Seq.{drop-append_seam}
use mathlib.Core.HLevel.{⊥_prop}
use Rattle.lic_words.specs.Expressions.{Expression}
use Rattle.lic_words.specs.Describing.{IsDescribed}
use Rattle.lic_words.specs.Reversal.{reversed_expression, reversed_tokens}
use Rattle.lic_words.proofs.Turned.{IsDescribed-reversed_tokens, reversed_tokens-IsDescribed}
use Rattle.lic_marks.specs.Deciding.{is_described}
use Rattle.lic_marks.proofs.Deciding.{is_described_sound, is_described_complete}
use Rattle.lic_marks.specs.Unanchored.{DescribesEnd}

reversed_tokens-append : (xs ys : List (List ℕ)) → reversed_tokens (xs ++ ys) ≡ reversed_tokens ys ++ reversed_tokens xs
reversed_tokens-append xs ys = ap reverse (map-append reverse xs ys) ∙ reverse-append (map reverse xs) (map reverse ys)

length-reversed_tokens : (ts : List (List ℕ)) → length (reversed_tokens ts) ≡ length ts
length-reversed_tokens ts = length-reverse (map reverse ts) ∙ length-map ts reverse

-- one token more in front is one more at the end of what is read
pub reversed_tokens-cons : (t : List ℕ) (ts : List (List ℕ)) → reversed_tokens (t ∷ ts) ≡ reversed_tokens ts ++ reverse t ∷ []
reversed_tokens-cons t ts = reversed_tokens-append (t ∷ []) ts

reversed_tokens-take : (n : ℕ) (ts : List (List ℕ)) → n ≤ length ts → reversed_tokens (take n ts) ≡ drop (length ts - n) (reversed_tokens ts)
reversed_tokens-take n ts within =
    let parts : reversed_tokens ts ≡ reversed_tokens (drop n ts) ++ reversed_tokens (take n ts) = ap reversed_tokens (sym (take-append-drop n ts)) ∙ reversed_tokens-append (take n ts) (drop n ts) in
    let size : length (reversed_tokens (drop n ts)) ≡ length ts - n = length-reversed_tokens (drop n ts) ∙ length-drop n ts in
    sym (drop-append_seam (reversed_tokens (drop n ts)) (reversed_tokens (take n ts)))
    ∙ ap (λ k. drop k (reversed_tokens (drop n ts) ++ reversed_tokens (take n ts))) size ∙ ap (drop (length ts - n)) (sym parts)

module _ (e : Expression) (ts : List (List ℕ)) where
  -- some beginning is described
  pub beginning-from_end : DescribesEnd (reversed_expression e) (reversed_tokens ts) → (n : ℕ) × IsDescribed e (take n ts)
  beginning-from_end (m, described) =
      ⊎_elim
      (λ (inside : m < length ts).
      let back : length ts - (length ts - m) ≡ m = omega arith in
      let same : drop m (reversed_tokens ts) ≡ reversed_tokens (take (length ts - m) ts) =
      ap (λ k. drop k (reversed_tokens ts)) (sym back) ∙ sym (reversed_tokens-take (length ts - m) ts (omega arith)) in
      (length ts - m, reversed_tokens-IsDescribed e (take (length ts - m) ts) (subst (IsDescribed (reversed_expression e)) same described)))
      (λ (outside : length ts ≤ m). absurd (described.0 (drop_all m (reversed_tokens ts) (omega (arith, length-reversed_tokens ts)))))
      (cases_lt m (length ts))

  pub end-from_beginning : (n : ℕ) → IsDescribed e (take n ts) → DescribesEnd (reversed_expression e) (reversed_tokens ts)
  end-from_beginning n described =
      ⊎_elim
      (λ (inside : n < length ts).
      (length ts - n, subst (IsDescribed (reversed_expression e)) (reversed_tokens-take n ts (omega arith)) (IsDescribed-reversed_tokens e (take n ts) described)))
      (λ (outside : length ts ≤ n). (zero, IsDescribed-reversed_tokens e ts (subst (IsDescribed e) (take_all n ts outside) described)))
      (cases_lt n (length ts))

-- whether some end is described
pub decide_end : (e : Expression) (ts : List (List ℕ)) → DescribesEnd e ts ⊎ ¬ (DescribesEnd e ts)
decide_end e [] = inr (λ (n, described). described.0 (drop_all n [] (omega arith)))
decide_end e (t ∷ ts) = by_whole (decide_end e ts) (is_described e (t ∷ ts)) refl
  where
    none : is_described e (t ∷ ts) ≡ false → ¬ (DescribesEnd e ts) → ¬ (DescribesEnd e (t ∷ ts))
    none fails rest (zero, described) = let passes : is_described e (t ∷ ts) ≡ true = is_described_complete e (t ∷ ts) described in cc
    none fails rest (suc n, described) = rest (n, described)

    by_whole : DescribesEnd e ts ⊎ ¬ (DescribesEnd e ts) → (b : Bool) → is_described e (t ∷ ts) ≡ b → DescribesEnd e (t ∷ ts) ⊎ ¬ (DescribesEnd e (t ∷ ts))
    by_whole later true is = inl (zero, is_described_sound e (t ∷ ts) is)
    by_whole later false is =
        ⊎_elim (λ (h : DescribesEnd e ts). let (n, described) = h in inl (suc n, described))
        (λ (no : ¬ (DescribesEnd e ts)). inr (none is no))
        later

pub untruncated_end : (e : Expression) (ts : List (List ℕ)) → ∥ DescribesEnd e ts ∥₁ → DescribesEnd e ts
untruncated_end e ts there =
    ⊎_elim (λ (is : DescribesEnd e ts). is) (λ (no : ¬ (DescribesEnd e ts)). absurd (∥∥₁_elim there ⊥_prop no)) (decide_end e ts)
