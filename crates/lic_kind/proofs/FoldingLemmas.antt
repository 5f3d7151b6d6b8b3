-- The full case folding of one character.
use Rattle.std.proofs.Common.{◌≡◌, ℕ, ◌<◌, ◌≤◌, List, [], ◌∷◌, ◌++◌, length, Option, Some, sym, ap, subst, ◌∙◌, append-nil, arith}
use Rattle.std.specs.Iterator.{Yields, AlwaysYields}
use Rattle.ucd_case.specs.CaseFolding.{full_folding, full_fold, or_itself}
use Rattle.ucd_case.proofs.BoundLemmas.{length-full_folding}
use Rattle.caseless.specs.Caseless.{default_case_fold}
use Rattle.caseless.proofs.CaselessLemmas.{default_case_fold-cons, default_case_fold-nil}

pub default_case_fold-one : (c : ℕ) → default_case_fold (c ∷ []) ≡ full_fold c
default_case_fold-one c =
    default_case_fold-cons c [] ∙ ap (λ rest. full_fold c ++ rest) default_case_fold-nil ∙ append-nil (full_fold c)

or_itself-short : (c : ℕ) (xs : List ℕ) → length xs ≤ 3 → length (or_itself c xs) ≤ 3
or_itself-short c [] short = omega arith
or_itself-short c (x ∷ xs) short = short

pub length-folding : (c : ℕ) → length (default_case_fold (c ∷ [])) ≤ 3
length-folding c =
    let few : length (full_fold c) ≤ 3 = or_itself-short c (full_folding c) (length-full_folding c) in
    let same : length (default_case_fold (c ∷ [])) ≡ length (full_fold c) = ap length (default_case_fold-one c) in
    omega arith

-- where one more character came, those before it are not all
pub more_to_come : {I : Type 0} (steps : I → Option ℕ → I → Type 0) (s : I) (xs : List ℕ) (t : I) (x : ℕ) (u : I) (cs : List ℕ)
    → AlwaysYields steps (λ y. y) s cs → Yields steps s xs t → steps t (Some x) u → length xs < length cs
more_to_come steps s [] t x u [] spells run step = absurd (spells x u (subst (λ i. steps i (Some x) u) (sym run) step))
more_to_come steps s [] t x u (c ∷ cs) spells run step = omega arith
more_to_come steps s (y ∷ ys) t x u [] spells run step = absurd (spells y run.0 run.1)
more_to_come steps s (y ∷ ys) t x u (c ∷ cs) spells run step =
    omega (arith, more_to_come steps run.0 ys t x u cs (spells.1 y run.0 run.1).1 run.2 step)

or_itself-not_empty : (c : ℕ) (xs : List ℕ) → 0 < length (or_itself c xs)
or_itself-not_empty c [] = omega arith
or_itself-not_empty c (x ∷ xs) = omega arith

pub folding_is_not_empty : (c : ℕ) → 0 < length (default_case_fold (c ∷ []))
folding_is_not_empty c =
    let some : 0 < length (full_fold c) = or_itself-not_empty c (full_folding c) in
    let same : length (default_case_fold (c ∷ [])) ≡ length (full_fold c) = ap length (default_case_fold-one c) in
    omega arith
