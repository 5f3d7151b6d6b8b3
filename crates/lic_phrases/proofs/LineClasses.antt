-- The phrases of a line, one more at a time.
use Rattle.std.proofs.Common.{◌≡◌, ℕ, zero, suc, ◌+◌, ◌<◌, ◌≤◌, List, [], ◌∷◌, ◌++◌, length, get_or, take, refl, sym, subst, arith, length-take}
use Rattle.std.proofs.lemmas.Grind.{common_steps}
use Rattle.std.specs.List.{Contains}
use Rattle.lic_phrases.specs.Classes.{AreRepresentatives, classes_joined}
use Rattle.lic_phrases.proofs.ClassLemmas.{next_phrase, first_phrase}

take_one : (xs : List ℕ) → 0 < length xs → take 1 xs ≡ get_or xs 0 0 ∷ []
take_one [] h = absurd (omega arith)
take_one (x ∷ xs) h = refl

take_more : (xs : List ℕ) (k : ℕ) → k < length xs → take (k + 1) xs ≡ take k xs ++ get_or xs k 0 ∷ []
take_more xs k h = grind (arith, common_steps)

has_first : (xs : List ℕ) (k : ℕ) → 0 < k → k ≤ length xs → Contains (take k xs) (get_or xs 0 0)
has_first [] k some within = absurd (omega arith)
has_first (x ∷ xs) zero some within = absurd (omega arith)
has_first (x ∷ xs) (suc k) some within = (0, omega (arith, length-take (suc k) (x ∷ xs)), refl)

pub line_begun : (lines : List (List ℕ)) (heads line : List ℕ) → 0 < length line → get_or line 0 0 < length heads
    → AreRepresentatives (lines ++ [] ∷ []) heads → AreRepresentatives (lines ++ take 1 line ∷ []) heads
line_begun lines heads line some within known =
    subst (λ l. AreRepresentatives (lines ++ l ∷ []) heads) (sym (take_one line some))
    (first_phrase lines heads (get_or line 0 0) known within)

pub line_continues : (lines : List (List ℕ)) (heads line : List ℕ) (k : ℕ) → 0 < k → k < length line → get_or line k 0 < length heads
    → AreRepresentatives (lines ++ take k line ∷ []) heads → AreRepresentatives (lines ++ take (k + 1) line ∷ []) (classes_joined heads (get_or line 0 0) (get_or line k 0))
line_continues lines heads line k some within bound known =
    subst (λ l. AreRepresentatives (lines ++ l ∷ []) (classes_joined heads (get_or line 0 0) (get_or line k 0))) (sym (take_more line k within))
    (next_phrase lines (take k line) heads (get_or line 0 0) (get_or line k 0) known (has_first line k some (omega arith)) bound)
