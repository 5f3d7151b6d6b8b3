-- Streaks of letters and blanks of any kind are tidy words of as many.
use Rattle.std.proofs.Common.{◌≡◌, ◌⊎◌, ◌↔◌, ℕ, ◌≤◌, true, false, Some, [], ◌∷◌, length, inl, inr, refl, sym, ap, arith, ◌∙◌}
use Rattle.lic_words.specs.Words.{Word}
use Rattle.lic_ere.specs.Trees.{Tree, node_tree, tree_of}
use Rattle.lic_ere.specs.declared.ere.Ere.{Ere-F, fold-roll-Ere}
use Rattle.lic_ere.specs.declared.ere.Ere.TheVariants.{Any, rolls-Any}
use Rattle.lic_reverse.specs.Passing.{passes_of}
use Rattle.lic_reverse.specs.Streaks.{AllPass, IsStreakTo}
use Rattle.lic_reverse.specs.Tidily.{IsTakenBack, a_blank, a_letter, nothing}
use Rattle.lic_reverse.proofs.CountWords.{Counted, IsCounted, counted-complete, counted-sound}
use Rattle.lic_reverse.proofs.TidyWords.{nothing-taken, taken-tidy, tidy-taken}

all-pass : (w : Word) → AllPass (λ _. true) w
all-pass [] = tt
all-pass (c ∷ w) = (refl, all-pass w)

letter-no_blank : a_letter ≡ a_blank → ⊥
letter-no_blank same = let e : a_letter ≡ a_blank = same in cc

pub streak-counted : (max : ℕ) (w : Word) → IsStreakTo (λ _. true) max false w ↔ Counted 1 (Some max) w
streak-counted max w = (λ h. counts h, λ h. streaks w (counted-sound 1 (Some max) w h))
  where
    counts : IsStreakTo (λ _. true) max false w → Counted 1 (Some max) w
    counts h = counted-complete 1 (Some max) w (record {
      least = let long = ap length h.0.is in omega arith;
      most = h.0.few;
      tidied = taken-tidy w a_letter letter-no_blank h.1;
    })

    streaks : (v : Word) → IsCounted 1 (Some max) v → IsStreakTo (λ _. true) max false v
    streaks [] c = absurd (let some : 1 ≤ 0 = c.least in omega arith)
    streaks (d ∷ v) c = (
      record {
        passing = all-pass (d ∷ v);
        few = c.most;
        first = d;
        later = v;
        dark = λ same. c.tidied.not_first v (ap (λ x. x ∷ v) same);
        is = refl;
      },
      by_taken (tidy-taken (d ∷ v) c.tidied),
    )
      where
        by_taken : IsTakenBack nothing (d ∷ v) nothing ⊎ IsTakenBack a_letter (d ∷ v) nothing → IsTakenBack a_letter (d ∷ v) nothing
        by_taken (inl none) = absurd (let long = ap length (nothing-taken (d ∷ v) nothing none).0 in omega arith)
        by_taken (inr taken) = taken

-- any letter passes
pub passes-any : passes_of (tree_of Any) ≡ (λ _. true)
passes-any = ap passes_of (ap tree_of (sym rolls-Any) ∙ fold-roll-Ere Tree node_tree Ere-F.Any)
