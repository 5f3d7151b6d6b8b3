use Rattle.std.proofs.Common.{◌≡◌, ℕ, ◌+◌, ◌<◌, ◌≤◌, [], ◌∷◌, ◌++◌, sym, ◌∙◌, subst, arith}
use Rattle.std.specs.List.{Contains}
use Rattle.std.proofs.lemmas.Bool.{cases_lt}
use Rattle.std.proofs.lemmas.List.{get_or_default}
use Rattle.std.proofs.lemmas.List.Elements.{Contains-push, Contains-append_left}
use Rattle.std.proofs.Math.Logic.{⊎_elim}
use Rattle.lic_set.specs.Rising.{IsRising}
use Rattle.lic_set.proofs.RisingLemmas.{IsRising-push}
use Rattle.lic_auto.proofs.chosen.all_numbers.Goals as goal

pub loop-number-preserved : goal.loop-number-preserved
loop-number-preserved c =
    let n = c.loop-number.number in
    let numbers = c.loop-number.numbers.items in
    let before = c.loop-number.invariant in
    let now = c.in_ok-push.ensures.items in
    let less : (x : ℕ) → Contains numbers x → x < n = λ x (i, inside, is).
    omega (arith, get_or_default numbers i 0 x inside ∙ is, before.rising.below i inside) in
    record {
      rising = subst (λ xs. IsRising xs (n + 1)) (sym now) (IsRising-push numbers n n (n + 1) before.rising (omega arith) less (omega arith));
      all = λ k less.
          subst (λ xs. Contains xs k) (sym now)
          (⊎_elim
          (λ (earlier : k < n). Contains-append_left numbers (n ∷ []) k (before.all k earlier))
          (λ (later : n ≤ k). let same : n ≡ k = omega arith in subst (Contains (numbers ++ n ∷ [])) same (Contains-push numbers n))
          (cases_lt k n));
    }
