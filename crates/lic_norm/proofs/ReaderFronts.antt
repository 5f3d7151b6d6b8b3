-- Lines at the start of bytes that are read together.
use Rattle.std.proofs.Common.{◌≡◌, ℕ, ◌+◌, ◌-◌, ◌≤◌, List, ◌++◌, length, take, drop, ap, subst, ◌∙◌, arith, length-drop, length-take, take-take}
use Rattle.std.specs.List.{slice_range}
use Rattle.lic_kind.specs.LineRules.{rules_of}
use Rattle.lic_lines.specs.Tokens.{Token}
use Rattle.lic_norm.specs.Feeding.{AreLines}
use Rattle.lic_norm.specs.Reading.{HasRead}
use Rattle.lic_rewriting.specs.Taking.{HasTaken}
use Rattle.lic_norm.specs.Tokens.{first_tokens_of}
use Rattle.lic_norm.specs.declared.reader.Reader.{Reader}
use Rattle.lic_norm.proofs.ReaderLemmas.{more_lines, read_on}
use Rattle.lic_norm.proofs.WholeLines.{more_bytes}

-- a reader that took lines at the start of the bytes up to an offset has read up to where they end
module _ (old new : Reader) (here : List ℕ) (end n : ℕ) (read : HasRead old) (same : here ≡ old.source.items) (within : end ≤ length old.source.items)
    (few : n ≤ length (slice_range here old.line_start end)) where
  abbrev front : List ℕ
  front = take n (slice_range here old.line_start end)

  pub end_within : old.line_start + n ≤ length old.source.items
  end_within =
      let at = old.line_start in
      omega (arith, few, length-take (end - at) (drop at here), length-drop at here, ap length same, read.within)

  front_is : front ≡ take n (drop old.line_start old.source.items)
  front_is =
      let at = old.line_start in
      take-take n (end - at) (drop at here) (omega (arith, few, length-take (end - at) (drop at here))) ∙ ap (λ l. take n (drop at l)) same

  pub read_front : new.rules.now ≡ old.rules.now → new.line_start ≡ old.line_start + n → new.source.items ≡ old.source.items → AreLines front
      → ((taken : List Token) → HasTaken old.rewriting taken
      → HasTaken new.rewriting (taken ++ first_tokens_of (rules_of old.rules.now) old.line_start front)) → HasRead new
  read_front rules start source lines taken =
      let at = old.line_start in
      let bytes = old.source.items in
      let before = first_tokens_of (rules_of old.rules.now) 0 (take at bytes) in
      let there : n ≡ at + n - at = omega arith in
      read_on old new (at + n) rules start source end_within
      (more_lines bytes at n read.lines (subst AreLines front_is lines))
      (subst (HasTaken new.rewriting)
      (ap (λ l. before ++ first_tokens_of (rules_of old.rules.now) at l) (front_is ∙ ap (λ k. take k (drop at bytes)) there)
      ∙ more_bytes (rules_of old.rules.now) bytes at (at + n) read.lines (omega arith) end_within)
      (taken before read.taken))
