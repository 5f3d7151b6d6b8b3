-- Tokens that are added to a list together.
use Rattle.std.proofs.Common.{◌≡◌, ℕ, List, ◌++◌, sym, subst}
use Rattle.lic_tokens.specs.Tokens.{TokenValue}
use Rattle.lic_tokens.specs.Entries.{AreSpelledAfter, Entry, IsKept, entry_values}
use Rattle.lic_tokens.proofs.EntryLemmas.{kept-values}

-- these tokens in the list
module _ (spelling spelling' bytes : List ℕ) (entries entries' more : List Entry) (before tokens : List TokenValue)
    (known : AreSpelledAfter before tokens bytes more) (kept : IsKept spelling entries (entry_values spelling 0 entries))
    (view : entry_values spelling 0 entries ≡ before) (grown : spelling' ≡ spelling ++ bytes) (added : entries' ≡ entries ++ more) where
  kept_after : IsKept spelling' entries' (before ++ tokens)
  kept_after =
      subst (λ s. IsKept s entries' (before ++ tokens)) (sym grown)
      (subst (λ es. IsKept (spelling ++ bytes) es (before ++ tokens)) (sym added)
      (known.kept spelling entries (subst (IsKept spelling entries) view kept)))

  pub values-added : entry_values spelling' 0 entries' ≡ before ++ tokens
  values-added = kept-values spelling' entries' (before ++ tokens) kept_after

  pub kept-added : IsKept spelling' entries' (entry_values spelling' 0 entries')
  kept-added = subst (IsKept spelling' entries') (sym values-added) kept_after
