-- The table of letters has the one letter of each word character that it lists.
use Rattle.std.proofs.Common.{◌≡◌, ◌≢◌, ℕ, ◌<◌, Bool, true, ◌&&◌, ◌||◌, ◌==◌, List, [], ◌∷◌, slice_index_or, inl, inr, refl, sym, subst, ◌∙◌, eqb-true}
use Rattle.std.proofs.lemmas.Bool.{and_parts, or_cases}
use Rattle.ucd_table.proofs.Computing.{tables}
use Rattle.ucd_table.proofs.Facts.{tree_value-tree_of}
use Rattle.ucd_table.proofs.GroupsCheck.{same_string, same_string-true}
use Rattle.ucd_table.proofs.TrieCheck.{all_below, all_below-at}
use Rattle.ucd_case.specs.CaseFolding.{full_folding, or_itself}
use Rattle.ucd_case.proofs.CaseFoldingLemmas.{full_folding_stepped}
use Rattle.lic_kind.specs.declared.Kind.TheVariants.{Word}
use Rattle.lic_kind.specs.declared.word_letters.TheConstants.{LETTERS}
use Rattle.lic_kind.specs.Kinds.{kind_of, is_word_kind, spell}
use Rattle.lic_kind.proofs.FoldingLemmas.{default_case_fold-one}
use Rattle.lic_kind.proofs.KindLemmas.{is_word_kind-true}
use Rattle.lic_kind.proofs.WordFoldings.{spell-folding}

-- nothing is known of a character, or it is a word character with this letter alone
abbrev has_letter : ℕ → List ℕ → ℕ → Bool
has_letter c folding letter = (letter == 0) || (is_word_kind (kind_of c) && same_string (or_itself c folding) (letter ∷ []))

-- whether each entry is right by these foldings
abbrev are_right : (ℕ → List ℕ) → Bool
are_right folding = all_below (λ c. has_letter c (folding c) (slice_index_or LETTERS c 0)) 1424

-- computed for each entry, with the foldings in a tree
entries : are_right full_folding ≡ true
unfolding tables full_folding_stepped kind_of
entries = subst (λ f. are_right f ≡ true) (sym (tree_value-tree_of full_folding full_folding_stepped)) refl

pub listed_letters : (c : ℕ) → c < 1424 → slice_index_or LETTERS c 0 ≢ 0
    → (kind_of c ≡ Word) × (spell c ≡ slice_index_or LETTERS c 0 ∷ [])
listed_letters c below some =
    elim (or_cases _ _ (all_below-at (λ x. has_letter x (full_folding x) (slice_index_or LETTERS x 0)) 1424 c entries below)) [
      | inl none ↦ absurd (some (eqb-true _ _ none))
      | inr has ↦
          let parts = and_parts _ _ has in
          let word = is_word_kind-true (kind_of c) parts.0 in (
            word,
            spell-folding c word ∙ default_case_fold-one c ∙ same_string-true _ _ parts.1,
          )
    ]
