-- The folding of a word character has word characters alone, in the tables of Unicode that the kit has.
use Rattle.std.proofs.Common.{◌≡◌, ℕ, ◌<◌, true, List, [], ◌∷◌, refl, ap, ◌∙◌}
use Rattle.std.proofs.lemmas.Bool.{and_from}
use Rattle.std.specs.Char.{to_ascii_lowercase}
use Rattle.ucd_table.proofs.Computing.{tables}
use Rattle.ucd_table.proofs.RangedFacts.{values_ok, Stepped-at_values}
use Rattle.ucd_case.specs.CaseFolding.{full_folding, or_itself}
use Rattle.ucd_case.proofs.CaseFoldingLemmas.{full_folding_stepped, full_fold-ascii}
use Rattle.caseless.specs.Caseless.{default_case_fold}
use Rattle.lic_kind.specs.declared.Kind.TheVariants.{Word}
use Rattle.lic_kind.specs.Kinds.{kind_of, is_word_kind, spell}
use Rattle.lic_kind.proofs.FoldingLemmas.{default_case_fold-one}
use Rattle.lic_kind.proofs.LetterLemmas.{are_words, folded_word-kept, spell-Blank, spell-Dropped, spell-Mark, spell-Word}

-- computed over each mapping of the table
full_folding-words : (c : ℕ) → are_words (full_folding c) ≡ true
unfolding tables values_ok full_folding_stepped kind_of
full_folding-words = Stepped-at_values full_folding full_folding_stepped are_words refl

or_itself-words : (c : ℕ) (xs : List ℕ) → kind_of c ≡ Word → are_words xs ≡ true → are_words (or_itself c xs) ≡ true
or_itself-words c [] is words = and_from _ _ (ap is_word_kind is) refl
or_itself-words c (x ∷ xs) is words = words

pub spell-folding : (c : ℕ) → kind_of c ≡ Word → spell c ≡ default_case_fold (c ∷ [])
spell-folding c is =
    spell-Word c is ∙ folded_word-kept c (default_case_fold (c ∷ []))
    (ap are_words (default_case_fold-one c) ∙ or_itself-words c (full_folding c) is (full_folding-words c))

pub spell-ascii : (c : ℕ) → kind_of c ≡ Word → c < 128 → spell c ≡ to_ascii_lowercase c ∷ []
spell-ascii c is ascii = spell-folding c is ∙ default_case_fold-one c ∙ full_fold-ascii c ascii

-- the letters of each kind
pub ruleset letter_rules = (spell-Blank, spell-Dropped, spell-Mark, spell-folding, spell-ascii)
