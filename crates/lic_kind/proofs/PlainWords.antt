-- Ranges in which all characters are word characters, and those in which each is its own letter.
use Rattle.std.proofs.Common.{◌≡◌, ℕ, Bool, true, false, not, ◌&&◌, ◌||◌, ◌==◌, List, [], ◌∷◌, inl, inr, refl, sym, ap, ap₂, ◌∙◌}
use Rattle.std.specs.Prelude.{nat_le}
use Rattle.std.specs.Int.{is_in_range}
use Rattle.std.proofs.Math.Dec.{leb-suc-suc}
use Rattle.std.proofs.lemmas.Bool.{false≢true, cases_Bool, not-true}
use Rattle.std.specs.Char.{is_whitespace}
use Rattle.ucd_table.proofs.Computing.{tables}
use Rattle.ucd_table.proofs.RangedFacts.{points_ok, Stepped-at_points}
use Rattle.ucd_case.specs.CaseFolding.{full_folding, or_itself}
use Rattle.ucd_case.proofs.CaseFoldingLemmas.{full_folding_stepped}
use Rattle.lic_kind.specs.declared.Kind.TheVariants.{Word}
use Rattle.lic_kind.specs.Kinds.{Entry, one, range, is_listed, dropped, ascii_punctuation, dashes, quotes, bullets, box_drawing, other_marks, is_dropped, is_mark, kind_of, spell}
use Rattle.lic_kind.specs.Ranges.{is_far_word, is_without_case}
use Rattle.lic_kind.proofs.FoldingLemmas.{default_case_fold-one}
use Rattle.lic_kind.proofs.KindLemmas.{fails_on, fails_on-listed, fails_on-marks, kind_of-none}
use Rattle.lic_kind.proofs.WordFoldings.{spell-folding}

-- ---- white space as a table

abbrev white : List Entry
white =
    range 9 13 ∷ one 32 ∷ one 133 ∷ one 160 ∷ one 5760 ∷ range 8192 8202 ∷ one 8232 ∷ one 8233 ∷ one 8239 ∷ one 8287
    ∷ one 12288 ∷ []

-- the same tests, bracketed from the other side
regrouped : (a b c d e f g h i j k : Bool) → ((((((((((a || b) || c) || d) || e) || f) || g) || h) || i) || j) || k) ≡ true
    → (a || (b || (c || (d || (e || (f || (g || (h || (i || (j || (k || false))))))))))) ≡ true
regrouped true b c d e f g h i j k is = refl
regrouped false true c d e f g h i j k is = refl
regrouped false false true d e f g h i j k is = refl
regrouped false false false true e f g h i j k is = refl
regrouped false false false false true f g h i j k is = refl
regrouped false false false false false true g h i j k is = refl
regrouped false false false false false false true h i j k is = refl
regrouped false false false false false false false true i j k is = refl
regrouped false false false false false false false false true j k is = refl
regrouped false false false false false false false false false true k is = refl
regrouped false false false false false false false false false false true is = refl
regrouped false false false false false false false false false false false is = is

-- the test of std, where two of its parts are these
abbrev white_by : Bool → Bool → ℕ → Bool
white_by low high c =
    ((((((((((low || c == 32) || c == 133) || c == 160) || c == 5760) || high) || c == 8232) || c == 8233) || c == 8239) || c == 8287) || c == 12288)

white-listed : (c : ℕ) → is_whitespace c ≡ true → is_listed white c ≡ true
white-listed c is =
    let same : is_whitespace c ≡ white_by (is_in_range 9 13 c) (is_in_range 8192 8202 c) c =
    ap₂ (λ low high. white_by (nat_le 9 c && low) (nat_le 8192 c && high) c) (leb-suc-suc c 13) (leb-suc-suc c 8202) in
    regrouped (is_in_range 9 13 c) (c == 32) (c == 133) (c == 160) (c == 5760) (is_in_range 8192 8202 c) (c == 8232) (c == 8233) (c == 8239) (c == 8287) (c == 12288)
    (sym same ∙ is)

-- ---- a test that fails at all dropped characters, white space and marks

module _ (p : ℕ → Bool) (drop : fails_on p dropped ≡ true) (light : fails_on p white ≡ true) (ascii : fails_on p ascii_punctuation ≡ true)
    (dash : fails_on p dashes ≡ true) (quote : fails_on p quotes ≡ true) (bullet : fails_on p bullets ≡ true)
    (box : fails_on p box_drawing ≡ true) (other : fails_on p other_marks ≡ true) where
  passes_nowhere : (test : Bool) (c : ℕ) → p c ≡ true → (test ≡ true → p c ≡ false) → test ≡ false
  passes_nowhere false c is fails = refl
  passes_nowhere true c is fails = absurd (false≢true (sym (fails refl) ∙ is))

  only_words : (c : ℕ) → p c ≡ true → kind_of c ≡ Word
  only_words c is =
      kind_of-none c
      (passes_nowhere (is_dropped c) c is (fails_on-listed p dropped c drop))
      (passes_nowhere (is_whitespace c) c is (λ h. fails_on-listed p white c light (white-listed c h)))
      (passes_nowhere (is_mark c) c is (fails_on-marks p ascii dash quote bullet box other c))

-- ---- the ranges

pub far_words : (c : ℕ) → is_far_word c ≡ true → kind_of c ≡ Word
far_words = only_words is_far_word refl refl refl refl refl refl refl refl

pub words_without_case : (c : ℕ) → is_without_case c ≡ true → kind_of c ≡ Word
words_without_case = only_words is_without_case refl refl refl refl refl refl refl refl

abbrev is_nothing : List ℕ → Bool
is_nothing [] = true
is_nothing (x ∷ xs) = false

nothing : (xs : List ℕ) → is_nothing xs ≡ true → xs ≡ []
nothing [] is = refl
nothing (x ∷ xs) is = absurd (false≢true is)

-- computed over the characters that have a mapping
folds_outside : (c : ℕ) → is_nothing (full_folding c) ≡ false → not (is_without_case c) ≡ true
unfolding tables points_ok full_folding_stepped
folds_outside = Stepped-at_points full_folding full_folding_stepped is_nothing (λ c v. not (is_without_case c)) refl

no_folding : (c : ℕ) → is_without_case c ≡ true → full_folding c ≡ []
no_folding c is =
    elim (cases_Bool (is_nothing (full_folding c))) [
      | inl none ↦ nothing (full_folding c) none
      | inr some ↦ absurd (false≢true (sym (not-true (is_without_case c) (folds_outside c some)) ∙ is))
    ]

pub letters_without_case : (c : ℕ) → is_without_case c ≡ true → spell c ≡ c ∷ []
letters_without_case c is =
    spell-folding c (words_without_case c is) ∙ default_case_fold-one c ∙ ap (or_itself c) (no_folding c is)
