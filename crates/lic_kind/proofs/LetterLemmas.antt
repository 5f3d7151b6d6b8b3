-- The letters of a character, kind by kind.
use Rattle.std.proofs.Common.{◌≡◌, ℕ, zero, suc, ◌<◌, Bool, true, false, if◌then◌else◌, List, [], ◌∷◌, length, inl, inr, All, get_or, refl, sym, ap, subst, ◌∙◌, arith}
use Rattle.std.proofs.lemmas.Bool.{cases_Bool}
use Rattle.std.proofs.lemmas.List.Sums.{AllPass-from_list_all}
use Rattle.std.specs.Char.{is_whitespace}
use Rattle.std.specs.List.{list_all}
use Rattle.caseless.specs.Caseless.{default_case_fold}
use Rattle.lic_kind.specs.declared.Kind.{Kind}
use Rattle.lic_kind.specs.declared.Kind.TheVariants.{Blank, Dropped, Mark, Word}
use Rattle.lic_kind.specs.Kinds.{is_dash, is_quote, kind_of, is_word_kind, letter_of, folded_word, letters, spell}
use Rattle.lic_kind.proofs.FoldingLemmas.{folding_is_not_empty}
use Rattle.lic_kind.proofs.KindLemmas.{kind_of-dash, kind_of-quote, is_dash-quote, is_whitespace-Word, is_word_kind-true}

spell-kind : (c : ℕ) (kind : Kind) → kind_of c ≡ kind → spell c ≡ letters kind c
unfolding spell
spell-kind c kind is = ap (λ k. letters k c) is

pub spell-Blank : (c : ℕ) → kind_of c ≡ Blank → spell c ≡ 0x20 ∷ []
spell-Blank c is = spell-kind c Blank is

pub spell-Dropped : (c : ℕ) → kind_of c ≡ Dropped → spell c ≡ []
spell-Dropped c is = spell-kind c Dropped is

pub spell-Mark : (c : ℕ) → kind_of c ≡ Mark → spell c ≡ letter_of c ∷ []
spell-Mark c is = spell-kind c Mark is

pub spell-Word : (c : ℕ) → kind_of c ≡ Word → spell c ≡ folded_word c (default_case_fold (c ∷ []))
spell-Word c is = spell-kind c Word is

-- ---- marks

abbrev letter_choice : Bool → Bool → ℕ → ℕ
letter_choice dash quote c = if dash then 0x2D else (if quote then 0x27 else c)

letter_of-dash : (c : ℕ) → is_dash c ≡ true → letter_of c ≡ 0x2D
letter_of-dash c dash = ap (λ b. letter_choice b (is_quote c) c) dash

letter_of-quote : (c : ℕ) → is_quote c ≡ true → letter_of c ≡ 0x27
letter_of-quote c quote = ap (λ b. letter_choice b (is_quote c) c) (is_dash-quote c quote) ∙ ap (λ b. letter_choice false b c) quote

letter_of-other : (c : ℕ) → is_dash c ≡ false → is_quote c ≡ false → letter_of c ≡ c
letter_of-other c dash quote = ap (λ b. letter_choice b (is_quote c) c) dash ∙ ap (λ b. letter_choice false b c) quote

pub spell-dash : (c : ℕ) → is_dash c ≡ true → spell c ≡ 0x2D ∷ []
spell-dash c dash = spell-Mark c (kind_of-dash c dash) ∙ ap (λ d. d ∷ []) (letter_of-dash c dash)

pub spell-quote : (c : ℕ) → is_quote c ≡ true → spell c ≡ 0x27 ∷ []
spell-quote c quote = spell-Mark c (kind_of-quote c quote) ∙ ap (λ d. d ∷ []) (letter_of-quote c quote)

pub spell-other_mark : (c : ℕ) → kind_of c ≡ Mark → is_dash c ≡ false → is_quote c ≡ false → spell c ≡ c ∷ []
spell-other_mark c is dash quote = spell-Mark c is ∙ ap (λ d. d ∷ []) (letter_of-other c dash quote)

All-one : (P : ℕ → Type 0) (c : ℕ) → P c → All P (c ∷ [])
All-one P c h zero d lt = h
All-one P c h (suc k) d lt = absurd (omega arith)

kind_of-letter_of : (c : ℕ) → kind_of c ≡ Mark → kind_of (letter_of c) ≡ Mark
unfolding is_dash is_quote
kind_of-letter_of c is =
    elim (cases_Bool (is_dash c)) [
      | inl dash ↦ ap kind_of (letter_of-dash c dash) ∙ kind_of-dash 0x2D refl
      | inr no_dash ↦ elim (cases_Bool (is_quote c)) [
        | inl quote ↦ ap kind_of (letter_of-quote c quote) ∙ kind_of-quote 0x27 refl
        | inr no_quote ↦ ap kind_of (letter_of-other c no_dash no_quote) ∙ is
      ]
    ]

pub mark_letters : (c : ℕ) → kind_of c ≡ Mark → All (λ d. kind_of d ≡ Mark) (spell c)
mark_letters c is =
    subst (All (λ d. kind_of d ≡ Mark)) (sym (spell-Mark c is)) (All-one (λ d. kind_of d ≡ Mark) (letter_of c) (kind_of-letter_of c is))

-- ---- word characters

abbrev pub are_words : List ℕ → Bool
are_words = list_all (λ d. is_word_kind (kind_of d))

pub folded_word-kept : (c : ℕ) (folding : List ℕ) → are_words folding ≡ true → folded_word c folding ≡ folding
folded_word-kept c folding words = ap (λ b. if b then folding else c ∷ []) words

folded_word-itself : (c : ℕ) (folding : List ℕ) → are_words folding ≡ false → folded_word c folding ≡ c ∷ []
folded_word-itself c folding words = ap (λ b. if b then folding else c ∷ []) words

words_of : (ds : List ℕ) → are_words ds ≡ true → All (λ d. kind_of d ≡ Word) ds
words_of ds words = λ k d lt. is_word_kind-true (kind_of (get_or ds k d)) (AllPass-from_list_all (λ e. is_word_kind (kind_of e)) ds words k d lt)

folded_word-words : (c : ℕ) (folding : List ℕ) → kind_of c ≡ Word → All (λ d. kind_of d ≡ Word) (folded_word c folding)
folded_word-words c folding is =
    elim (cases_Bool (are_words folding)) [
      | inl words ↦ subst (All (λ d. kind_of d ≡ Word)) (sym (folded_word-kept c folding words)) (words_of folding words)
      | inr others ↦ subst (All (λ d. kind_of d ≡ Word)) (sym (folded_word-itself c folding others)) (All-one (λ d. kind_of d ≡ Word) c is)
    ]

folded_word-not_empty : (c : ℕ) (folding : List ℕ) → 0 < length folding → 0 < length (folded_word c folding)
folded_word-not_empty c folding some =
    elim (cases_Bool (are_words folding)) [
      | inl words ↦ subst (λ ds. 0 < length ds) (sym (folded_word-kept c folding words)) some
      | inr others ↦ subst (λ ds. 0 < length ds) (sym (folded_word-itself c folding others)) (omega arith)
    ]

pub word_letters : (c : ℕ) → kind_of c ≡ Word → All (λ d. kind_of d ≡ Word) (spell c)
word_letters c is =
    subst (All (λ d. kind_of d ≡ Word)) (sym (spell-Word c is)) (folded_word-words c (default_case_fold (c ∷ [])) is)

pub word_letters_are_not_white : (c : ℕ) → kind_of c ≡ Word → All (λ d. is_whitespace d ≡ false) (spell c)
word_letters_are_not_white c is = λ k d lt. is_whitespace-Word (get_or (spell c) k d) (word_letters c is k d lt)

pub word_has_letters : (c : ℕ) → kind_of c ≡ Word → 0 < length (spell c)
word_has_letters c is =
    subst (λ ds. 0 < length ds) (sym (spell-Word c is)) (folded_word-not_empty c (default_case_fold (c ∷ [])) (folding_is_not_empty c))
