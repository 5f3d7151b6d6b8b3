-- What a line end cuts: streaks and first tokens of a text are those before it and those after it.
use Rattle.std.proofs.Common.{◌≡◌, Bool, true, false, cond, List, [], ◌∷◌, ◌++◌, refl, ap, ◌∙◌}
use Rattle.std.specs.List.{flat_map}
use Rattle.std.proofs.lemmas.List.Concat.{flat_map-append}
use Rattle.lic_trim.specs.Texts.{groups}
use Rattle.lic_lines.specs.Cells.{Cell, Blank, Mark, Word}
use Rattle.lic_kind.specs.LineRules.{LineRules}
use Rattle.lic_lines.specs.Streaks.{same_mark, same_family, without_separator, without_separators, joined, with_joined, streaks_joined}
use Rattle.lic_lines.specs.Tokens.{both_words, token_of, tokens_from, first_tokens}
use Rattle.lic_lines.proofs.GroupLemmas.{groups_alone}

abbrev pub is_word : Cell → Bool
is_word Blank = false
is_word (Mark s) = false
is_word (Word s) = true

abbrev pub is_mark : Cell → Bool
is_mark Blank = false
is_mark (Mark s) = true
is_mark (Word s) = false

no_mark_after : (x y : Cell) → is_mark x ≡ false → same_mark x y ≡ false
no_mark_after Blank y h = refl
no_mark_after (Mark s) y h = cc
no_mark_after (Word s) y h = refl

pub no_mark_before : (x y : Cell) → is_mark x ≡ false → same_mark y x ≡ false
no_mark_before x Blank h = refl
no_mark_before x (Word t) h = refl
no_mark_before Blank (Mark t) h = refl
no_mark_before (Mark s) (Mark t) h = cc
no_mark_before (Word s) (Mark t) h = refl

no_family_after : (x y : Cell) → is_mark x ≡ false → same_family x y ≡ false
no_family_after Blank y h = refl
no_family_after (Mark s) y h = cc
no_family_after (Word s) y h = refl

pub no_family_before : (x y : Cell) → is_mark x ≡ false → same_family y x ≡ false
no_family_before x Blank h = refl
no_family_before x (Word t) h = refl
no_family_before Blank (Mark t) h = refl
no_family_before (Mark s) (Mark t) h = cc
no_family_before (Word s) (Mark t) h = refl

without_separator-one : (x : Cell) → without_separator (x ∷ []) ≡ x ∷ []
without_separator-one Blank = refl
without_separator-one (Mark s) = refl
without_separator-one (Word s) = refl

joined-one : (x : Cell) → joined (x ∷ []) ≡ x ∷ []
joined-one Blank = refl
joined-one (Mark s) = refl
joined-one (Word s) = refl

-- what is no mark is in no streak, and cuts the list
pub without_separators-at : (xs : List Cell) (x : Cell) (ys : List Cell) → is_mark x ≡ false
    → without_separators (xs ++ x ∷ ys) ≡ without_separators xs ++ x ∷ without_separators ys
without_separators-at xs x ys no_mark =
    ap (flat_map without_separator) (groups_alone same_mark xs x ys (λ y. no_mark_after x y no_mark) (λ y. no_mark_before x y no_mark))
    ∙ flat_map-append without_separator (groups same_mark xs) ((x ∷ []) ∷ groups same_mark ys)
    ∙ ap (λ l. without_separators xs ++ (l ++ without_separators ys)) (without_separator-one x)

pub with_joined-at : (xs : List Cell) (x : Cell) (ys : List Cell) → is_mark x ≡ false → with_joined (xs ++ x ∷ ys) ≡ with_joined xs ++ x ∷ with_joined ys
with_joined-at xs x ys no_mark =
    ap (flat_map joined) (groups_alone same_family xs x ys (λ y. no_family_after x y no_mark) (λ y. no_family_before x y no_mark))
    ∙ flat_map-append joined (groups same_family xs) ((x ∷ []) ∷ groups same_family ys)
    ∙ ap (λ l. with_joined xs ++ (l ++ with_joined ys)) (joined-one x)

pub streaks_joined-at : (rules : LineRules) (xs : List Cell) (x : Cell) (ys : List Cell) → is_mark x ≡ false
    → streaks_joined rules (xs ++ x ∷ ys) ≡ streaks_joined rules xs ++ x ∷ streaks_joined rules ys
streaks_joined-at rules xs x ys no_mark = at rules.separators
  where
    at : (b : Bool) → with_joined (cond b (without_separators (xs ++ x ∷ ys)) (xs ++ x ∷ ys))
        ≡ with_joined (cond b (without_separators xs) xs) ++ x ∷ with_joined (cond b (without_separators ys) ys)
    at true = ap with_joined (without_separators-at xs x ys no_mark) ∙ with_joined-at (without_separators xs) x (without_separators ys) no_mark
    at false = with_joined-at xs x ys no_mark

pub streaks_joined-gap : (rules : LineRules) (xs ys : List Cell) → streaks_joined rules (xs ++ Blank ∷ ys) ≡ streaks_joined rules xs ++ Blank ∷ streaks_joined rules ys
streaks_joined-gap rules xs ys = streaks_joined-at rules xs Blank ys refl

no_letter_before : (c : Cell) → both_words c Blank ≡ false
no_letter_before Blank = refl
no_letter_before (Mark s) = refl
no_letter_before (Word s) = refl

tokens_from-gap : (after_blank : Bool) (gs hs : List (List Cell))
    → tokens_from after_blank (gs ++ (Blank ∷ []) ∷ hs) ≡ tokens_from after_blank gs ++ tokens_from true hs
tokens_from-gap after_blank [] hs = refl
tokens_from-gap after_blank ([] ∷ gs) hs = tokens_from-gap after_blank gs hs
tokens_from-gap after_blank ((Blank ∷ cells) ∷ gs) hs = tokens_from-gap true gs hs
tokens_from-gap after_blank ((Mark s ∷ cells) ∷ gs) hs = ap (λ l. token_of after_blank s (Mark s ∷ cells) ∷ l) (tokens_from-gap false gs hs)
tokens_from-gap after_blank ((Word s ∷ cells) ∷ gs) hs = ap (λ l. token_of after_blank s (Word s ∷ cells) ∷ l) (tokens_from-gap false gs hs)

pub first_tokens-gap : (xs ys : List Cell) → first_tokens (xs ++ Blank ∷ ys) ≡ first_tokens xs ++ first_tokens ys
first_tokens-gap xs ys =
    ap (tokens_from true) (groups_alone both_words xs Blank ys (λ y. refl) no_letter_before)
    ∙ tokens_from-gap true (groups both_words xs) (groups both_words ys)

pub no_streaks : (rules : LineRules) → streaks_joined rules [] ≡ []
no_streaks rules = at rules.separators
  where
    at : (b : Bool) → with_joined (cond b (without_separators []) []) ≡ []
    at true = refl
    at false = refl
