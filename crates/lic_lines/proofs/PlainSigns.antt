-- Tokens that are no sign and begin none.
use Rattle.std.proofs.Common.{◌≡◌, ℕ, ◌+◌, ◌<◌, Bool, true, false, ⊎_elim, List, [], ◌∷◌, ◌++◌, length, take, drop, get_or, refl, sym, ap, ◌∙◌, add-one, drop-cons, append_assoc}
use Rattle.std.specs.Prelude.{codes, ◌&&◌, not}
use Rattle.std.proofs.lemmas.Bool.{cases_Bool, cond-false, cond-true}
use Rattle.std.proofs.lemmas.List.{take_more, map-append}
use Rattle.lic_lines.specs.Tokens.{Token, is_text, is_sign_in_parentheses, sign_from, as_sign, single_signs, token_in, tokens_in}
use Rattle.lic_lines.specs.declared.tokens.FirstToken.{FirstToken}

pub plain_first : (t : Token) (ts : List Token) → is_text (codes "(") t ≡ false → as_sign t ≡ t → single_signs (t ∷ ts) ≡ t ∷ single_signs ts
plain_first t [] no_parenthesis same = ap (λ u. u ∷ []) same
plain_first t (b ∷ []) no_parenthesis same = ap (λ u. u ∷ as_sign b ∷ []) same
plain_first t (b ∷ c ∷ ts) no_parenthesis same =
    cond-false (is_sign_in_parentheses t b c) (sign_from t c ∷ single_signs ts) (as_sign t ∷ single_signs (b ∷ c ∷ ts))
    (ap (λ v. v && is_text (codes "c") b && not b.after_blank && is_text (codes ")") c && not c.after_blank) no_parenthesis)
    ∙ ap (λ u. u ∷ single_signs (b ∷ c ∷ ts)) same

-- one such token more
pub plain_step : (xs : List FirstToken) (at : ℕ) (d : FirstToken) → at < length xs → is_text (codes "(") (token_in (get_or xs at d)) ≡ false → as_sign (token_in (get_or xs at d)) ≡ token_in (get_or xs at d)
    → tokens_in (take (at + 1) xs) ++ single_signs (tokens_in (drop (at + 1) xs)) ≡ tokens_in (take at xs) ++ single_signs (tokens_in (drop at xs))
plain_step xs at d lt no_parenthesis same =
    let x = get_or xs at d in
    let front : take (at + 1) xs ≡ take at xs ++ x ∷ [] = take_more xs at d lt in
    let next : drop at xs ≡ x ∷ drop (at + 1) xs = rw (add-one, drop-cons xs at d) refl in
    let past = single_signs (tokens_in (drop (at + 1) xs)) in
    ap (λ l. tokens_in l ++ past) front
    ∙ ap (λ l. l ++ past) (map-append token_in (take at xs) (x ∷ []))
    ∙ append_assoc (tokens_in (take at xs)) (token_in x ∷ []) past
    ∙ ap (λ l. tokens_in (take at xs) ++ l)
    (sym (plain_first (token_in x) (tokens_in (drop (at + 1) xs)) no_parenthesis same)
    ∙ ap (λ l. single_signs (tokens_in l)) (sym next))

no_first : (a b c : Token) → is_text (codes "(") a ≡ false → is_sign_in_parentheses a b c ≡ false
no_first a b c none = ap (λ v. v && is_text (codes "c") b && not b.after_blank && is_text (codes ")") c && not c.after_blank) none

no_second : (a b c : Token) → is_text (codes "c") b ≡ false → is_sign_in_parentheses a b c ≡ false
no_second a b c none = at (is_text (codes "(") a)
  where
    past : Bool → Bool
    past v = v && not b.after_blank && is_text (codes ")") c && not c.after_blank

    at : (first : Bool) → (first && is_text (codes "c") b && not b.after_blank && is_text (codes ")") c && not c.after_blank) ≡ false
    at true = ap past none
    at false = refl

-- one token, or a sign of three
signs_step : (a b c : Token) (more front rest : List Token) → single_signs more ≡ single_signs front ++ single_signs rest
    → single_signs (b ∷ c ∷ more) ≡ single_signs (b ∷ c ∷ front) ++ single_signs rest
    → single_signs (a ∷ b ∷ c ∷ more) ≡ single_signs (a ∷ b ∷ c ∷ front) ++ single_signs rest
signs_step a b c more front rest after_sign after_token =
    ⊎_elim
    (λ yes.
    cond-true (is_sign_in_parentheses a b c) _ _ yes ∙ ap (λ l. sign_from a c ∷ l) after_sign
    ∙ ap (λ l. l ++ single_signs rest)
    (sym (cond-true (is_sign_in_parentheses a b c) (sign_from a c ∷ single_signs front)
    (as_sign a ∷ single_signs (b ∷ c ∷ front)) yes)))
    (λ none.
    cond-false (is_sign_in_parentheses a b c) _ _ none ∙ ap (λ l. as_sign a ∷ l) after_token
    ∙ ap (λ l. l ++ single_signs rest)
    (sym (cond-false (is_sign_in_parentheses a b c) (sign_from a c ∷ single_signs front)
    (as_sign a ∷ single_signs (b ∷ c ∷ front)) none)))
    (cases_Bool (is_sign_in_parentheses a b c))

-- a sign does not reach over a token that neither begins one nor is its letter
pub signs_apart : (xs : List Token) (x : Token) (ys : List Token) → is_text (codes "(") x ≡ false → is_text (codes "c") x ≡ false
    → single_signs ((xs ++ x ∷ []) ++ ys) ≡ single_signs (xs ++ x ∷ []) ++ single_signs ys
signs_apart [] x [] no_parenthesis no_letter = refl
signs_apart [] x (b ∷ []) no_parenthesis no_letter = refl
signs_apart [] x (b ∷ c ∷ ys) no_parenthesis no_letter = cond-false (is_sign_in_parentheses x b c) _ _ (no_first x b c no_parenthesis)
signs_apart (a ∷ []) x [] no_parenthesis no_letter = refl
signs_apart (a ∷ []) x (c ∷ ys) no_parenthesis no_letter =
    cond-false (is_sign_in_parentheses a x c) _ _ (no_second a x c no_letter)
    ∙ ap (λ l. as_sign a ∷ l) (signs_apart [] x (c ∷ ys) no_parenthesis no_letter)
signs_apart (a ∷ b ∷ []) x ys no_parenthesis no_letter =
    signs_step a b x ([] ++ ys) [] ys refl (signs_apart (b ∷ []) x ys no_parenthesis no_letter)
signs_apart (a ∷ b ∷ c ∷ xs) x ys no_parenthesis no_letter =
    signs_step a b c ((xs ++ x ∷ []) ++ ys) (xs ++ x ∷ []) ys (signs_apart xs x ys no_parenthesis no_letter)
    (signs_apart (b ∷ c ∷ xs) x ys no_parenthesis no_letter)
