-- Sequences of signs, token by token.
use Rattle.std.proofs.Common.{◌≡◌, ◌&&◌, true, false, List, [], ◌∷◌, refl, sym, ap, ◌∙◌, ⊎_elim}
use Rattle.std.specs.List.{flat_map}
use Rattle.std.proofs.lemmas.Bool.{cases_Bool, cond-true, cond-false, and_parts}
use Rattle.lic_trim.specs.Texts.{groups, join_group}
use Rattle.lic_lines.specs.Tokens.{Token}
use Rattle.lic_phrases.specs.Rewriting.{is_sign, both_signs, sign_of_sequence, sign_sequences}
use Rattle.lic_phrases.proofs.GroupLemmas.{groups-head}

-- a token that reaches to the end of the next
abbrev reaching : Token → Token → Token
reaching a b = record a { end = b.end }

merge_groups : (a b : Token) (gs : List (List Token)) → both_signs a b ≡ true
    → ((y : Token) → both_signs (reaching a b) y ≡ both_signs b y)
    → flat_map sign_of_sequence (join_group both_signs a (join_group both_signs b gs))
    ≡ flat_map sign_of_sequence (join_group both_signs (reaching a b) gs)
merge_groups a b [] signs same = ap (flat_map sign_of_sequence) (cond-true (both_signs a b) ((a ∷ b ∷ []) ∷ []) ((a ∷ []) ∷ (b ∷ []) ∷ []) signs)
merge_groups a b ([] ∷ gs) signs same = ap (flat_map sign_of_sequence) (cond-true (both_signs a b) ((a ∷ b ∷ []) ∷ [] ∷ gs) ((a ∷ []) ∷ (b ∷ []) ∷ [] ∷ gs) signs)
merge_groups a b ((y ∷ g) ∷ gs) signs same =
    ⊎_elim
    (λ joins.
    ap (λ l. flat_map sign_of_sequence (join_group both_signs a l)) (cond-true (both_signs b y) ((b ∷ y ∷ g) ∷ gs) ((b ∷ []) ∷ (y ∷ g) ∷ gs) joins)
    ∙ ap (flat_map sign_of_sequence) (cond-true (both_signs a b) ((a ∷ b ∷ y ∷ g) ∷ gs) ((a ∷ []) ∷ (b ∷ y ∷ g) ∷ gs) signs)
    ∙ ap (flat_map sign_of_sequence) (sym
    (cond-true (both_signs (reaching a b) y) ((reaching a b ∷ y ∷ g) ∷ gs) ((reaching a b ∷ []) ∷ (y ∷ g) ∷ gs)
    (same y ∙ joins))))
    (λ alone.
    ap (λ l. flat_map sign_of_sequence (join_group both_signs a l)) (cond-false (both_signs b y) ((b ∷ y ∷ g) ∷ gs) ((b ∷ []) ∷ (y ∷ g) ∷ gs) alone)
    ∙ ap (flat_map sign_of_sequence) (cond-true (both_signs a b) ((a ∷ b ∷ []) ∷ (y ∷ g) ∷ gs) ((a ∷ []) ∷ (b ∷ []) ∷ (y ∷ g) ∷ gs) signs)
    ∙ ap (flat_map sign_of_sequence) (sym
    (cond-false (both_signs (reaching a b) y) ((reaching a b ∷ y ∷ g) ∷ gs)
    ((reaching a b ∷ []) ∷ (y ∷ g) ∷ gs) (same y ∙ alone))))
    (cases_Bool (both_signs b y))

-- a sign and the sign after it are as one that reaches over both
pub sign_sequences-merge : (a b : Token) (rest : List Token) → both_signs a b ≡ true → sign_sequences (a ∷ b ∷ rest) ≡ sign_sequences (record a { end = b.end } ∷ rest)
sign_sequences-merge a b rest signs =
    let parts = and_parts (is_sign a) (is_sign b) signs in
    merge_groups a b (groups both_signs rest) signs (λ y. ap (λ v. v && is_sign y) (parts.0 ∙ sym parts.1))

-- a token before one that is no sign together with it is settled
pub sign_sequences-settled : (a b : Token) (rest : List Token) → both_signs a b ≡ false → sign_sequences (a ∷ b ∷ rest) ≡ a ∷ sign_sequences (b ∷ rest)
sign_sequences-settled a b rest apart =
    let head = groups-head both_signs b rest in
    ap (λ l. flat_map sign_of_sequence (join_group both_signs a l)) head.2
    ∙ ap (flat_map sign_of_sequence) (cond-false (both_signs a b) ((a ∷ b ∷ head.0) ∷ head.1) ((a ∷ []) ∷ (b ∷ head.0) ∷ head.1) apart)
    ∙ ap (λ l. a ∷ flat_map sign_of_sequence l) (sym head.2)

-- a token that is no sign is a sequence of its own
pub sign_sequences-other : (a : Token) (rest : List Token) → is_sign a ≡ false → sign_sequences (a ∷ rest) ≡ a ∷ sign_sequences rest
sign_sequences-other a [] other = refl
sign_sequences-other a (b ∷ rest) other = sign_sequences-settled a b rest (ap (λ v. v && is_sign b) other)
