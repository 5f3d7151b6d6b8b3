-- The bytes of a character beyond ASCII, of which the first is known from the others.
use Rattle.std.proofs.Common.{◌≡◌, ◌⊎◌, ℕ, ◌+◌, ◌<◌, ◌≤◌, List, [], ◌∷◌, ◌++◌, inl, inr, sym, ◌∙◌, arith, subst}
use Rattle.std.specs.Prelude.{◌/◌, ◌%◌, encode_utf8_all, nat_lt}
use Rattle.std.specs.Char.{encode_utf8}
use Rattle.std.proofs.lemmas.Bool.{cases_lt, lt-ltb, le-ltb, cond-true, cond-false}
use Rattle.std.proofs.lemmas.Str.{encode_ascii}
use Rattle.std.proofs.Math.Utf8.{encode}

pub encoded_two : (c : ℕ) → 128 ≤ c → c < 2048 → encode_utf8 c ≡ (192 + c / 64) ∷ (128 + c % 64) ∷ []
unfolding encode
encoded_two c big small = cond-false (nat_lt c 128) _ _ (le-ltb c 128 big) ∙ cond-true (nat_lt c 2048) _ _ (lt-ltb c 2048 small)

pub encoded_three : (c : ℕ) → 2048 ≤ c → c < 65536 → encode_utf8 c ≡ (224 + c / 4096) ∷ (128 + c / 64 % 64) ∷ (128 + c % 64) ∷ []
unfolding encode
encoded_three c big small =
    cond-false (nat_lt c 128) _ _ (le-ltb c 128 (omega arith)) ∙ cond-false (nat_lt c 2048) _ _ (le-ltb c 2048 big)
    ∙ cond-true (nat_lt c 65536) _ _ (lt-ltb c 65536 small)

pub encoded_four : (c : ℕ) → 65536 ≤ c → encode_utf8 c ≡ (240 + c / 262144) ∷ (128 + c / 4096 % 64) ∷ (128 + c / 64 % 64) ∷ (128 + c % 64) ∷ []
unfolding encode
encoded_four c big =
    cond-false (nat_lt c 128) _ _ (le-ltb c 128 (omega arith)) ∙ cond-false (nat_lt c 2048) _ _ (le-ltb c 2048 (omega arith))
    ∙ cond-false (nat_lt c 65536) _ _ (le-ltb c 65536 big)

-- a text begins in a byte of ASCII or in the first byte of a character
abbrev pub Starts : List ℕ → Type 0
Starts [] = Unit {0}
Starts (b ∷ source) = (b < 128) ⊎ (192 ≤ b)

pub starts : (cs : List ℕ) → Starts (encode_utf8_all cs)
starts [] = tt
starts (c ∷ cs) = elim (cases_lt c 128) [
  | inl small ↦ subst (λ l. Starts (l ++ encode_utf8_all cs)) (sym (encode_ascii c small)) (inl small)
  | inr big ↦ elim (cases_lt c 2048) [
    | inl small ↦ subst (λ l. Starts (l ++ encode_utf8_all cs)) (sym (encoded_two c big small)) (inr (omega arith))
    | inr more ↦ elim (cases_lt c 65536) [
      | inl small ↦ subst (λ l. Starts (l ++ encode_utf8_all cs)) (sym (encoded_three c more small)) (inr (omega arith))
      | inr most ↦ subst (λ l. Starts (l ++ encode_utf8_all cs)) (sym (encoded_four c most)) (inr (omega arith))
    ]
  ]
]
