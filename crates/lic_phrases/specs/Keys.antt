-- A phrase as one text, by which it is looked up: each token's text, and a blank after it.
use Rattle.std.specs.Prelude.{◌≢◌, ℕ, List, [], ◌∷◌, ◌++◌, map, string_bytes, String}
use Rattle.std.specs.List.{flat_map}

-- the texts that the code holds
abbrev pub texts_in : {A : Type 0} → List (String A) → List (List ℕ)
texts_in texts = map (λ text. string_bytes text) texts

abbrev pub key_of : List (List ℕ) → List ℕ
key_of texts = flat_map (λ text. text ++ 0x20 ∷ []) texts

-- no byte of the text is a blank
abbrev pub HasNoBlank : List ℕ → Type 0
HasNoBlank [] = Unit {0}
HasNoBlank (b ∷ text) = (b ≢ 0x20) × HasNoBlank text

-- so of each of these texts
abbrev pub HaveNoBlank : List (List ℕ) → Type 0
HaveNoBlank [] = Unit {0}
HaveNoBlank (text ∷ texts) = HasNoBlank text × HaveNoBlank texts

-- so of each of these phrases
abbrev pub AreWithoutBlanks : List (List (List ℕ)) → Type 0
AreWithoutBlanks [] = Unit {0}
AreWithoutBlanks (phrase ∷ phrases) = HaveNoBlank phrase × AreWithoutBlanks phrases
