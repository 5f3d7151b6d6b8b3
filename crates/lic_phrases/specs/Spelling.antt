-- Canonical spelling: one blank between two letters of kind Word that belong to different tokens, and none elsewhere.
use Rattle.std.specs.Prelude.{ℕ, zero, suc, Bool, false, ◌&&◌, if◌then◌else◌, List, [], ◌∷◌, ◌++◌, reverse, slice_index_or}
use Rattle.std.specs.Str.{chars}
use Rattle.lic_kind.specs.Kinds.{kind_of, is_word_kind}

-- whether the first of these characters is a word character
abbrev pub first_is_word : List ℕ → Bool
first_is_word [] = false
first_is_word (c ∷ cs) = is_word_kind (kind_of c)

abbrev pub begins_in_word : List ℕ → Bool
begins_in_word text = first_is_word (chars text)

abbrev pub ends_in_word : List ℕ → Bool
ends_in_word text = first_is_word (reverse (chars text))

-- whether a blank is between two texts
abbrev pub is_parted : List ℕ → List ℕ → Bool
is_parted text next = ends_in_word text && begins_in_word next

abbrev pub blank_if : Bool → List ℕ
blank_if parted = if parted then 0x20 ∷ [] else []

-- these texts of tokens, in UTF-8, as one text
abbrev pub spelled : List (List ℕ) → List ℕ
spelled [] = []
spelled (text ∷ []) = text
spelled (text ∷ next ∷ texts) = text ++ (blank_if (is_parted text next) ++ spelled (next ∷ texts))

-- whether a blank comes before the text at this index
abbrev pub is_parted_at : List (List ℕ) → ℕ → Bool
is_parted_at texts zero = false
is_parted_at texts (suc k) = is_parted (slice_index_or texts k []) (slice_index_or texts (suc k) [])
