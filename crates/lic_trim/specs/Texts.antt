-- Words on texts, as lists of any kind: sequences of pieces, the longest prefix and end that pass, parts and groups.
use Rattle.std.specs.Prelude.{◌≡◌, ℕ, zero, suc, ◌-◌, Bool, true, false, ◌&&◌, ◌||◌, if◌then◌else◌, List, [], ◌∷◌, ◌++◌, length, take, drop, reverse, IsTrue}
use Rattle.std.specs.List.{list_all, flat_map, onto_first}

-- a text is a sequence of pieces: pieces of this kind, joined end to end, none of them at all included
abbrev pub IsSequence : {A : Type 0} → (List A → Bool) → List A → Type 0
IsSequence {A} is_piece text = (pieces : List (List A)) × IsTrue (list_all is_piece pieces)
    × (flat_map (λ piece. piece) pieces ≡ text)

abbrev pub is_empty : {A : Type 0} → List A → Bool
is_empty [] = true
is_empty (x ∷ xs) = false

-- whether `front ++ text` is a sequence whose first piece is longer than `front`; of no text, whether `front` is empty
abbrev pub is_sequence_after : {A : Type 0} → (List A → Bool) → List A → List A → Bool
is_sequence_after is_piece front [] = is_empty front
is_sequence_after is_piece front (c ∷ text) =
    (is_piece (front ++ c ∷ []) && is_sequence_after is_piece [] text) || is_sequence_after is_piece (front ++ c ∷ []) text

-- the test that computes `IsSequence`
abbrev pub is_sequence : {A : Type 0} → (List A → Bool) → List A → Bool
is_sequence is_piece text = is_sequence_after is_piece [] text

-- the greatest number up to n that passes, or 0
abbrev pub greatest : (ℕ → Bool) → ℕ → ℕ
greatest test zero = zero
greatest test (suc n) = if test (suc n) then suc n else greatest test n

-- how long the longest prefix is that passes, or 0
abbrev pub longest_front : {A : Type 0} → (List A → Bool) → List A → ℕ
longest_front test text = greatest (λ n. test (take n text)) (length text)

-- how long the longest end is that passes, or 0
abbrev pub longest_end : {A : Type 0} → (List A → Bool) → List A → ℕ
longest_end test text = greatest (λ n. test (drop (length text - n) text)) (length text)

-- the parts after each element that ends one; what follows the last such is a part if it is not empty
abbrev pub cut_after : {A : Type 0} → (A → Bool) → List A → List (List A)
cut_after ends [] = []
cut_after ends (x ∷ xs) = if ends x then (x ∷ []) ∷ cut_after ends xs else onto_first x (cut_after ends xs)

-- an element joins the first group where it belongs together with that group's first, and else is a group of its own
abbrev pub join_group : {A : Type 0} → (A → A → Bool) → A → List (List A) → List (List A)
join_group together x [] = (x ∷ []) ∷ []
join_group together x ([] ∷ groups) = (x ∷ []) ∷ [] ∷ groups
join_group together x ((y ∷ group) ∷ groups) =
    if together x y then (x ∷ y ∷ group) ∷ groups else (x ∷ []) ∷ (y ∷ group) ∷ groups

-- the longest streaks of neighbours that belong together
abbrev pub groups : {A : Type 0} → (A → A → Bool) → List A → List (List A)
groups together [] = []
groups together (x ∷ xs) = join_group together x (groups together xs)

-- whether the last element passes one test, and the elements before it another
abbrev pub ends_in : {A : Type 0} → (A → Bool) → (List A → Bool) → List A → Bool
ends_in last before text = elim (reverse text) [ [] ↦ false | c ∷ rest ↦ last c && before (reverse rest) ]
