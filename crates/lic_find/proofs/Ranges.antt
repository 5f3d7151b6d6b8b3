-- The letters of the tokens of a range.
use Rattle.std.proofs.Common.{◌≡◌, ℕ, ◌+◌, ◌-◌, ◌<◌, ◌≤◌, List, [], ◌∷◌, ◌++◌, length, get_or, map, take, drop, ap, ◌∙◌, arith, length-drop, get_or-drop}
use Rattle.std.specs.List.{slice_range}
use Rattle.std.specs.Str.{chars}
use Rattle.std.proofs.lemmas.List.{take_more, map-append, drop-drop}
use Rattle.std.proofs.Math.Seq.{take-add}
use Rattle.lic_norm.specs.Tokens.{TokenValue}
use Rattle.lic_find.specs.Scans.{letters_up_to}

module _ {A : Type 0} (xs : List A) where
  pub slice_range-none : (a : ℕ) → slice_range xs a a ≡ []
  slice_range-none a = let e : a - a ≡ 0 = omega arith in ap (λ n. take n (drop a xs)) e

  pub slice_range-more : (a b : ℕ) (d : A) → a ≤ b → b < length xs → slice_range xs a (b + 1) ≡ slice_range xs a b ++ get_or xs b d ∷ []
  slice_range-more a b d order within =
      let count : (b + 1) - a ≡ (b - a) + 1 = omega arith in
      let short : b - a < length (drop a xs) = omega (arith, length-drop a xs) in
      let cursor : a + (b - a) ≡ b = omega arith in
      ap (λ n. take n (drop a xs)) count ∙ take_more (drop a xs) (b - a) d short
      ∙ ap (λ x. take (b - a) (drop a xs) ++ x ∷ []) (get_or-drop a xs (b - a) d ∙ ap (λ n. get_or xs n d) cursor)

  pub slice_range-split : (a b e : ℕ) → a ≤ b → b ≤ e → slice_range xs a e ≡ slice_range xs a b ++ slice_range xs b e
  slice_range-split a b e first last =
      let count : e - a ≡ (b - a) + (e - b) = omega arith in
      let cursor : a + (b - a) ≡ b = omega arith in
      ap (λ n. take n (drop a xs)) count ∙ take-add (b - a) (e - b) (drop a xs)
      ∙ ap (λ ys. take (b - a) (drop a xs) ++ take (e - b) ys) (drop-drop (b - a) a xs ∙ ap (λ n. drop n xs) cursor)

module _ (tokens : List TokenValue) where
  pub letters_up_to-none : (first : ℕ) → letters_up_to tokens first first ≡ []
  letters_up_to-none first = ap (λ xs. map (λ t. chars t.text) xs) (slice_range-none tokens first)

  -- one more token
  pub letters_up_to-more : (first last : ℕ) (d : TokenValue) → first ≤ last → last < length tokens →
      letters_up_to tokens first (last + 1) ≡ letters_up_to tokens first last ++ chars (get_or tokens last d).text ∷ []
  letters_up_to-more first last d order within =
      ap (λ xs. map (λ t. chars t.text) xs) (slice_range-more tokens first last d order within)
      ∙ map-append (λ t. chars t.text) (slice_range tokens first last) (get_or tokens last d ∷ [])

  pub letters_up_to-split : (first between end : ℕ) → first ≤ between → between ≤ end →
      letters_up_to tokens first end ≡ letters_up_to tokens first between ++ letters_up_to tokens between end
  letters_up_to-split first between end order within =
      ap (λ xs. map (λ t. chars t.text) xs) (slice_range-split tokens first between end order within)
      ∙ map-append (λ t. chars t.text) (slice_range tokens first between) (slice_range tokens between end)
