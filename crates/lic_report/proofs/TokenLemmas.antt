-- The text of a token, where it is in the canonical spelling.
use Rattle.std.proofs.Common.{◌≡◌, ℕ, ◌+◌, ◌-◌, ◌≤◌, ◌<◌, List, [], ◌++◌, length, take, drop, get_or, ap, ◌∙◌, arith, length-append, length-drop, take_all}
use Rattle.std.proofs.Math.Seq.{take-append_seam}
use Rattle.std.specs.List.{slice_range}
use Rattle.std.proofs.lemmas.List.{get_or-map}
use Rattle.lic_phrases.specs.Spelling.{spelled}
use Rattle.lic_norm.specs.Tokens.{TokenValue}
use Rattle.lic_norm.specs.Places.{place_end, place_start, texts_of}
use Rattle.lic_places.proofs.TieEnds.{bytes_from_start, place_end-start, place_end-order}
use Rattle.lic_places.proofs.TokenPlaces.{place_end-last}

module _ (tokens : List TokenValue) (i : ℕ) (d : TokenValue) (within : i < length tokens) where
  front : (after : List ℕ) × (drop (place_start tokens i) (spelled (texts_of tokens)) ≡ (get_or tokens i d).text ++ after)
  front =
      let from = bytes_from_start tokens i within in
      (from.0, from.1 ∙ ap (λ l. l ++ from.0) (get_or-map (λ (t : TokenValue). t.text) tokens i d [] within))

  -- it ends within the spelling
  pub end-fits : place_end tokens i ≤ length (spelled (texts_of tokens))
  end-fits =
      let order : place_end tokens i ≤ place_end tokens (i + (length tokens - (i + 1))) =
      place_end-order tokens i (length tokens - (i + 1)) (omega (arith, within)) in
      let last : place_end tokens (i + (length tokens - (i + 1))) ≡ length (spelled (texts_of tokens)) =
      place_end-last tokens (i + (length tokens - (i + 1))) (omega (arith, within)) in
      omega (arith, order, last)

  -- and begins within it
  pub start-fits : place_start tokens i ≤ length (spelled (texts_of tokens))
  start-fits =
      let e = place_end-start tokens i within in
      let last = end-fits in
      omega (arith, e, last)

  -- and has the bytes of its text
  pub text-long : place_end tokens i ≡ place_start tokens i + length (get_or tokens i d).text
  text-long =
      place_end-start tokens i within
      ∙ ap (λ l. place_start tokens i + length l) (get_or-map (λ (t : TokenValue). t.text) tokens i d [] within)

  -- the bytes from there on
  abbrev pub letters : List ℕ
  letters = take (length (spelled (texts_of tokens)) - place_start tokens i) (drop (place_start tokens i) (spelled (texts_of tokens)))

  letters-are : letters ≡ (get_or tokens i d).text ++ front.0
  letters-are =
      take_all (length (spelled (texts_of tokens)) - place_start tokens i) (drop (place_start tokens i) (spelled (texts_of tokens)))
      (let e = length-drop (place_start tokens i) (spelled (texts_of tokens)) in omega (arith, e))
      ∙ front.1

  pub text-fits : length (get_or tokens i d).text ≤ length letters
  text-fits =
      let e = ap length letters-are ∙ length-append (get_or tokens i d).text front.0 in
      omega (arith, e)

  pub text-taken : take (length (get_or tokens i d).text) letters ≡ (get_or tokens i d).text
  text-taken =
      ap (take (length (get_or tokens i d).text)) letters-are
      ∙ take-append_seam (get_or tokens i d).text front.0

  -- the same bytes, by where they begin and end
  pub text-range : slice_range (spelled (texts_of tokens)) (place_start tokens i) (place_end tokens i) ≡ (get_or tokens i d).text
  text-range =
      ap (λ n. take n (drop (place_start tokens i) (spelled (texts_of tokens)))) (let e = text-long in omega (arith, e))
      ∙ (ap (take (length (get_or tokens i d).text)) front.1
      ∙ take-append_seam (get_or tokens i d).text front.0)
