-- Texts of which no byte is escaped.
use Rattle.std.proofs.Common.{◌≡◌, ℕ, zero, suc, ◌+◌, ◌-◌, ◌≤◌, ◌<◌, ◌⊎◌, inl, inr, List, [], ◌∷◌, length, take, drop, get_or, ap, ◌∙◌, subst, arith}
use Rattle.std.proofs.lemmas.Bool.{cases_lt}
use Rattle.std.proofs.lemmas.List.{drop-drop, drop-take, take-take}
use Rattle.std.proofs.lemmas.List.Elements.{All-drop, All-take}
use Rattle.std.specs.List.{slice_range}
use Rattle.lic_phrases.specs.Spelling.{spelled}
use Rattle.lic_fields.specs.Fields.{ArePlain, escaped_byte}
use Rattle.lic_norm.specs.Tokens.{TokenValue}
use Rattle.lic_norm.specs.Places.{place_end, place_start, texts_of}
use Rattle.lic_places.proofs.TieEnds.{place_end-order, place_start-next}
use Rattle.lic_places.proofs.TokenPlaces.{place_end-is}
use Rattle.lic_report.specs.TokenLines.{ArePlainAfter}
use Rattle.lic_report.proofs.TokenLemmas.{text-range}

-- a part of a part
part_is : (bytes : List ℕ) (a b c d : ℕ) → a ≤ c → d ≤ b → c ≤ d
    → take (d - c) (drop (c - a) (slice_range bytes a b)) ≡ slice_range bytes c d
part_is bytes a b c d first last order =
    ap (take (d - c))
    (ap (λ n. drop (c - a) (take n (drop a bytes))) (omega (arith, first, last, order))
    ∙ (drop-take (c - a) (b - c) (drop a bytes)
    ∙ ap (take (b - c)) (drop-drop (c - a) a bytes ∙ ap (λ n. drop n bytes) (omega (arith, first)))))
    ∙ take-take (d - c) (b - c) (drop c bytes) (omega (arith, last))

-- bytes among plain ones are plain
pub plain_part : (bytes : List ℕ) (a b c d : ℕ) → ArePlain (slice_range bytes a b) → a ≤ c → d ≤ b → ArePlain (slice_range bytes c d)
plain_part bytes a b c d plain first last = by_order (cases_lt d c)
  where
    by_order : (d < c) ⊎ (c ≤ d) → ArePlain (slice_range bytes c d)
    by_order (inl less) =
        let none : 0 ≡ d - c = omega (arith, less) in
        subst (λ n. ArePlain (take n (drop c bytes))) none (λ k e h. absurd (omega (arith, h)))
    by_order (inr order) =
        subst ArePlain (part_is bytes a b c d first last order)
        (All-take (λ x. escaped_byte x ≡ x ∷ []) (d - c) (drop (c - a) (slice_range bytes a b))
        (All-drop (λ x. escaped_byte x ≡ x ∷ []) (c - a) (slice_range bytes a b) plain))

module _ (tokens : List TokenValue) where
  -- where the texts of the first tokens end
  abbrev pub end_of : ℕ → ℕ
  end_of count = length (spelled (take count (texts_of tokens)))

  -- later texts end later
  pub end-order : (a b : ℕ) → a ≤ b → b ≤ length tokens → end_of a ≤ end_of b
  end-order zero b order within = omega arith
  end-order (suc a) zero order within = absurd (omega (arith, order))
  end-order (suc a) (suc b) order within =
      let ends = place_end-order tokens a (b - a) (omega (arith, order, within)) in
      let same : a + (b - a) ≡ b = omega (arith, order) in
      let last = ap (place_end tokens) same in
      let one = place_end-is tokens a in
      let two = place_end-is tokens b in
      omega (arith, ends, last, one, two)

  -- a text begins where those before it end, or later
  pub start-order : (i : ℕ) → i < length tokens → end_of i ≤ place_start tokens i
  start-order zero within = omega arith
  start-order (suc i) within =
      let next = place_start-next tokens i within in
      let last = place_end-is tokens i in
      omega (arith, next, last)

  -- what is plain after the first texts is so after more of them
  pub plain_later : (a b place : ℕ) → ArePlainAfter tokens a place → a ≤ b → b ≤ length tokens → ArePlainAfter tokens b place
  plain_later a b place plain order within =
      plain_part (spelled (texts_of tokens)) (end_of a) place (end_of b) place plain (end-order a b order within) (omega arith)

  -- and so is the text of a token that ends within
  pub plain_text : (a i place : ℕ) (d : TokenValue) → ArePlainAfter tokens a place → a ≤ i → i < length tokens → place_end tokens i ≤ place
      → ArePlain (get_or tokens i d).text
  plain_text a i place d plain order within ends =
      subst ArePlain (text-range tokens i d within)
      (plain_part (spelled (texts_of tokens)) (end_of a) place (place_start tokens i) (place_end tokens i) plain
      (let one = end-order a i order (omega (arith, within)) in let two = start-order i within in omega (arith, one, two)) ends)
