-- The spans of letters that are gathered.
use Rattle.std.proofs.Common.{◌≡◌, ℕ, zero, suc, ◌+◌, ◌-◌, ◌<◌, ◌≤◌, List, [], ◌∷◌, ◌++◌, length, get_or, take, drop, replicate, refl, sym, ap, ◌∙◌, arith, append_assoc, append-nil, get_or-drop, length-drop}
use Rattle.std.proofs.lemmas.List.{take_more}
use Rattle.std.specs.List.{slice_range}
use Rattle.std.specs.Str.{chars}
use Rattle.lic_words.specs.Letters.{letters_in}
use Rattle.lic_norm.specs.Tokens.{TokenValue}
use Rattle.lic_tokens.specs.declared.token.Span.{Span}
use Rattle.lic_vars.specs.Values.{letter_spans}

-- a span that is added once more
pub times-more : (a b whole : List Span) (x : Span) (n : ℕ) → 0 < n → b ≡ a ++ x ∷ [] → a ++ replicate n x ≡ whole → b ++ replicate (n - 1) x ≡ whole
times-more a b whole x zero some e f = absurd (omega arith)
times-more a b whole x (suc n) some e f =
    let less : suc n - 1 ≡ n = omega arith in
    ap (λ k. b ++ replicate k x) less ∙ ap (λ s. s ++ replicate n x) e ∙ append_assoc a (x ∷ []) (replicate n x) ∙ f

pub times-all : (a whole : List Span) (x : Span) (n : ℕ) → n ≤ 0 → a ++ replicate n x ≡ whole → a ≡ whole
times-all a whole x n none f =
    let zero_left : n ≡ 0 = omega arith in
    sym (append-nil a) ∙ ap (λ k. a ++ replicate k x) (sym zero_left) ∙ f

slice_range_none : (tokens : List TokenValue) (a : ℕ) → slice_range tokens a a ≡ []
slice_range_none tokens a = let e : a - a ≡ 0 = omega arith in ap (λ n. take n (drop a tokens)) e

slice_range_more : (tokens : List TokenValue) (a b : ℕ) (d : TokenValue) → a ≤ b → b < length tokens →
    slice_range tokens a (b + 1) ≡ slice_range tokens a b ++ get_or tokens b d ∷ []
slice_range_more tokens a b d order within =
    let count : (b + 1) - a ≡ (b - a) + 1 = omega arith in
    let short : b - a < length (drop a tokens) = omega (arith, length-drop a tokens) in
    let place : a + (b - a) ≡ b = omega arith in
    ap (λ n. take n (drop a tokens)) count ∙ take_more (drop a tokens) (b - a) d short
    ∙ ap (λ x. take (b - a) (drop a tokens) ++ x ∷ []) (get_or-drop a tokens (b - a) d ∙ ap (λ n. get_or tokens n d) place)

letter_spans_append : (xs ys : List TokenValue) → letter_spans (xs ++ ys) ≡ letter_spans xs ++ letter_spans ys
letter_spans_append [] ys = refl
letter_spans_append (t ∷ xs) ys =
    ap (λ s. replicate (letters_in (chars t.text)) t.span ++ s) (letter_spans_append xs ys)
    ∙ sym (append_assoc (replicate (letters_in (chars t.text)) t.span) (letter_spans xs) (letter_spans ys))

pub spans-none : (tokens : List TokenValue) (first : ℕ) → letter_spans (slice_range tokens first first) ≡ []
spans-none tokens first = ap letter_spans (slice_range_none tokens first)

module _ (tokens : List TokenValue) (first i : ℕ) (d : TokenValue) (order : first ≤ i) (within : i < length tokens) where
  pub spans-more : letter_spans (slice_range tokens first (i + 1))
      ≡ letter_spans (slice_range tokens first i) ++ replicate (letters_in (chars (get_or tokens i d).text)) (get_or tokens i d).span
  spans-more =
      ap letter_spans (slice_range_more tokens first i d order within)
      ∙ letter_spans_append (slice_range tokens first i) (get_or tokens i d ∷ [])
      ∙ ap (λ s. letter_spans (slice_range tokens first i) ++ s) (append-nil (replicate (letters_in (chars (get_or tokens i d).text)) (get_or tokens i d).span))

  -- the letters of one token more
  pub spans-instruction : (old new : List Span) (t : List ℕ) (s : Span) → new ≡ old ++ replicate (letters_in (chars t)) s →
      old ≡ letter_spans (slice_range tokens first i) → t ≡ (get_or tokens i d).text → s ≡ (get_or tokens i d).span →
      new ≡ letter_spans (slice_range tokens first (i + 1))
  spans-instruction old new t s e f h k =
      e ∙ ap (λ x. x ++ replicate (letters_in (chars t)) s) f ∙ ap (λ x. letter_spans (slice_range tokens first i) ++ replicate (letters_in (chars x)) s) h
      ∙ ap (λ x. letter_spans (slice_range tokens first i) ++ replicate (letters_in (chars (get_or tokens i d).text)) x) k
      ∙ sym spans-more
