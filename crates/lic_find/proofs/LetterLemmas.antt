-- The letters of tokens, counted.
use Rattle.std.proofs.Common.{◌≡◌, ℕ, ◌+◌, ◌<◌, ◌≤◌, List, [], ◌∷◌, ◌++◌, length, get_or, take, drop, refl, sym, ap, ◌∙◌, arith, add-one}
use Rattle.std.specs.List.{slice_range}
use Rattle.std.specs.Str.{chars}
use Rattle.std.proofs.Math.Seq.{drop-cons}
use Rattle.std.proofs.lemmas.List.{take-append-drop}
use Rattle.std.proofs.lemmas.List.Sums.{sum_by-append, sum_by-cons}
use Rattle.lic_norm.specs.Tokens.{TokenValue}
use Rattle.lic_words.specs.Letters.{letters_in}
use Rattle.lic_find.specs.Bounds.{letters_of}
use Rattle.lic_find.proofs.Ranges.{slice_range-none, slice_range-more, slice_range-split}

abbrev letters_at : TokenValue → ℕ
letters_at t = letters_in (chars t.text)

pub letters_of-none : letters_of [] ≡ 0
unfolding letters_of
letters_of-none = refl

pub letters_of-one : (t : TokenValue) → letters_of (t ∷ []) ≡ letters_in (chars t.text)
unfolding letters_of
letters_of-one t = omega arith

pub letters_of-append : (xs ys : List TokenValue) → letters_of (xs ++ ys) ≡ letters_of xs + letters_of ys
unfolding letters_of
letters_of-append xs ys = sum_by-append letters_at xs ys

pub letters_of-cons : (t : TokenValue) (ts : List TokenValue) → letters_of (t ∷ ts) ≡ letters_in (chars t.text) + letters_of ts
unfolding letters_of
letters_of-cons t ts = sum_by-cons letters_at t ts

module _ (tokens : List TokenValue) where
  pub letters_of-empty : (a : ℕ) → letters_of (slice_range tokens a a) ≡ 0
  letters_of-empty a = ap letters_of (slice_range-none tokens a) ∙ letters_of-none

  -- one more token
  pub letters_of-more : (a b : ℕ) (d : TokenValue) → a ≤ b → b < length tokens →
      letters_of (slice_range tokens a (b + 1)) ≡ letters_of (slice_range tokens a b) + letters_in (chars (get_or tokens b d).text)
  letters_of-more a b d order within =
      ap letters_of (slice_range-more tokens a b d order within)
      ∙ letters_of-append (slice_range tokens a b) (get_or tokens b d ∷ [])
      ∙ ap (λ n. letters_of (slice_range tokens a b) + n) (letters_of-one (get_or tokens b d))

  pub letters_of-drop : (b : ℕ) (d : TokenValue) → b < length tokens →
      letters_of (drop b tokens) ≡ letters_in (chars (get_or tokens b d).text) + letters_of (drop (b + 1) tokens)
  letters_of-drop b d within =
      ap letters_of (drop-cons tokens b d within ∙ ap (λ n. get_or tokens b d ∷ drop n tokens) (sym (add-one b)))
      ∙ letters_of-cons (get_or tokens b d) (drop (b + 1) tokens)

  -- a part has no more letters than the whole
  pub letters_of-drop_le : (b : ℕ) → letters_of (drop b tokens) ≤ letters_of tokens
  letters_of-drop_le b =
      let whole : letters_of tokens ≡ letters_of (take b tokens) + letters_of (drop b tokens) =
      ap letters_of (sym (take-append-drop b tokens)) ∙ letters_of-append (take b tokens) (drop b tokens) in
      omega arith

  pub letters_of-longer : (a b e : ℕ) → a ≤ b → b ≤ e → letters_of (slice_range tokens a b) ≤ letters_of (slice_range tokens a e)
  letters_of-longer a b e low high =
      let both : letters_of (slice_range tokens a e) ≡ letters_of (slice_range tokens a b) + letters_of (slice_range tokens b e) =
      ap letters_of (slice_range-split tokens a b e low high) ∙ letters_of-append (slice_range tokens a b) (slice_range tokens b e) in
      omega arith
