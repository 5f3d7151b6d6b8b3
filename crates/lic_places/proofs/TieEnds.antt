-- Where tokens begin and end in their canonical spelling, and the bytes from there on.
use Rattle.std.proofs.Common.{◌≡◌, ℕ, zero, suc, ◌+◌, ◌-◌, ◌≤◌, ◌<◌, ◌⊎◌, inl, inr, List, [], ◌++◌, length, get_or, take, drop, refl, sym, ap, ◌∙◌, subst, arith, append_assoc, length-append, add-zero}
use Rattle.std.specs.Str.{IsUtf8}
use Rattle.std.proofs.lemmas.Bool.{cases_lt}
use Rattle.std.proofs.lemmas.List.{length-map, get_or-map, drop_at}
use Rattle.std.proofs.lemmas.List.Elements.{All-get_or}
use Rattle.lic_phrases.specs.Spelling.{is_parted, blank_if, spelled}
use Rattle.lic_tokens.specs.Tokens.{TokenValue}
use Rattle.lic_tokens.specs.Places.{place_start, place_end, texts_of, IsTokenEnd}
use Rattle.lic_phrases.specs.TokenTexts.{IsTokenText}
use Rattle.lic_places.specs.Places.{AreTexts, spelling_of}
use Rattle.lic_places.proofs.Spelled.{before, spelled-before, spelled-around}

-- a token without a text
abbrev nothing : TokenValue
nothing = record { text = []; span = record { start = 0; end = 0 } }

-- the text of the token number `i`
abbrev pub text_at : List TokenValue → ℕ → List ℕ
text_at tokens i = get_or (texts_of tokens) i []

-- the blank after the token number `i`, if the canonical spelling has one there
abbrev pub blank_after : List TokenValue → ℕ → List ℕ
blank_after tokens i = blank_if (is_parted (text_at tokens i) (text_at tokens (suc i)))

within_texts : (tokens : List TokenValue) (i : ℕ) → i < length tokens → i < length (texts_of tokens)
within_texts tokens i h = omega (arith, length-map tokens (λ (t : TokenValue). t.text))

-- ---- ends and starts

place_end-length : (tokens : List TokenValue) (i : ℕ) → i < length tokens
    → place_end tokens i ≡ length (before (texts_of tokens) i) + length (text_at tokens i)
unfolding place_end
place_end-length tokens i h =
    ap length (spelled-before (texts_of tokens) i (within_texts tokens i h)) ∙ length-append (before (texts_of tokens) i) (text_at tokens i)

place_start-length : (tokens : List TokenValue) (i : ℕ) → i < length tokens → place_start tokens i ≡ length (before (texts_of tokens) i)
unfolding place_start
place_start-length tokens i h = let ends = place_end-length tokens i h in omega arith

pub place_end-start : (tokens : List TokenValue) (i : ℕ) → i < length tokens
    → place_end tokens i ≡ place_start tokens i + length (text_at tokens i)
place_end-start tokens i h = let ends = place_end-length tokens i h in let starts = place_start-length tokens i h in omega arith

pub place_start-first : (tokens : List TokenValue) → 0 < length tokens → place_start tokens 0 ≡ 0
place_start-first tokens h = place_start-length tokens 0 h

front-length : (tokens : List TokenValue) (i : ℕ) → place_end tokens i ≡ length (spelled (take (suc i) (texts_of tokens)))
unfolding place_end
front-length tokens i = refl

pub place_start-next : (tokens : List TokenValue) (i : ℕ) → suc i < length tokens
    → place_start tokens (suc i) ≡ place_end tokens i + length (blank_after tokens i)
place_start-next tokens i h =
    let starts = place_start-length tokens (suc i) h in
    let ends = front-length tokens i in
    let size = length-append (spelled (take (suc i) (texts_of tokens))) (blank_after tokens i) in
    omega arith

-- ---- bytes

pub bytes_from_start : (tokens : List TokenValue) (i : ℕ) → i < length tokens
    → (after : List ℕ) × (drop (place_start tokens i) (spelling_of tokens) ≡ text_at tokens i ++ after)
bytes_from_start tokens i h =
    let around = spelled-around (texts_of tokens) i (within_texts tokens i h) in (
      around.0,
      ap (drop (place_start tokens i)) around.1
          ∙ drop_at (before (texts_of tokens) i) (text_at tokens i ++ around.0) (place_start tokens i) (sym (place_start-length tokens i h)),
    )

pub bytes_from_end : (tokens : List TokenValue) (i : ℕ) → suc i < length tokens
    → (after : List ℕ) × (drop (place_end tokens i) (spelling_of tokens) ≡ blank_after tokens i ++ (text_at tokens (suc i) ++ after))
bytes_from_end tokens i h =
    let around = spelled-around (texts_of tokens) (suc i) (within_texts tokens (suc i) h) in
    let front = spelled (take (suc i) (texts_of tokens)) in
    let later = text_at tokens (suc i) ++ around.0 in (
      around.0,
      ap (drop (place_end tokens i)) (around.1 ∙ append_assoc front (blank_after tokens i) later)
          ∙ drop_at front (blank_after tokens i ++ later) (place_end tokens i) (sym (front-length tokens i)),
    )

-- ---- texts

pub text-utf8 : (tokens : List TokenValue) (i : ℕ) → AreTexts tokens → i < length tokens → IsUtf8 (text_at tokens i)
text-utf8 tokens i known h =
    subst IsUtf8 (sym (get_or-map (λ (t : TokenValue). t.text) tokens i nothing [] h))
    (All-get_or (λ (t : TokenValue). IsUtf8 t.text) tokens i nothing h known.utf8)

pub text-token : (tokens : List TokenValue) (i : ℕ) → AreTexts tokens → i < length tokens → IsTokenText (text_at tokens i)
text-token tokens i known h =
    subst IsTokenText (sym (get_or-map (λ (t : TokenValue). t.text) tokens i nothing [] h))
    (All-get_or (λ (t : TokenValue). IsTokenText t.text) tokens i nothing h known.texts)

-- ---- no token ends inside another

pub place_end-order : (tokens : List TokenValue) (i k : ℕ) → i + k < length tokens → place_end tokens i ≤ place_end tokens (i + k)
place_end-order tokens i zero h = let same = ap (place_end tokens) (add-zero i) in omega arith
place_end-order tokens i (suc k) h =
    let next : i + suc k ≡ suc (i + k) = omega arith in
    let last = place_end-order tokens i k (omega arith) in
    let starts = place_start-next tokens (i + k) (omega arith) in
    let ends = place_end-start tokens (suc (i + k)) (omega arith) in
    let same = ap (place_end tokens) next in
    omega arith

end_before : (tokens : List TokenValue) (i j : ℕ) → j < i → i < length tokens → place_end tokens j ≤ place_start tokens i
end_before tokens zero j order h = absurd (omega arith)
end_before tokens (suc i) j order h =
    let next : j + (i - j) ≡ i = omega arith in
    let same = ap (place_end tokens) next in
    let ends = place_end-order tokens j (i - j) (omega arith) in
    let starts = place_start-next tokens i h in
    omega arith

end_after : (tokens : List TokenValue) (i j : ℕ) → i ≤ j → j < length tokens → place_end tokens i ≤ place_end tokens j
end_after tokens i j order h =
    let next : i + (j - i) ≡ j = omega arith in
    let same = ap (place_end tokens) next in
    let ends = place_end-order tokens i (j - i) (omega arith) in
    omega arith

pub no_end_inside : (tokens : List TokenValue) (i p : ℕ) → i < length tokens → place_start tokens i < p → p < place_end tokens i
    → IsTokenEnd tokens p → ⊥
no_end_inside tokens i p h after_start before_end at = by_order (cases_lt at.number i)
  where
    by_order : (at.number < i) ⊎ (i ≤ at.number) → ⊥
    by_order (inl order) = let early = end_before tokens i at.number order h in omega (arith, at.ends)
    by_order (inr order) = let late = end_after tokens i at.number order at.within in omega (arith, at.ends)
