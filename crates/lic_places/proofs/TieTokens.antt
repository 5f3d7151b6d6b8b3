-- The letters of tokens, with their gaps, are where the texts of the tokens do.
use Rattle.std.proofs.Common.{◌≡◌, ◌≢◌, ℕ, zero, suc, ◌+◌, ◌<◌, inr, Bool, true, false, ◌&&◌, List, [], ◌∷◌, ◌++◌, length, take, drop, map, reverse, encode_utf8_all, IsTrue, refl, sym, ap, ap₂, ◌∙◌, subst, arith, append_assoc, length-append, add-zero}
use Rattle.std.specs.Char.{encode_utf8}
use Rattle.std.specs.Str.{IsUtf8, all_scalars, chars}
use Rattle.std.proofs.lemmas.Bool.{and_parts}
use Rattle.std.proofs.lemmas.List.{length-map}
use Rattle.std.proofs.lemmas.Str.{chars-encodes, encodes-chars, encodes-append, scalars-chars, encode_ascii}
use Rattle.std.proofs.Math.Seq.{drop-cons}
use Rattle.lic_words.specs.Words.{blank}
use Rattle.lic_words.specs.Letters.{is_word}
use Rattle.lic_words.specs.Spelling.{needed, gap_of, gapped_from, sequence_of}
use Rattle.lic_phrases.specs.Spelling.{first_is_word, ends_in_word, is_parted, blank_if}
use Rattle.lic_tokens.specs.Tokens.{TokenValue}
use Rattle.lic_tokens.specs.Places.{place_start, place_end, texts_of}
use Rattle.lic_phrases.specs.TokenTexts.{IsTokenText}
use Rattle.lic_places.specs.Places.{AreTexts, HasGap, IsAfterBlank, stays, spelling_of}
use Rattle.lic_places.proofs.TieReading.{HasLetter, HasGapAt, AreGappedAt, AreGappedAt-end, not_after_stay}
use Rattle.lic_places.proofs.TiePlaces.{drop-on, length-letter, not_after, has_letter, is_free_before, is_needed_before}
use Rattle.lic_places.proofs.TieLetters.{AreWordsApart, gapped_from-token, letters_are_at}
use Rattle.lic_places.proofs.TieEnds.{text_at, blank_after, place_end-start, place_start-next, bytes_from_start, bytes_from_end, text-utf8, text-token, no_end_inside}

-- ---- the letters of a text

all_scalars-front : (xs ys : List ℕ) → all_scalars (xs ++ ys) ≡ true → all_scalars xs ≡ true
all_scalars-front [] ys h = refl
all_scalars-front (x ∷ xs) ys h = let parts = and_parts _ _ h in ap₂ (λ a b. a && b) parts.0 (all_scalars-front xs ys parts.1)

all_scalars-after : (xs ys : List ℕ) → all_scalars (xs ++ ys) ≡ true → all_scalars ys ≡ true
all_scalars-after [] ys h = h
all_scalars-after (x ∷ xs) ys h = all_scalars-after xs ys (and_parts _ _ h).1

pub words_apart : (text : List ℕ) → IsUtf8 text → IsTokenText text → AreWordsApart (chars text)
words_apart text utf8 token = record {
  apart = λ front rest parts.
      let scalars : all_scalars (front ++ blank ∷ rest) ≡ true = ap all_scalars (sym parts) ∙ scalars-chars text utf8 in
      let written : text ≡ encode_utf8_all front ++ 0x20 ∷ encode_utf8_all rest =
      sym (encodes-chars text utf8) ∙ ap encode_utf8_all parts ∙ encodes-append front (blank ∷ rest)
      ∙ ap (λ x. encode_utf8_all front ++ (x ++ encode_utf8_all rest)) (encode_ascii 0x20 (omega arith)) in
      let words = token.blanks (encode_utf8_all front) (encode_utf8_all rest) written in
      let later : all_scalars rest ≡ true = all_scalars-after front (blank ∷ rest) scalars in (
        subst (λ x. IsTrue (first_is_word (reverse x))) (chars-encodes front (all_scalars-front front (blank ∷ rest) scalars)) words.0,
        subst (λ x. IsTrue (first_is_word x)) (chars-encodes rest later) words.1,
      );
}

first_letter : (text : List ℕ) → IsUtf8 text → IsTokenText text → (c : ℕ) × (cs : List ℕ) × (chars text ≡ c ∷ cs)
first_letter text utf8 token = by_letters (chars text) refl
  where
    by_letters : (cs : List ℕ) → chars text ≡ cs → (c : ℕ) × (rest : List ℕ) × (chars text ≡ c ∷ rest)
    by_letters [] is =
        let none : text ≡ [] = sym (encodes-chars text utf8) ∙ ap encode_utf8_all is in
        absurd (omega (arith, token.not_empty, ap length none))
    by_letters (c ∷ cs) is = (c, cs, is)

first_other : (text cs : List ℕ) (c : ℕ) → IsUtf8 text → IsTokenText text → chars text ≡ c ∷ cs → c ≢ blank
first_other text cs c utf8 token is same =
    let words = (words_apart text utf8 token).apart [] cs (is ∙ ap (λ x. x ∷ cs) same) in
    let none : false ≡ true = words.0 in
    cc

pub text_written : (text cs : List ℕ) (c : ℕ) → IsUtf8 text → chars text ≡ c ∷ cs → text ≡ encode_utf8 c ++ encode_utf8_all cs
text_written text cs c utf8 is = sym (encodes-chars text utf8) ∙ ap encode_utf8_all is

-- a sequence is where the gap before its first token does, and the letters of the token and of the others
sequence_occurs : (tokens : List TokenValue) (p e last : ℕ) (t cs : List ℕ) (ts : List (List ℕ)) (c : ℕ) (b : Bool) (r s : ℕ) → t ≡ c ∷ cs
    → is_word last && is_word c ≡ b → HasGapAt tokens p (gap_of true b) r → HasLetter tokens r c s
    → AreGappedAt tokens s (gapped_from c false (cs ++ sequence_of ts)) e → AreGappedAt tokens p (gapped_from last false (sequence_of (t ∷ ts))) e
sequence_occurs tokens p e last t cs ts c b r s are words gap letter later =
    subst (λ gaps. AreGappedAt tokens p gaps e) (sym (gapped_from-token last t cs ts c b are letter.other words)) (r, s, gap, letter, later)

-- ---- one token

module _ (tokens : List TokenValue) (known : AreTexts tokens) where
  -- the first letter of a token, and its other letters with a sequence after them
  pub record TokenIsAt (i : ℕ) (sequence : List ℕ) (e : ℕ) : Type 0 where
    pub letter : ℕ
    pub others : List ℕ
    pub next : ℕ
    pub are : chars (text_at tokens i) ≡ letter ∷ others
    pub occurs : HasLetter tokens (place_start tokens i) letter next
    pub later : AreGappedAt tokens next (gapped_from letter false (others ++ sequence)) e

  pub token_occurs : (i : ℕ) → i < length tokens → (sequence : List ℕ) (e : ℕ)
      → ((last : ℕ) → is_word last ≡ ends_in_word (text_at tokens i) → (IsAfterBlank (spelling_of tokens) (place_end tokens i) → ⊥)
      → AreGappedAt tokens (place_end tokens i) (gapped_from last false sequence) e)
      → TokenIsAt i sequence e
  token_occurs i h sequence e go_on =
      let text = text_at tokens i in
      let utf8 = text-utf8 tokens i known h in
      let token = text-token tokens i known h in
      let (c, cs, are) = first_letter text utf8 token in
      let other = first_other text cs c utf8 token are in
      let around = bytes_from_start tokens i h in
      let written = text_written text cs c utf8 are in
      let start = place_start tokens i in
      let next = start + length (encode_utf8 c) in
      let scalars : all_scalars (c ∷ cs) ≡ true = ap all_scalars (sym are) ∙ scalars-chars text utf8 in
      let rest = encode_utf8_all cs ++ around.0 in
      let bytes : drop start (spelling_of tokens) ≡ encode_utf8 c ++ rest =
      around.1 ∙ ap (λ x. x ++ around.0) written ∙ append_assoc (encode_utf8 c) (encode_utf8_all cs) around.0 in
      let has = has_letter tokens rest start c other (and_parts _ _ scalars).0 bytes in
      let size : length text ≡ length (encode_utf8 c ++ encode_utf8_all cs) = ap length written in
      record {
        letter = c;
        others = cs;
        next = next;
        are = are;
        occurs = has;
        later = letters_are_at tokens (chars text) (words_apart text utf8 token) start (place_end tokens i)
            (λ p after before. no_end_inside tokens i p h after before) around.0 sequence e go_on cs (c ∷ []) c next (record {
              parts = are;
              last_is = refl;
              scalars = (and_parts _ _ scalars).1;
              bytes = drop-on (spelling_of tokens) (encode_utf8 c) rest start bytes;
              solid = not_after (spelling_of tokens) rest start c other bytes;
              forward = omega (arith, length-letter c);
              stops = omega (arith, place_end-start tokens i h, size, length-append (encode_utf8 c) (encode_utf8_all cs));
            });
      }

  -- a token ends here
  end_gap : (i : ℕ) → i < length tokens → HasGap tokens (place_end tokens i)
  end_gap i h = inr (inr (record { number = i; within = h; ends = refl }))

  -- no token ends with a blank
  pub not_after_end : (i : ℕ) → i < length tokens → IsAfterBlank (spelling_of tokens) (place_end tokens i) → ⊥
  not_after_end i h =
      let occurs = token_occurs i h [] (place_end tokens i) (λ last is solid. (refl, stays solid (end_gap i h))) in
      not_after_stay tokens (place_end tokens i)
      (AreGappedAt-end tokens occurs.next (gapped_from occurs.letter false (occurs.others ++ [])) (place_end tokens i) occurs.later)

  -- ---- the gap between two tokens

  gap_by : (i c : ℕ) (rest : List ℕ) → suc i < length tokens → c ≢ blank → (b : Bool)
      → drop (place_end tokens i) (spelling_of tokens) ≡ blank_if b ++ (encode_utf8 c ++ rest)
      → place_start tokens (suc i) ≡ place_end tokens i + length (blank_if b)
      → HasGapAt tokens (place_end tokens i) (gap_of true b) (place_start tokens (suc i))
  gap_by i c rest h other true bytes starts =
      let next : suc (place_end tokens i) ≡ place_start tokens (suc i) = omega arith in
      let solid = not_after_end i (omega arith) in
      subst (λ r. HasGapAt tokens (place_end tokens i) needed r) next (is_needed_before tokens rest (place_end tokens i) c other bytes solid)
  gap_by i c rest h other false bytes starts =
      let next : place_end tokens i ≡ place_start tokens (suc i) = omega arith in
      let within : i < length tokens = omega arith in
      (next, is_free_before tokens rest (place_end tokens i) c other bytes (not_after_end i within) (end_gap i within))

  pub gap_before : (i c : ℕ) (cs : List ℕ) → suc i < length tokens → chars (text_at tokens (suc i)) ≡ c ∷ cs
      → HasGapAt tokens (place_end tokens i) (gap_of true (is_parted (text_at tokens i) (text_at tokens (suc i)))) (place_start tokens (suc i))
  gap_before i c cs h are =
      let text = text_at tokens (suc i) in
      let utf8 = text-utf8 tokens (suc i) known h in
      let other = first_other text cs c utf8 (text-token tokens (suc i) known h) are in
      let after = bytes_from_end tokens i h in
      let bytes : drop (place_end tokens i) (spelling_of tokens)
      ≡ blank_after tokens i ++ (encode_utf8 c ++ (encode_utf8_all cs ++ after.0)) =
      after.1 ∙ ap (λ x. blank_after tokens i ++ (x ++ after.0)) (text_written text cs c utf8 are)
      ∙ ap (λ x. blank_after tokens i ++ x) (append_assoc (encode_utf8 c) (encode_utf8_all cs) after.0) in
      gap_by i c (encode_utf8_all cs ++ after.0) h other (is_parted (text_at tokens i) text) bytes (place_start-next tokens i h)

  -- ---- tokens in a row

  -- the letters of the next tokens
  abbrev pub letters_after : ℕ → ℕ → List (List ℕ)
  letters_after m i = map chars (take m (drop (suc i) (texts_of tokens)))

  pub letters_after-more : (m i : ℕ) → suc i < length tokens
      → letters_after (suc m) i ≡ chars (text_at tokens (suc i)) ∷ letters_after m (suc i)
  letters_after-more m i h =
      ap (λ x. map chars (take (suc m) x))
      (drop-cons (texts_of tokens) (suc i) [] (omega (arith, length-map tokens (λ (t : TokenValue). t.text))))

  -- the tokens after one of them
  pub tokens_are_at : (m i last : ℕ) → i + m < length tokens → is_word last ≡ ends_in_word (text_at tokens i)
      → AreGappedAt tokens (place_end tokens i) (gapped_from last false (sequence_of (letters_after m i))) (place_end tokens (i + m))
  tokens_are_at zero i last h last_is =
      let within : i < length tokens = omega arith in
      (ap (place_end tokens) (sym (add-zero i)), stays (not_after_end i within) (end_gap i within))
  tokens_are_at (suc m) i last h last_is =
      let within : suc i < length tokens = omega arith in
      let sequence = sequence_of (letters_after m (suc i)) in
      let later_end : suc i + m ≡ i + suc m = omega arith in
      let token = token_occurs (suc i) within sequence (place_end tokens (i + suc m))
      (λ l l_is solid. subst (λ n. AreGappedAt tokens (place_end tokens (suc i)) (gapped_from l false sequence) (place_end tokens n)) later_end
      (tokens_are_at m (suc i) l (omega arith) l_is)) in
      let words : is_word last && is_word token.letter ≡ is_parted (text_at tokens i) (text_at tokens (suc i)) =
      ap₂ (λ a b. a && b) last_is (sym (ap first_is_word token.are)) in
      subst (λ ts. AreGappedAt tokens (place_end tokens i) (gapped_from last false (sequence_of ts)) (place_end tokens (i + suc m)))
      (sym (letters_after-more m i within))
      (sequence_occurs tokens (place_end tokens i) (place_end tokens (i + suc m)) last (chars (text_at tokens (suc i))) token.others
      (letters_after m (suc i)) token.letter (is_parted (text_at tokens i) (text_at tokens (suc i))) (place_start tokens (suc i))
      token.next token.are words (gap_before i token.letter token.others within token.are) token.occurs token.later)
