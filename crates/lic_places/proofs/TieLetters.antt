-- The letters inside one token, with their gaps, are where its bytes do.
use Rattle.std.proofs.Common.{◌≡◌, ◌≢◌, ℕ, suc, ◌+◌, ◌<◌, Bool, true, false, ◌==◌, ◌&&◌, List, [], ◌∷◌, ◌++◌, length, drop, reverse, encode_utf8_all, IsTrue, ne_eqb, refl, sym, ap, ap₂, ◌∙◌, subst, arith, append_assoc, append-nil, length-append}
use Rattle.std.specs.Str.{all_scalars}
use Rattle.std.specs.Char.{encode_utf8}
use Rattle.std.proofs.lemmas.Bool.{and_parts, eqb-true}
use Rattle.std.proofs.lemmas.List.{reverse-append}
use Rattle.std.proofs.lemmas.Str.{encode_ascii}
use Rattle.lic_kind.specs.Kinds.{kind_of}
use Rattle.lic_words.specs.Words.{blank}
use Rattle.lic_words.specs.Letters.{is_word}
use Rattle.lic_words.specs.Spelling.{gap_of, gapped_from, sequence_of}
use Rattle.lic_words.proofs.Sequences.{gapped_from-letter}
use Rattle.lic_phrases.specs.Spelling.{first_is_word}
use Rattle.lic_tokens.specs.Tokens.{TokenValue}
use Rattle.lic_tokens.specs.Places.{IsTokenEnd}
use Rattle.lic_places.specs.Places.{IsAfterBlank, spelling_of}
use Rattle.lic_places.proofs.TieReading.{AreGappedAt}
use Rattle.lic_places.proofs.TiePlaces.{drop-on, drop-blank, length-letter, not_after, has_letter, is_shut_inside, is_needed_before}

-- no letter of a word is a blank
pub word-other : (c : ℕ) → IsTrue (is_word c) → c ≢ blank
unfolding kind_of
word-other c h same = let false_true : is_word blank ≡ true = subst (λ x. is_word x ≡ true) same h in cc

not_blank : (c : ℕ) → (c == blank) ≡ false → c ≢ blank
not_blank c h same = let t : (c == blank) ≡ true = ap (λ x. x == blank) same in cc

-- each blank is between two letters of kind Word
pub record AreWordsApart (whole : List ℕ) : Type 0 where
  pub apart : (front rest : List ℕ) → whole ≡ front ++ blank ∷ rest → IsTrue (first_is_word (reverse front)) × IsTrue (first_is_word rest)

last-push : (front : List ℕ) (c : ℕ) → first_is_word (reverse (front ++ c ∷ [])) ≡ is_word c
last-push front c = ap first_is_word (reverse-append front (c ∷ []))

-- the first letter of the first token of a sequence, with the gap before it, and the others
pub gapped_from-token : (last : ℕ) (t cs : List ℕ) (ts : List (List ℕ)) (c : ℕ) (b : Bool) → t ≡ c ∷ cs → c ≢ blank
    → is_word last && is_word c ≡ b
    → gapped_from last false (sequence_of (t ∷ ts)) ≡ (gap_of true b, c) ∷ gapped_from c false (cs ++ sequence_of ts)
gapped_from-token last t cs ts c b are other words =
    ap (λ x. gapped_from last true (x ++ sequence_of ts)) are
    ∙ gapped_from-letter last true c (cs ++ sequence_of ts) (ne_eqb c blank other)
    ∙ ap (λ x. (gap_of true x, c) ∷ gapped_from c false (cs ++ sequence_of ts)) words

-- the letters of a token, whose text is from one place up to another, and what follows it
module _ (tokens : List TokenValue) (whole : List ℕ) (apart : AreWordsApart whole) (start stop : ℕ)
    (inside : (p : ℕ) → start < p → p < stop → IsTokenEnd tokens p → ⊥) (after : List ℕ) (sequence : List ℕ) (e : ℕ)
    (go_on : (last : ℕ) → is_word last ≡ first_is_word (reverse whole) → (IsAfterBlank (spelling_of tokens) stop → ⊥)
    → AreGappedAt tokens stop (gapped_from last false sequence) e) where
  -- from some place inside on these letters occur, after one that is no blank
  pub record IsAt (front : List ℕ) (last p : ℕ) (cs : List ℕ) : Type 0 where
    pub parts : whole ≡ front ++ cs
    pub last_is : first_is_word (reverse front) ≡ is_word last
    pub scalars : all_scalars cs ≡ true
    pub bytes : drop p (spelling_of tokens) ≡ encode_utf8_all cs ++ after
    pub solid : IsAfterBlank (spelling_of tokens) p → ⊥
    pub forward : start < p
    pub stops : stop ≡ p + length (encode_utf8_all cs)

  abbrev pub Continues : List ℕ → Type 0
  Continues cs = (front : List ℕ) (last p : ℕ) → IsAt front last p cs → AreGappedAt tokens p (gapped_from last false (cs ++ sequence)) e

  abbrev ContinuesAfter : List ℕ → Type 0
  ContinuesAfter [] = Unit {0}
  ContinuesAfter (d ∷ cs) = Continues cs

  continues_end : Continues []
  continues_end front last p at =
      let whole_front : whole ≡ front = at.parts ∙ append-nil front in
      let here : stop ≡ p = omega (arith, at.stops) in
      subst (λ q. AreGappedAt tokens q (gapped_from last false sequence) e) here
      (go_on last (sym at.last_is ∙ ap (λ x. first_is_word (reverse x)) (sym whole_front))
      (λ blank_before. at.solid (subst (IsAfterBlank (spelling_of tokens)) here blank_before)))

  -- the next place, after a letter
  next_place : (front : List ℕ) (last p c : ℕ) (cs : List ℕ) → c ≢ blank → IsAt front last p (c ∷ cs)
      → IsAt (front ++ c ∷ []) c (p + length (encode_utf8 c)) cs
  next_place front last p c cs other at =
      let bytes = at.bytes ∙ append_assoc (encode_utf8 c) (encode_utf8_all cs) after in
      record {
        parts = at.parts ∙ sym (append_assoc front (c ∷ []) cs);
        last_is = last-push front c;
        scalars = (and_parts _ _ at.scalars).1;
        bytes = drop-on (spelling_of tokens) (encode_utf8 c) (encode_utf8_all cs ++ after) p bytes;
        solid = not_after (spelling_of tokens) (encode_utf8_all cs ++ after) p c other bytes;
        forward = omega (arith, at.forward);
        stops = omega (arith, at.stops, length-append (encode_utf8 c) (encode_utf8_all cs));
      }

  continues_letter : (c : ℕ) (cs : List ℕ) → Continues cs → (c == blank) ≡ false → Continues (c ∷ cs)
  continues_letter c cs later h front last p at =
      let other = not_blank c h in
      let bytes = at.bytes ∙ append_assoc (encode_utf8 c) (encode_utf8_all cs) after in
      let next = next_place front last p c cs other at in
      let before_stop : p < stop = omega (arith, at.stops, length-append (encode_utf8 c) (encode_utf8_all cs), length-letter c) in
      rw (gapped_from-letter last false c (cs ++ sequence) h) (
        p,
        p + length (encode_utf8 c),
        (refl, is_shut_inside tokens (encode_utf8_all cs ++ after) p c other bytes (omega (arith, at.forward)) (inside p at.forward before_stop)),
        has_letter tokens (encode_utf8_all cs ++ after) p c other (and_parts _ _ at.scalars).0 bytes,
        later (front ++ c ∷ []) c (p + length (encode_utf8 c)) next,
      )

  -- a blank, and the letter after it
  continues_over : (d : ℕ) (cs : List ℕ) → Continues cs → Continues (blank ∷ d ∷ cs)
  continues_over d cs later front last p at =
      let words = apart.apart front (d ∷ cs) at.parts in
      let other = word-other d words.1 in
      let scalars : all_scalars (d ∷ cs) ≡ true = at.scalars in
      let rest = encode_utf8_all cs ++ after in
      let letters = encode_utf8 d ++ encode_utf8_all cs in
      let written : encode_utf8_all (blank ∷ d ∷ cs) ≡ 0x20 ∷ letters = ap (λ x. x ++ letters) (encode_ascii 0x20 (omega arith)) in
      let size : length (encode_utf8_all (blank ∷ d ∷ cs)) ≡ suc (length letters) = ap length written in
      let bytes : drop p (spelling_of tokens) ≡ 0x20 ∷ (encode_utf8 d ++ rest) =
      at.bytes ∙ ap (λ x. x ++ after) written ∙ ap (λ x. 0x20 ∷ x) (append_assoc (encode_utf8 d) (encode_utf8_all cs) after) in
      let next_bytes : drop (suc p) (spelling_of tokens) ≡ encode_utf8 d ++ rest = drop-blank (spelling_of tokens) (encode_utf8 d ++ rest) p bytes in
      let both : is_word last && is_word d ≡ true = ap₂ (λ a b. a && b) (sym at.last_is ∙ words.0) words.1 in
      rw (gapped_from-letter last true d (cs ++ sequence) (ne_eqb d blank other), both) (
        suc p,
        suc p + length (encode_utf8 d),
        is_needed_before tokens rest p d other bytes at.solid,
        has_letter tokens rest (suc p) d other (and_parts _ _ scalars).0 next_bytes,
        later (front ++ blank ∷ d ∷ []) d (suc p + length (encode_utf8 d)) (record {
          parts = at.parts ∙ sym (append_assoc front (blank ∷ d ∷ []) cs);
          last_is = ap first_is_word (reverse-append front (blank ∷ d ∷ []));
          scalars = (and_parts _ _ scalars).1;
          bytes = drop-on (spelling_of tokens) (encode_utf8 d) rest (suc p) next_bytes;
          solid = not_after (spelling_of tokens) rest (suc p) d other next_bytes;
          forward = omega (arith, at.forward);
          stops = omega (arith, at.stops, size, length-append (encode_utf8 d) (encode_utf8_all cs));
        }),
      )

  continues_blank : (cs : List ℕ) → ContinuesAfter cs → Continues (blank ∷ cs)
  continues_blank [] later front last p at = absurd (let none : false ≡ true = (apart.apart front [] at.parts).1 in cc)
  continues_blank (d ∷ cs) later front last p at = continues_over d cs later front last p at

  continues : (c : ℕ) (cs : List ℕ) → Continues cs → ContinuesAfter cs → (b : Bool) → (c == blank) ≡ b → Continues (c ∷ cs)
  continues c cs later after_blank true h =
      let same : blank ≡ c = sym (eqb-true c blank h) in
      subst (λ x. Continues (x ∷ cs)) same (continues_blank cs after_blank)
  continues c cs later after_blank false h = continues_letter c cs later h

  pub letters_are_at : (cs : List ℕ) → Continues cs
  letters_are_at [] = continues_end
  letters_are_at (c ∷ []) = continues c [] continues_end tt (c == blank) refl
  letters_are_at (c ∷ d ∷ cs) = continues c (d ∷ cs) (letters_are_at (d ∷ cs)) (letters_are_at cs) (c == blank) refl
