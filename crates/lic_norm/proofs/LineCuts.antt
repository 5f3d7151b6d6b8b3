-- The first line of an input, and of a text in UTF-8.
use Rattle.std.proofs.Common.{◌≡◌, ◌≢◌, ℕ, ◌+◌, ◌<◌, ◌≤◌, List, [], ◌∷◌, ◌++◌, length, take, drop, get_or, sym, ap, subst, ◌∙◌, arith, All, inl, inr, length-append, length-drop, length-take, append-nil, get_or-drop, take-take, eqb-true, eq-eqb, Option, Some, None, lit<, take-append-drop, append_assoc, take_at, refl, ◌⊎◌}
use Rattle.std.specs.Str.{IsUtf8, IsCharBoundary, chars, encode_utf8_all}
use Rattle.std.specs.Char.{encode_utf8}
use Rattle.std.proofs.Math.Seq.{get_or-append_seam}
use Rattle.std.proofs.lemmas.List.{get_or-append-add, take_all, drop_all, take_more, get_or-take, length-take-le}
use Rattle.std.proofs.lemmas.List.Elements.{All-nil, All-cons, All-get_or, All-from_get_or}
use Rattle.std.proofs.lemmas.Str.{IsCharBoundary-end, IsCharBoundary-before_ascii, IsCharBoundary-after_ascii, IsUtf8-take, encodes-chars, chars-append, encode_ascii, length-encode, len_utf8_bounds, chars-IsAscii}
use Rattle.std.proofs.lemmas.Str.Ascii.{IsAscii-cons, IsAscii-nil}
use Rattle.memchr.specs.Find.{IsFirstByte, IsLastByte, is_byte}
use Rattle.lic_norm.specs.Feeding.{AreLines}
use Rattle.lic_norm.specs.LineEnds.{IsFirstLine}

-- none of these bytes is U+000A
abbrev HasNoEnd : List ℕ → Type 0
HasNoEnd bytes = (k : ℕ) → k < length bytes → get_or bytes k 0 ≢ 0x0A

-- ---- of bytes

-- where the first line ends, by a search for its U+000A
abbrev pub line_end : List ℕ → Option ℕ → ℕ
line_end bytes (Some offset) = offset + 1
line_end bytes None = length bytes

-- the first U+000A that was found, and what comes before it
pub found_end : (bytes : List ℕ) (offset : ℕ) → IsFirstByte (is_byte 0x0A) bytes (Some offset)
    → (take (offset + 1) bytes ≡ take offset bytes ++ 0x0A ∷ []) × All (λ c. c ≢ 0x0A) (take offset bytes)
    × (offset < length bytes)
found_end bytes offset h =
    let lt : offset < length bytes = h.0.high in
    let at : get_or bytes offset 0 ≡ 0x0A = eqb-true (get_or bytes offset 0) 0x0A h.1 in
    let front = take offset bytes in
    let none : HasNoEnd front = λ k less is.
    let inside : k < offset = omega (arith, length-take-le offset bytes (omega arith)) in
    h.0.before k (omega arith) inside (eq-eqb _ _ (sym (get_or-take offset bytes k 0 inside) ∙ is)) in
    (take_more bytes offset 0 lt ∙ ap (λ b. front ++ b ∷ []) at, All-from_get_or (λ c. c ≢ 0x0A) front 0 none, lt)

-- none was found
pub found_none : (bytes : List ℕ) → IsFirstByte (is_byte 0x0A) bytes None → All (λ c. c ≢ 0x0A) bytes
found_none bytes h =
    let none : HasNoEnd bytes = λ k lt at. h k (omega arith) lt (eq-eqb _ _ at) in
    All-from_get_or (λ c. c ≢ 0x0A) bytes 0 none

-- the last U+000A that was found, and what comes before it and after it
pub found_last : (bytes : List ℕ) (offset : ℕ) → IsLastByte (is_byte 0x0A) bytes (Some offset)
    → (take (offset + 1) bytes ≡ take offset bytes ++ 0x0A ∷ []) × All (λ c. c ≢ 0x0A) (drop (offset + 1) bytes)
    × (offset < length bytes) × (get_or bytes offset 0 ≡ 0x0A)
found_last bytes offset h =
    let lt : offset < length bytes = h.0.high in
    let at : get_or bytes offset 0 ≡ 0x0A = eqb-true (get_or bytes offset 0) 0x0A h.1 in
    let none : HasNoEnd (drop (offset + 1) bytes) = λ k less is.
    h.0.after (offset + 1 + k) (omega arith) (omega (arith, length-drop (offset + 1) bytes)) (eq-eqb _ _ (sym (get_or-drop (offset + 1) bytes k 0) ∙ is)) in
    (take_more bytes offset 0 lt ∙ ap (λ b. take offset bytes ++ b ∷ []) at, All-from_get_or (λ c. c ≢ 0x0A) (drop (offset + 1) bytes) 0 none, lt, at)

-- a first line ends in U+000A, or there is none
pub first_line-ends : (bytes : List ℕ) (n : ℕ) → IsFirstLine (take n bytes) (drop n bytes) → AreLines (take n bytes) ⊎ All (λ c. c ≢ 0x0A) bytes
first_line-ends bytes n first =
    elim first.ends [
      | inl feed ↦ inl (inr (first.front, feed))
      | inr all ↦ inr (subst (All (λ c. c ≢ 0x0A))
          (sym (sym (take-append-drop n bytes) ∙ ap (λ l. take n bytes ++ l) all.1 ∙ append-nil (take n bytes) ∙ all.0)) first.no_end)
    ]

-- what is read together ends in U+000A
pub lines_end-found : (bytes : List ℕ) (front offset : ℕ) → IsLastByte (is_byte 0x0A) (take front bytes) (Some offset) → AreLines (take (offset + 1) bytes)
lines_end-found bytes front offset h =
    let found = found_last (take front bytes) offset h in
    let within : offset + 1 ≤ front = omega (arith, found.2, length-take front bytes) in
    inr (take offset (take front bytes), sym (take-take (offset + 1) front bytes within) ∙ found.0)

pub line_end-is : (bytes : List ℕ) (found : Option ℕ) → IsFirstByte (is_byte 0x0A) bytes found
    → IsFirstLine (take (line_end bytes found) bytes) (drop (line_end bytes found) bytes)
line_end-is bytes None h = record {
  front = bytes;
  no_end = found_none bytes h;
  ends = inr (take_all (length bytes) bytes (omega arith), drop_all (length bytes) bytes (omega arith));
}
line_end-is bytes (Some offset) h = let found = found_end bytes offset h in record { front = take offset bytes; no_end = found.1; ends = inl found.0 }

-- ---- of a text

encode_end : encode_utf8 0x0A ≡ 0x0A ∷ []
encode_end = encode_ascii 0x0A (lit< tt)

encoded-no_end : (cs : List ℕ) → HasNoEnd (encode_utf8_all cs) → All (λ c. c ≢ 0x0A) cs
encoded-no_end [] none = All-nil (λ c. c ≢ 0x0A)
encoded-no_end (c ∷ cs) none =
    let here = encode_utf8 c in
    let rest = encode_utf8_all cs in
    let long : 0 < length here = omega (arith, length-encode c, len_utf8_bounds c) in
    All-cons (λ d. d ≢ 0x0A) c cs
    (λ is.
    let bytes : here ≡ 0x0A ∷ [] = ap encode_utf8 is ∙ encode_end in
    none 0 (omega (arith, length-append here rest)) (ap (λ l. get_or (l ++ rest) 0 0) bytes))
    (encoded-no_end cs (λ k lt at. none (length here + k) (omega (arith, length-append here rest)) (get_or-append-add here rest k 0 ∙ at)))

chars-no_end : (bytes : List ℕ) → IsUtf8 bytes → All (λ c. c ≢ 0x0A) bytes → All (λ c. c ≢ 0x0A) (chars bytes)
chars-no_end bytes text none =
    let each : HasNoEnd bytes = λ k lt. All-get_or (λ c. c ≢ 0x0A) bytes k 0 lt none in
    encoded-no_end (chars bytes) (subst HasNoEnd (sym (encodes-chars bytes text)) each)

-- The first line of the bytes of a text is its first line, and no character is cut after it.
module _ (bytes : List ℕ) (n : ℕ) (text : IsUtf8 bytes) (within : n ≤ length bytes) (first : IsFirstLine (take n bytes) (drop n bytes)) where
  feed_at : take n bytes ≡ first.front ++ 0x0A ∷ []
      → (length first.front < length bytes) × (get_or bytes (length first.front) 0 ≡ 0x0A)
      × (n ≡ length first.front + 1)
  feed_at ends =
      let long : n ≡ length first.front + 1 = sym (length-take-le n bytes within) ∙ ap length ends ∙ length-append first.front (0x0A ∷ []) in
      let whole : bytes ≡ first.front ++ 0x0A ∷ drop n bytes =
      sym (take-append-drop n bytes) ∙ ap (λ l. l ++ drop n bytes) ends
      ∙ append_assoc first.front (0x0A ∷ []) (drop n bytes) in
      (omega arith, ap (λ l. get_or l (length first.front) 0) whole ∙ get_or-append_seam first.front 0x0A (drop n bytes) 0, long)

  pub text_line-boundary : IsCharBoundary bytes n
  text_line-boundary =
      elim first.ends [
        | inl ends ↦
            let feed = feed_at ends in
            subst (IsCharBoundary bytes) (sym feed.2) (IsCharBoundary-after_ascii bytes (length first.front) text feed.0 (omega (arith, feed.1)))
        | inr all ↦
            let whole : length bytes ≡ n = omega (arith, ap length all.1, length-drop n bytes) in
            subst (IsCharBoundary bytes) whole (IsCharBoundary-end bytes)
      ]

  pub text_line-is : IsFirstLine (chars (take n bytes)) (drop n bytes)
  text_line-is =
      elim first.ends [
        | inl ends ↦
            let feed = feed_at ends in
            let whole : bytes ≡ first.front ++ 0x0A ∷ drop n bytes =
            sym (take-append-drop n bytes) ∙ ap (λ l. l ++ drop n bytes) ends
            ∙ append_assoc first.front (0x0A ∷ []) (drop n bytes) in
            let same : take (length first.front) bytes ≡ first.front =
            ap (take (length first.front)) whole
            ∙ take_at first.front (0x0A ∷ drop n bytes) (length first.front) refl in
            let cut : IsUtf8 first.front =
            subst IsUtf8 same (IsUtf8-take bytes (length first.front) text
            (IsCharBoundary-before_ascii bytes (length first.front) feed.0 (omega (arith, feed.1)))) in
            record {
              front = chars first.front;
              no_end = chars-no_end first.front cut first.no_end;
              ends = inl (ap chars ends ∙ chars-append first.front (0x0A ∷ []) cut
                  ∙ ap (λ l. chars first.front ++ l)
                  (chars-IsAscii (0x0A ∷ []) (IsAscii-cons 0x0A [] (lit< tt) IsAscii-nil)));
            }
        | inr all ↦
            let cut : IsUtf8 first.front = subst IsUtf8 all.0 (IsUtf8-take bytes n text text_line-boundary) in
            record { front = chars first.front; no_end = chars-no_end first.front cut first.no_end; ends = inr (ap chars all.0, all.1) }
      ]
