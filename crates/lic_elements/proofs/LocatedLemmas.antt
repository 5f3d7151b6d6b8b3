-- The characters of a piece, and of those that it is made of.
use Rattle.std.proofs.Common.{◌≡◌, ℕ, ◌+◌, ◌-◌, ◌≤◌, List, [], ◌∷◌, ◌++◌, length, take, refl, sym, ap, ◌∙◌, subst, arith, append_assoc, append-nil, length-append}
use Rattle.std.specs.Prelude.{chars}
use Rattle.std.specs.Str.{IsUtf8, IsCharBoundary}
use Rattle.std.specs.Char.{IsScalar, encode_utf8, len_utf8}
use Rattle.std.proofs.Math.Utf8.{encodes}
use Rattle.std.proofs.lemmas.Str.{IsUtf8-encode, IsUtf8-take, IsCharBoundary-at_seam, chars-append, chars-nil, chars_past_char, encodes-chars, length-encode}
use Rattle.std.proofs.lemmas.List.{append_cancel_right, take_at}
use Rattle.lic_ere.specs.Located.{Located, located_from}
use Rattle.lic_elements.specs.declared.piece.Piece.{Piece}
use Rattle.lic_elements.specs.Pieces.{EndsWith, characters}
use Rattle.lic_elements.specs.Texts.{text_of}

located-append : (offset : ℕ) (cs ds : List ℕ) → located_from offset (cs ++ ds) ≡ located_from offset cs ++ located_from (offset + length (encodes cs)) ds
located-append offset [] ds =
    let same : offset ≡ offset + 0 = omega arith in
    ap (λ n. located_from n ds) same
located-append offset (c ∷ cs) ds =
    let next : (offset + len_utf8 c) + length (encodes cs) ≡ offset + length (encode_utf8 c ++ encodes cs) =
    omega (arith, length-encode c, length-append (encode_utf8 c) (encodes cs)) in
    ap (λ (l : List Located). (offset, c) ∷ l)
    (located-append (offset + len_utf8 c) cs ds ∙ ap (λ n. located_from (offset + len_utf8 c) cs ++ located_from n ds) next)

-- the characters of a text that is made of two
pub pieces-append : (offset next : ℕ) (text front rest : List ℕ) → IsUtf8 front → text ≡ front ++ rest → next ≡ offset + length front
    → located_from offset (chars text) ≡ located_from offset (chars front) ++ located_from next (chars rest)
pieces-append offset next text front rest utf8 is at =
    ap (located_from offset) (ap chars is ∙ chars-append front rest utf8)
    ∙ located-append offset (chars front) (chars rest)
    ∙ ap (λ n. located_from offset (chars front) ++ located_from n (chars rest))
    (ap (λ (l : List ℕ). offset + length l) (encodes-chars front utf8) ∙ sym at)

-- one character at the end
pub last_left : (offset : ℕ) (text front : List ℕ) (c : ℕ) → IsUtf8 front → IsScalar c → text ≡ front ++ encode_utf8 c
    → located_from offset (chars text) ≡ located_from offset (chars front) ++ (offset + length front, c) ∷ []
last_left offset text front c utf8 scalar is =
    let one : chars (encode_utf8 c) ≡ c ∷ [] =
    chars_past_char (encode_utf8 c) [] c (IsUtf8-encode c scalar) (sym (append-nil (encode_utf8 c))) ∙ ap (λ l. c ∷ l) chars-nil in
    pieces-append offset (offset + length front) text front (encode_utf8 c) utf8 is refl
    ∙ ap (λ cs. located_from offset (chars front) ++ located_from (offset + length front) cs) one

-- the characters of a text write it
text_of-located : (offset : ℕ) (cs : List ℕ) → text_of (located_from offset cs) ≡ encodes cs
text_of-located offset [] = refl
text_of-located offset (c ∷ cs) = ap (λ l. encode_utf8 c ++ l) (text_of-located (offset + len_utf8 c) cs)

pub text_of-piece : (offset : ℕ) (text : List ℕ) → IsUtf8 text → text_of (located_from offset (chars text)) ≡ text
text_of-piece offset text utf8 = text_of-located offset (chars text) ∙ encodes-chars text utf8

-- what comes before the same is the same
pub same_front : (one two rest all : List Located) → one ++ rest ≡ all → two ++ rest ≡ all → one ≡ two
same_front one two rest all is other = append_cancel_right one two rest (is ∙ sym other)

-- ---- pieces that end alike

pub ends_all : (piece : Piece) → EndsWith piece piece
ends_all piece = ([], refl, omega arith)

pub ends_on : (all mid rest : Piece) → EndsWith all mid → EndsWith mid rest → EndsWith all rest
ends_on all mid rest one two = (
  one.0 ++ two.0,
  one.1 ∙ ap (λ l. one.0 ++ l) two.1 ∙ sym (append_assoc one.0 two.0 rest.text.now),
  omega (arith, one.2, two.2, length-append one.0 two.0),
)

-- ---- what is before a piece

module _ (all rest : Piece) (ends : EndsWith all rest) (all_utf8 : IsUtf8 all.text.now) (rest_utf8 : IsUtf8 rest.text.now) where
  before_count : length all.text.now - length rest.text.now ≡ length ends.0
  before_count = omega (arith, ap length ends.1, length-append ends.0 rest.text.now)

  pub before_within : length rest.text.now ≤ length all.text.now
  before_within = omega (arith, ap length ends.1, length-append ends.0 rest.text.now)

  pub before_seam : IsCharBoundary all.text.now (length all.text.now - length rest.text.now)
  before_seam = subst (IsCharBoundary all.text.now) (sym before_count) (IsCharBoundary-at_seam all.text.now ends.0 rest.text.now ends.1 rest_utf8)

  module _ (count : ℕ) (text : List ℕ) (counted : count ≡ length all.text.now - length rest.text.now) (taken : text ≡ take (count - 0) all.text.now) where
    before_text : text ≡ ends.0
    before_text =
        let same : count - 0 ≡ length ends.0 = omega (arith, counted, before_count) in
        taken ∙ ap (λ n. take n all.text.now) same ∙ ap (take (length ends.0)) ends.1 ∙ take_at ends.0 rest.text.now (length ends.0) refl

    pub before_utf8 : IsUtf8 text
    before_utf8 =
        let same : count - 0 ≡ length all.text.now - length rest.text.now = omega (arith, counted) in
        subst IsUtf8 (sym (taken ∙ ap (λ n. take n all.text.now) same))
        (IsUtf8-take all.text.now (length all.text.now - length rest.text.now) all_utf8 before_seam)

    pub before_fits : length text ≤ length all.text.now
    before_fits = omega (arith, ap length before_text, before_count)

    pub before_characters : located_from all.offset (chars text) ++ characters rest ≡ characters all
    before_characters =
        sym (pieces-append all.offset rest.offset all.text.now text rest.text.now before_utf8
        (ends.1 ∙ ap (λ l. l ++ rest.text.now) (sym before_text)) (ends.2 ∙ ap (λ (l : List ℕ). all.offset + length l) (sym before_text)))
