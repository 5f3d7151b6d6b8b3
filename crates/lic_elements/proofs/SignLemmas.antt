-- Where the first `<` of a text is.
use Rattle.std.proofs.Common.{◌≡◌, ℕ, ◌+◌, ◌<◌, false, ◌||◌, ◌==◌, Some, None, List, [], ◌∷◌, ◌++◌, length, take, drop, refl, sym, ap, ◌∙◌, subst, arith, length-append, get_or, ne_eqb, eq-eqb, lit<}
use Rattle.std.specs.Prelude.{chars}
use Rattle.std.specs.List.{list_any}
use Rattle.std.specs.Char.{encode_utf8, len_utf8}
use Rattle.std.specs.Str.{IsUtf8, IsCharBoundary}
use Rattle.std.proofs.Math.Utf8.{encodes}
use Rattle.std.proofs.lemmas.Bool.{eqb-true}
use Rattle.std.proofs.lemmas.Str.{IsCharBoundary-after_ascii, IsCharBoundary-before_ascii, IsUtf8-drop, IsUtf8-take, encodes-chars, encode_ascii, length-encode, len_utf8_bounds}
use Rattle.std.proofs.lemmas.List.{drop_more, get_or-append-add, get_or-drop, get_or-take, length-drop, length-take-le, take-append-drop}
use Rattle.memchr.specs.Find.{IsFirstByte, is_byte}
use Rattle.lic_ere.specs.Located.{located_from}
use Rattle.lic_ere.proofs.LocatedLemmas.{one_left}
use Rattle.lic_elements.specs.declared.piece.Piece.{Piece}
use Rattle.lic_elements.specs.Signs.{less}
use Rattle.lic_elements.specs.Pieces.{EndsWith, IsNextSign, characters, has_sign}
use Rattle.lic_elements.proofs.LocatedLemmas.{ends_on, pieces-append}

-- none of these bytes is a `<`
abbrev HasNoMark : List ℕ → Type 0
HasNoMark bytes = (k : ℕ) → k < length bytes → get_or bytes k 0 ≡ less → ⊥

encoded-no_mark : (cs : List ℕ) → HasNoMark (encodes cs) → list_any (λ c. c == less) cs ≡ false
encoded-no_mark [] none = refl
encoded-no_mark (c ∷ cs) none =
    let here = encode_utf8 c in
    let rest = encodes cs in
    let long : 0 < length here = omega (arith, length-encode c, len_utf8_bounds c) in
    let other : (c == less) ≡ false =
    ne_eqb c less (λ is. none 0 (omega (arith, length-append here rest))
    (ap (λ l. get_or (l ++ rest) 0 0) (ap encode_utf8 is ∙ encode_ascii less (lit< tt)))) in
    let more : list_any (λ c. c == less) cs ≡ false =
    encoded-no_mark cs (λ k within at. none (length here + k) (omega (arith, length-append here rest)) (get_or-append-add here rest k 0 ∙ at)) in
    ap (λ b. b || list_any (λ c. c == less) cs) other ∙ more

-- the offsets of characters do not count
pub sign-located : (offset : ℕ) (cs : List ℕ) → has_sign (located_from offset cs) ≡ list_any (λ c. c == less) cs
sign-located offset [] = refl
sign-located offset (c ∷ cs) = ap (λ b. (c == less) || b) (sign-located (offset + len_utf8 c) cs)

-- a text in which no byte is a `<` has none
no_mark : (offset : ℕ) (text : List ℕ) → IsUtf8 text → HasNoMark text → has_sign (located_from offset (chars text)) ≡ false
no_mark offset text utf8 none =
    sign-located offset (chars text) ∙ encoded-no_mark (chars text) (subst HasNoMark (sym (encodes-chars text utf8)) none)

pub no_sign : (piece : Piece) → IsUtf8 piece.text.now → IsFirstByte (is_byte less) piece.text.now None → has_sign (characters piece) ≡ false
no_sign piece utf8 none =
    no_mark piece.offset piece.text.now utf8
    (λ k within at. none k (omega arith) within (eq-eqb (get_or piece.text.now k 0) less at))

-- the first `<`, and what is round it
module _ (text : List ℕ) (count : ℕ) (utf8 : IsUtf8 text) (found : IsFirstByte (is_byte less) text (Some count)) where
  sign_within : count < length text
  sign_within = found.0.high

  sign_there : get_or text count 0 ≡ less
  sign_there = eqb-true (get_or text count 0) less found.1

  pub sign_seam : IsCharBoundary text count
  sign_seam = IsCharBoundary-before_ascii text count sign_within (omega (arith, sign_there))

  pub taken_length : length (take count text) ≡ count
  taken_length = length-take-le count text (omega (arith, sign_within))

  none_before : HasNoMark (take count text)
  none_before k within at =
      let low : k < count = omega (arith, taken_length) in
      found.0.before k (omega arith) low (eq-eqb (get_or text k 0) less (sym (get_or-take count text k 0 low) ∙ at))

  pub no_sign_before : (offset : ℕ) → has_sign (located_from offset (chars (take count text))) ≡ false
  no_sign_before offset = no_mark offset (take count text) (IsUtf8-take text count utf8 sign_seam) none_before

  module _ (here : List ℕ) (is : here ≡ drop count text) where
    pub here_utf8 : IsUtf8 here
    here_utf8 = subst IsUtf8 (sym is) (IsUtf8-drop text count utf8 sign_seam)

    here_first : get_or here 0 0 ≡ less
    here_first =
        ap (λ (l : List ℕ). get_or l 0 0) is ∙ get_or-drop count text 0 0 ∙ ap (λ n. get_or text n 0) (omega arith) ∙ sign_there

    pub here_long : 0 < length here
    here_long = omega (arith, sign_within, ap length is, length-drop count text)

    pub after_seam : IsCharBoundary here 1
    after_seam = IsCharBoundary-after_ascii here 0 here_utf8 here_long (omega (arith, here_first))

    pub after_utf8 : IsUtf8 (drop 1 here)
    after_utf8 = IsUtf8-drop here 1 here_utf8 after_seam

    pub here_is : here ≡ less ∷ drop 1 here
    here_is = drop_more here 0 0 here_long ∙ ap (λ c. c ∷ drop 1 here) here_first

pub next_sign : (piece here after : Piece) (count : ℕ) → IsUtf8 piece.text.now → IsFirstByte (is_byte less) piece.text.now (Some count)
    → here.text.now ≡ drop count piece.text.now → here.offset ≡ piece.offset + count → after.text.now ≡ drop 1 here.text.now
    → after.offset ≡ here.offset + 1 → IsNextSign piece here after
next_sign piece here after count utf8 found here_text here_offset after_text after_offset =
    let text : List ℕ = piece.text.now in
    let front : List ℕ = take count text in
    let came : here.text.now ≡ (less ∷ []) ++ after.text.now =
    here_is text count utf8 found here.text.now here_text ∙ ap (λ l. less ∷ l) (sym after_text) in
    let all : text ≡ front ++ here.text.now = sym (take-append-drop count text) ∙ ap (λ l. front ++ l) (sym here_text) in
    let at : here.offset ≡ piece.offset + length front = omega (arith, here_offset, taken_length text count utf8 found) in
    let ends : EndsWith piece here = (front, all, at) in
    record {
      ends = ends;
      ends_after = ends_on piece here after ends (less ∷ [], came, after_offset);
      sign = one_left here.offset after.offset here.text.now after.text.now less
          (here_utf8 text count utf8 found here.text.now here_text)
          (came ∙ ap (λ l. l ++ after.text.now) (sym (encode_ascii less (lit< tt)))) after_offset;
      front = located_from piece.offset (chars front);
      parts = pieces-append piece.offset here.offset text front here.text.now (IsUtf8-take text count utf8 (sign_seam text count utf8 found)) all at;
      first = no_sign_before text count utf8 found piece.offset;
    }

pub next_sign-shorter : (piece here after : Piece) → IsNextSign piece here after → length (characters after) < length (characters piece)
next_sign-shorter piece here after next =
    omega (arith, ap length next.parts, length-append next.front (characters here), ap length next.sign)
