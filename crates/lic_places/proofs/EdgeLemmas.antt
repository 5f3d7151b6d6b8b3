-- The blanks at the edges of a text, and the letters between them.
use Rattle.std.proofs.Common.{◌≡◌, ℕ, zero, suc, ◌+◌, ◌<◌, Bool, true, false, List, [], ◌∷◌, ◌++◌, length, get_or, take, reverse, refl, sym, ap, ◌∙◌, subst, arith, append-nil, append_assoc, length-append, eqb-true, lit<, IsTrue}
use Rattle.std.specs.Str.{chars, IsUtf8, IsCharBoundary}
use Rattle.std.proofs.Math.Utf8.{encodes}
use Rattle.std.proofs.lemmas.Bool.{true≢false}
use Rattle.std.proofs.lemmas.List.{drop_at, get_or_at, length-reverse, length-take-le, reverse-append, take_all, take_at, take_more}
use Rattle.std.proofs.lemmas.Str.{IsCharBoundary-before_ascii, IsUtf8-drop, IsUtf8-past_char, IsUtf8-take, chars-append, encode_ascii, encodes-chars}
use Rattle.lic_kind.specs.Kinds.{is_word_kind, kind_of}
use Rattle.lic_phrases.specs.Spelling.{begins_in_word, blank_if, ends_in_word, first_is_word}
use Rattle.lic_phrases.specs.PieceTexts.{IsPieceText}
use Rattle.lic_places.specs.Places.{IsAfterBlank, is_blank_at}
use Rattle.lic_places.proofs.Spelled.{begins_no_word, blank_if-utf8, chars-blank}
use Rattle.lic_places.specs.Texts.{AreEdges}

-- ---- UTF-8

-- a blank begins a character
boundary : (front after : List ℕ) → IsCharBoundary (front ++ 0x20 ∷ after) (length front)
boundary front after =
    let text = front ++ 0x20 ∷ after in
    let here : get_or text (length front) 0 ≡ 0x20 = get_or_at front 0x20 after 0 (length front) refl in
    let within : length front < length text = omega (arith, length-append front (0x20 ∷ after)) in
    IsCharBoundary-before_ascii text (length front) within (omega (arith, here))

-- so what is before it is in UTF-8
front-utf8 : (front after : List ℕ) → IsUtf8 (front ++ 0x20 ∷ after) → IsUtf8 front
front-utf8 front after utf8 =
    let text = front ++ 0x20 ∷ after in
    subst IsUtf8 (take_at front (0x20 ∷ after) (length front) refl)
    (IsUtf8-take text (length front) utf8 (boundary front after))

-- and what is after it
after-utf8 : (front after : List ℕ) → IsUtf8 (front ++ 0x20 ∷ after) → IsUtf8 after
after-utf8 front after utf8 =
    let text = front ++ 0x20 ∷ after in
    let from : IsUtf8 (0x20 ∷ after) =
    subst IsUtf8 (drop_at front (0x20 ∷ after) (length front) refl)
    (IsUtf8-drop text (length front) utf8 (boundary front after)) in
    IsUtf8-past_char (0x20 ∷ after) after 0x20 from (sym (ap (λ l. l ++ after) (encode_ascii 0x20 (lit< tt))))

without_front-utf8 : (has_blank : Bool) (after : List ℕ) → IsUtf8 (blank_if has_blank ++ after) → IsUtf8 after
without_front-utf8 true after utf8 = after-utf8 [] after utf8
without_front-utf8 false after utf8 = utf8

without_end-utf8 : (has_blank : Bool) (front : List ℕ) → IsUtf8 (front ++ blank_if has_blank) → IsUtf8 front
without_end-utf8 true front utf8 = front-utf8 front [] utf8
without_end-utf8 false front utf8 = subst IsUtf8 (append-nil front) utf8

-- ---- letters of words beside a blank

first_of_front : (xs ys : List ℕ) → 0 < length xs → first_is_word (xs ++ ys) ≡ first_is_word xs
first_of_front [] ys some = absurd (omega arith)
first_of_front (x ∷ xs) ys some = refl

chars-some : (text : List ℕ) → IsUtf8 text → 0 < length text → 0 < length (chars text)
chars-some text utf8 some = by_chars (chars text) refl
  where
    by_chars : (cs : List ℕ) → chars text ≡ cs → 0 < length cs
    by_chars [] e = absurd (omega (arith, some, ap length (sym (encodes-chars text utf8) ∙ ap encodes e)))
    by_chars (c ∷ cs) e = omega arith

-- a blank before a text does not change its last letter
ends-after_blank : (has_blank : Bool) (text : List ℕ) → IsUtf8 text → 0 < length text →
    ends_in_word (blank_if has_blank ++ text) ≡ ends_in_word text
ends-after_blank has_blank text utf8 some =
    ap first_is_word
    (ap reverse (chars-append (blank_if has_blank) text (blank_if-utf8 has_blank))
    ∙ reverse-append (chars (blank_if has_blank)) (chars text))
    ∙ first_of_front (reverse (chars text)) (reverse (chars (blank_if has_blank)))
    (omega (arith, length-reverse (chars text), chars-some text utf8 some))

-- nor one after it its first
begins-before_blank : (has_blank : Bool) (text : List ℕ) → IsUtf8 text → 0 < length text →
    begins_in_word (text ++ blank_if has_blank) ≡ begins_in_word text
begins-before_blank has_blank text utf8 some =
    ap first_is_word (chars-append text (blank_if has_blank) utf8)
    ∙ first_of_front (chars text) (chars (blank_if has_blank)) (chars-some text utf8 some)

blank_no_word : is_word_kind (kind_of 0x20) ≡ false
unfolding kind_of
blank_no_word = refl

-- one blank ends with no letter of a word
ends_no_word : ends_in_word (0x20 ∷ []) ≡ false
ends_no_word = ap (λ l. first_is_word (reverse l)) chars-blank ∙ blank_no_word

-- ---- blanks within the letters

-- a blank within the letters is one within the text, beside the same letters: without the blank before the text
without_front-piece : (has_blank : Bool) (after : List ℕ) → IsUtf8 after → IsPieceText (blank_if has_blank ++ after) →
    IsPieceText after
without_front-piece has_blank after utf8 piece left right is some more =
    let all = ap (λ l. blank_if has_blank ++ l) is ∙ sym (append_assoc (blank_if has_blank) left (0x20 ∷ right)) in
    let words = piece (blank_if has_blank ++ left) right all (omega (arith, length-append (blank_if has_blank) left, some)) more in
    let left_utf8 = front-utf8 left right (subst IsUtf8 is utf8) in
    (subst IsTrue (ends-after_blank has_blank left left_utf8 some) words.0, words.1)

-- and without the one after it
without_end-piece : (has_blank : Bool) (front : List ℕ) → IsUtf8 front → IsPieceText (front ++ blank_if has_blank) →
    IsPieceText front
without_end-piece has_blank front utf8 piece left right is some more =
    let all = ap (λ l. l ++ blank_if has_blank) is ∙ append_assoc left (0x20 ∷ right) (blank_if has_blank) in
    let words = piece left (right ++ blank_if has_blank) all some (omega (arith, length-append right (blank_if has_blank), more)) in
    let right_utf8 = after-utf8 left right (subst IsUtf8 is utf8) in
    (words.0, subst IsTrue (begins-before_blank has_blank right right_utf8 more) words.1)

-- ---- blanks at the edges of the letters

-- no text of more than two blanks begins with two
two_first : (after : List ℕ) → IsPieceText (0x20 ∷ 0x20 ∷ after) → 0 < length after → ⊥
two_first after piece some = true≢false (sym (piece (0x20 ∷ []) after refl (omega arith) some).0 ∙ ends_no_word)

-- and none ends with two
two_last : (front : List ℕ) → IsPieceText (front ++ 0x20 ∷ 0x20 ∷ []) → 0 < length front → ⊥
two_last front piece some = true≢false (sym (piece front (0x20 ∷ []) refl some (omega arith)).1 ∙ begins_no_word [])

-- the letters before a blank that is last
ends_blank : (letters : List ℕ) (p : ℕ) → length letters ≡ suc p → IsTrue (is_blank_at letters p) →
    letters ≡ take p letters ++ 0x20 ∷ []
ends_blank letters p end is =
    sym (take_all (p + 1) letters (omega (arith, end)))
    ∙ take_more letters p 0 (omega (arith, end))
    ∙ ap (λ c. take p letters ++ c ∷ []) (eqb-true (get_or letters p 0) 0x20 is)

-- no letters end with a blank where another one follows, unless they are that blank alone and none is before it
ends_twice : (has_front : Bool) (letters : List ℕ) (p : ℕ) → IsPieceText (blank_if has_front ++ (letters ++ 0x20 ∷ [])) →
    length letters ≡ suc p → IsTrue (is_blank_at letters p) → 0 < length (blank_if has_front) + p → ⊥
ends_twice has_front letters p piece end is some =
    let front = take p letters in
    let cut : blank_if has_front ++ (letters ++ 0x20 ∷ []) ≡ (blank_if has_front ++ front) ++ 0x20 ∷ 0x20 ∷ [] =
    ap (λ l. blank_if has_front ++ (l ++ 0x20 ∷ [])) (ends_blank letters p end is)
    ∙ ap (λ l. blank_if has_front ++ l) (append_assoc front (0x20 ∷ []) (0x20 ∷ []))
    ∙ sym (append_assoc (blank_if has_front) front (0x20 ∷ 0x20 ∷ [])) in
    let many : length front ≡ p = length-take-le p letters (omega (arith, end)) in
    two_last (blank_if has_front ++ front) (subst IsPieceText cut piece)
    (omega (arith, length-append (blank_if has_front) front, many, some))

-- the text begins with no blank but the one before the letters
abbrev pub HasNoFront : List ℕ → Bool → Type 0
HasNoFront text has_front = has_front ≡ false → ¬ (IsTrue (is_blank_at text 0))

-- and ends with none but the one after them
abbrev pub HasNoEnd : List ℕ → Bool → Type 0
HasNoEnd text has_end = has_end ≡ false → ¬ (IsAfterBlank text (length text))

-- the letters do not begin with a blank
letters-front : (has_front has_end : Bool) (letters : List ℕ) →
    IsPieceText (blank_if has_front ++ (letters ++ blank_if has_end)) →
    HasNoFront (blank_if has_front ++ (letters ++ blank_if has_end)) has_front →
    HasNoEnd (letters ++ blank_if has_end) has_end → ¬ (IsTrue (is_blank_at letters 0))
letters-front has_front has_end [] piece front end is = true≢false (sym is)
letters-front false has_end (c ∷ letters) piece front end is = front refl is
letters-front true false (c ∷ []) piece front end is = end refl (0, refl, is)
letters-front true false (c ∷ d ∷ letters) piece front end is =
    let blank_first : c ≡ 0x20 = eqb-true c 0x20 is in
    two_first (d ∷ letters ++ []) (subst (λ x. IsPieceText (0x20 ∷ x ∷ d ∷ letters ++ [])) blank_first piece) (omega arith)
letters-front true true (c ∷ letters) piece front end is =
    let blank_first : c ≡ 0x20 = eqb-true c 0x20 is in
    two_first (letters ++ 0x20 ∷ []) (subst (λ x. IsPieceText (0x20 ∷ x ∷ letters ++ 0x20 ∷ [])) blank_first piece)
    (omega (arith, length-append letters (0x20 ∷ [])))

-- nor end with one
letters-end : (has_front has_end : Bool) (letters : List ℕ) →
    IsPieceText (blank_if has_front ++ (letters ++ blank_if has_end)) →
    HasNoFront (blank_if has_front ++ (letters ++ blank_if has_end)) has_front →
    HasNoEnd (letters ++ blank_if has_end) has_end → ¬ (IsAfterBlank letters (length letters))
letters-end has_front false letters piece front end is =
    subst (λ l. ¬ (IsAfterBlank l (length l))) (append-nil letters) (end refl) is
letters-end has_front true [] piece front end is = absurd (omega (arith, is.1))
letters-end true true (c ∷ letters) piece front end is =
    ends_twice true (c ∷ letters) is.0 piece is.1 is.2 (omega arith)
letters-end false true (c ∷ []) piece front end (zero, at, is) = front refl is
letters-end false true (c ∷ d ∷ letters) piece front end (zero, at, is) = absurd (omega (arith, at))
letters-end false true (c ∷ letters) piece front end (suc p, at, is) =
    ends_twice false (c ∷ letters) (suc p) piece at is (omega arith)

-- the parts of a text between its blanks at the edges
pub are_edges : (text after letters : List ℕ) (has_front has_end : Bool) → IsUtf8 text → IsPieceText text →
    text ≡ blank_if has_front ++ after → HasNoFront text has_front →
    after ≡ letters ++ blank_if has_end → HasNoEnd after has_end →
    AreEdges text has_front letters has_end
are_edges text after letters has_front has_end text_utf8 text_piece begins front ends end = record {
  parts = parts;
  are = λ some. record {
    utf8 = utf8;
    piece = piece;
    some = some;
    front = letters-front has_front has_end letters all_piece no_front no_end;
    end = letters-end has_front has_end letters all_piece no_front no_end;
  };
  utf8 = utf8;
}
  where
    parts : text ≡ blank_if has_front ++ (letters ++ blank_if has_end)
    parts = begins ∙ ap (λ l. blank_if has_front ++ l) ends

    all_piece : IsPieceText (blank_if has_front ++ (letters ++ blank_if has_end))
    all_piece = subst IsPieceText parts text_piece

    no_front : HasNoFront (blank_if has_front ++ (letters ++ blank_if has_end)) has_front
    no_front = subst (λ l. HasNoFront l has_front) parts front

    no_end : HasNoEnd (letters ++ blank_if has_end) has_end
    no_end = subst (λ l. HasNoEnd l has_end) ends end

    later_utf8 : IsUtf8 (letters ++ blank_if has_end)
    later_utf8 = without_front-utf8 has_front (letters ++ blank_if has_end) (subst IsUtf8 parts text_utf8)

    utf8 : IsUtf8 letters
    utf8 = without_end-utf8 has_end letters later_utf8

    piece : IsPieceText letters
    piece = without_end-piece has_end letters utf8 (without_front-piece has_front (letters ++ blank_if has_end) later_utf8 all_piece)
