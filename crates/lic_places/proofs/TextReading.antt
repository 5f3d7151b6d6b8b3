-- The letters of a text with no blank at its edges are read exactly where its bytes occur.
use Rattle.std.proofs.Common.{◌≡◌, ◌↔◌, ℕ, suc, ◌+◌, ◌<◌, ◌≤◌, true, false, inl, inr, List, [], ◌∷◌, ◌++◌, length, get_or, take, drop, reverse, refl, sym, ap, ◌∙◌, subst, arith, append-nil, length-append, eqb-true, add-one, lit<, All, IsTrue}
use Rattle.std.specs.Char.{IsScalar}
use Rattle.std.specs.Str.{chars, IsUtf8}
use Rattle.std.proofs.Math.Utf8.{encode, encodes, scalar, scalars}
use Rattle.std.proofs.lemmas.Bool.{eq-eqb, cases_Bool, cases_eq, cases_lt, and_parts, and_from, true≢false}
use Rattle.std.proofs.lemmas.List.{reverse-append, length-map, length-reverse, take_all, take_at, drop_at, drop_all, get_or_at}
use Rattle.std.proofs.lemmas.List.Elements.{All-take, All-drop, All-get_or}
use Rattle.std.proofs.lemmas.Str.{IsUtf8-encode, IsUtf8-append, IsUtf8-take, IsCharBoundary-at_seam, chars-append, chars-encodes, chars_past_char, char_from_byte, encode_ascii, encodes-append, encodes-chars, length-encode, len_utf8_bounds, length-le-encodes, scalars-chars}
use Rattle.lic_kind.specs.Kinds.{kind_of}
use Rattle.lic_phrases.specs.Spelling.{first_is_word, begins_in_word, ends_in_word, is_parted_at, blank_if, spelled}
use Rattle.lic_words.specs.Words.{blank}
use Rattle.lic_words.specs.Letters.{is_word}
use Rattle.lic_tokens.specs.Tokens.{TokenValue}
use Rattle.lic_phrases.specs.PieceTexts.{IsPieceText}
use Rattle.lic_tokens.specs.Places.{texts_of, place_end, IsTokenEnd}
use Rattle.lic_places.specs.Places.{AreTexts, IsAfterBlank, OverBlank, Occurs, is_blank_at, spelling_of, HasGap}
use Rattle.lic_places.specs.Places.OverBlank.{over, stays}
use Rattle.lic_places.specs.Reads.{Takes, Reads}
use Rattle.lic_places.proofs.Spelled.{before, spelled-before, spelled-cut, spelled-front, spelled-from, spelled-utf8, blank_if-utf8}
use Rattle.lic_places.proofs.Occurring.{Occurs-drop, Occurs-nil, Occurs-append, Occurs-left, Occurs-right, Occurs-take, Occurs-first, blank_occurs, occurs_blank}
use Rattle.lic_places.proofs.TokenPlaces.{length-texts_of, texts_of-utf8, text_token, place_end-is, blank-between}

-- ---- letters

blank_no_word : is_word blank ≡ false
unfolding kind_of
blank_no_word = refl

encode-blank : encode blank ≡ 0x20 ∷ []
encode-blank = encode_ascii blank (lit< tt)

encode-some : (c : ℕ) → 0 < length (encode c)
encode-some c = omega (arith, length-encode c, (len_utf8_bounds c).0)

-- where a letter is whose first byte is a blank, it is a blank
blank_letter : (bytes : List ℕ) (p c q : ℕ) → Occurs bytes p (encode c) q → IsTrue (is_blank_at bytes p) → c ≡ blank
blank_letter bytes p c q occurs is = by_bytes (encode c) refl
  where
    by_bytes : (bs : List ℕ) → encode c ≡ bs → c ≡ blank
    by_bytes [] e = absurd (omega (arith, encode-some c, ap length e))
    by_bytes (b ∷ bs) e =
        let here : b ≡ blank = sym (Occurs-first bytes p b bs q (subst (λ l. Occurs bytes p l q) e occurs))
        ∙ eqb-true (get_or bytes p 0) 0x20 is in
        char_from_byte (b ∷ bs) [] c (sym e ∙ sym (append-nil (encode c))) (omega arith) (omega arith) ∙ here

-- ---- the letters beside a place

first_of_front : (xs ys : List ℕ) → 0 < length xs → first_is_word (xs ++ ys) ≡ first_is_word xs
first_of_front [] ys some = absurd (omega arith)
first_of_front (x ∷ xs) ys some = refl

chars-some : (text : List ℕ) → IsUtf8 text → 0 < length text → 0 < length (chars text)
chars-some text utf8 some = by_chars (chars text) refl
  where
    by_chars : (cs : List ℕ) → chars text ≡ cs → 0 < length cs
    by_chars [] e = absurd (omega (arith, some, ap length (sym (encodes-chars text utf8) ∙ ap encodes e)))
    by_chars (c ∷ cs) e = omega arith

-- a text that comes before others begins as all do
begins-front : (text after rest : List ℕ) (c : ℕ) → IsUtf8 text → 0 < length text → IsUtf8 (text ++ after)
    → text ++ after ≡ encode c ++ rest → begins_in_word text ≡ is_word c
begins-front text after rest c utf8 some all is =
    sym (first_of_front (chars text) (chars after) (chars-some text utf8 some))
    ∙ ap first_is_word (sym (chars-append text after utf8) ∙ chars_past_char (text ++ after) rest c all is)

chars-encode : (c : ℕ) → IsScalar c → chars (encode c) ≡ c ∷ []
chars-encode c is = ap chars (sym (append-nil (encode c))) ∙ chars-encodes (c ∷ []) (and_from (scalar c) true is refl)

ends-append : (front text : List ℕ) → IsUtf8 front → 0 < length (chars text)
    → ends_in_word (front ++ text) ≡ ends_in_word text
ends-append front text utf8 some =
    ap first_is_word (ap reverse (chars-append front text utf8) ∙ reverse-append (chars front) (chars text))
    ∙ first_of_front (reverse (chars text)) (reverse (chars front)) (omega (arith, length-reverse (chars text), some))

-- a text that comes after others ends as all do
ends-after : (front text rest : List ℕ) (c : ℕ) → IsUtf8 front → IsUtf8 text → 0 < length text → IsScalar c
    → front ++ text ≡ rest ++ encode c → ends_in_word text ≡ is_word c
ends-after front text rest c front_utf8 utf8 some is_scalar is =
    let letter : IsUtf8 (encode c) = IsUtf8-encode c is_scalar in
    let all : IsUtf8 (front ++ text) = IsUtf8-append front text front_utf8 utf8 in
    let cut = IsCharBoundary-at_seam (front ++ text) rest (encode c) is letter in
    let rest_utf8 : IsUtf8 rest =
    subst IsUtf8 (ap (take (length rest)) is ∙ take_at rest (encode c) (length rest) refl)
    (IsUtf8-take (front ++ text) (length rest) all cut) in
    let one : 0 < length (chars (encode c)) = omega (arith, ap length (chars-encode c is_scalar)) in
    sym (ends-append front text front_utf8 (chars-some text utf8 some))
    ∙ ap ends_in_word is
    ∙ ends-append rest (encode c) rest_utf8 one
    ∙ ap (λ l. first_is_word (reverse l)) (chars-encode c is_scalar)

-- ---- between two letters of kind Word

-- the letter before the end of a token's text
letter_before : (texts : List (List ℕ)) (i o c p : ℕ) → i < length texts → p ≡ length (spelled (take (suc i) texts))
    → All IsUtf8 texts → 0 < length (get_or texts i []) → IsScalar c → Occurs (spelled texts) o (encode c) p
    → ends_in_word (get_or texts i []) ≡ is_word c
letter_before texts i o c p within end utf8 some is_scalar occurs =
    let front = spelled (take (suc i) texts) in
    let cut = spelled-front texts i within in
    let ends : front ≡ take o (spelled texts) ++ encode c =
    sym (take_at front cut.0 p (sym end)) ∙ ap (take p) (sym cut.1)
    ∙ Occurs-take (spelled texts) o (encode c) p occurs in
    ends-after (before texts i) (get_or texts i []) (take o (spelled texts)) c
    (IsUtf8-append (spelled (take i texts)) (blank_if (is_parted_at texts i))
    (spelled-utf8 (take i texts) (All-take IsUtf8 i texts utf8)) (blank_if-utf8 (is_parted_at texts i)))
    (All-get_or IsUtf8 texts i [] within utf8) some is_scalar
    (sym (spelled-before texts i within) ∙ ends)

-- what follows the end of a token's text
after_end : (texts : List (List ℕ)) (i p : ℕ) → suc i < length texts → p ≡ length (spelled (take (suc i) texts))
    → drop p (spelled texts) ≡ blank_if (is_parted_at texts (suc i)) ++ spelled (drop (suc i) texts)
after_end texts i p within end =
    ap (drop p) (spelled-cut texts i within)
    ∙ drop_at (spelled (take (suc i) texts)) (blank_if (is_parted_at texts (suc i)) ++ spelled (drop (suc i) texts)) p (sym end)

letter_after : (texts : List (List ℕ)) (i p d q : ℕ) → suc i < length texts
    → p ≡ length (spelled (take (suc i) texts)) → is_parted_at texts (suc i) ≡ false
    → All IsUtf8 texts → 0 < length (get_or texts (suc i) []) → Occurs (spelled texts) p (encode d) q
    → begins_in_word (get_or texts (suc i) []) ≡ is_word d
letter_after texts i p d q within end joined utf8 some occurs =
    let from = spelled-from texts (suc i) within in
    let rest = spelled (drop (suc i) texts) in
    let here : rest ≡ encode d ++ drop q (spelled texts) =
    sym (after_end texts i p within end ∙ ap (λ b. blank_if b ++ rest) joined)
    ∙ Occurs-drop (spelled texts) p (encode d) q occurs in
    begins-front (get_or texts (suc i) []) from.0 (drop q (spelled texts)) d
    (All-get_or IsUtf8 texts (suc i) [] within utf8) some
    (subst IsUtf8 from.1 (spelled-utf8 (drop (suc i) texts) (All-drop IsUtf8 (suc i) texts utf8)))
    (sym from.1 ∙ here)

-- where a token ends and no blank is there, the letters beside the place are not both of kind Word
pub token_end : (tokens : List TokenValue) (o c p d q : ℕ) → AreTexts tokens → IsTokenEnd tokens p → IsScalar c
    → IsTrue (is_word c) → IsTrue (is_word d) → Occurs (spelling_of tokens) o (encode c) p
    → Occurs (spelling_of tokens) p (encode d) q → (IsTrue (is_blank_at (spelling_of tokens) p) → ⊥) → ⊥
token_end tokens o c p d q are ends is_scalar first_word second_word first second free =
    let i = ends.number in
    let texts = texts_of tokens in
    let here : p ≡ length (spelled (take (suc i) texts)) = ends.ends ∙ place_end-is tokens i in
    let utf8 = texts_of-utf8 tokens are in
    let inside : i < length texts = omega (arith, length-texts_of tokens, ends.within) in
    let ends_word : ends_in_word (get_or texts i []) ≡ true =
    letter_before texts i o c p inside here utf8 (text_token tokens i are ends.within).not_empty is_scalar first
    ∙ first_word in
    elim (cases_lt (suc i) (length texts)) [
      | inl within ↦ elim (cases_Bool (is_parted_at texts (suc i))) [
        | inl parted ↦ free (subst (λ r. IsTrue (is_blank_at (spelling_of tokens) r)) (sym ends.ends)
            (blank-between tokens i (omega (arith, length-texts_of tokens)) parted))
        | inr joined ↦
            let more = text_token tokens (suc i) are (omega (arith, length-texts_of tokens)) in
            let begins_word : begins_in_word (get_or texts (suc i) []) ≡ true =
            letter_after texts i p d q within here joined utf8 more.not_empty second ∙ second_word in
            true≢false (sym (and_from (ends_in_word (get_or texts i [])) (begins_in_word (get_or texts (suc i) [])) ends_word begins_word)
            ∙ joined)
      ]
      | inr past ↦
          let all : spelled (take (suc i) texts) ≡ spelled texts = ap spelled (take_all (suc i) texts past) in
          let none : drop p (spelled texts) ≡ [] = drop_all p (spelled texts) (omega (arith, here, ap length all)) in
          let some = ap length (sym none ∙ Occurs-drop (spelled texts) p (encode d) q second) in
          absurd (omega (arith, encode-some d, some, length-append (encode d) (drop q (spelled texts))))
    ]

-- ---- blanks within a text

-- each blank is between two letters of kind Word; `last` is the letter before
abbrev AreBetween : ℕ → List ℕ → Type 0
AreBetween last [] = Unit {0}
AreBetween last (c ∷ cs) = (c ≡ blank → IsTrue (is_word last) × IsTrue (first_is_word cs)) × AreBetween c cs

AreBetween-each : (last : ℕ) (cs : List ℕ)
    → ((front rest : List ℕ) → last ∷ cs ≡ front ++ (blank ∷ rest) → 0 < length front
    → IsTrue (first_is_word (reverse front)) × IsTrue (first_is_word rest)) → AreBetween last cs
AreBetween-each last [] each = tt
AreBetween-each last (c ∷ cs) each = (
  λ is. each (last ∷ []) cs (ap (λ x. last ∷ x ∷ cs) is) (omega arith),
  AreBetween-each c cs (λ front rest e some.
      let beside = each (last ∷ front) rest (ap (λ l. last ∷ l) e) (omega arith) in
      let same : first_is_word (reverse (last ∷ front)) ≡ first_is_word (reverse front) =
      ap first_is_word (reverse-append (last ∷ []) front)
      ∙ first_of_front (reverse front) (last ∷ []) (omega (arith, length-reverse front, some)) in
      (sym same ∙ beside.0, beside.1)),
)

scalars-left : (f r : List ℕ) → scalars (f ++ (blank ∷ r)) ≡ true → scalars f ≡ true
scalars-left [] r h = refl
scalars-left (c ∷ f) r h =
    let parts = and_parts (scalar c) (scalars (f ++ (blank ∷ r))) h in
    and_from (scalar c) (scalars f) parts.0 (scalars-left f r parts.1)

scalars-right : (f r : List ℕ) → scalars (f ++ (blank ∷ r)) ≡ true → scalars r ≡ true
scalars-right [] r h = (and_parts (scalar blank) (scalars r) h).1
scalars-right (c ∷ f) r h = scalars-right f r (and_parts (scalar c) (scalars (f ++ (blank ∷ r))) h).1

module _ (text : List ℕ) (utf8 : IsUtf8 text) (piece : IsPieceText text)
    (after : IsAfterBlank text (length text) → ⊥) where
  -- the bytes of the text, cut at a blank
  cut_bytes : (front rest : List ℕ) → chars text ≡ front ++ (blank ∷ rest) → text ≡ encodes front ++ (0x20 ∷ encodes rest)
  cut_bytes front rest e =
      sym (encodes-chars text utf8) ∙ ap encodes e ∙ encodes-append front (blank ∷ rest)
      ∙ ap (λ l. encodes front ++ (l ++ encodes rest)) encode-blank

  -- it is not the last letter
  not_last : (front rest : List ℕ) → chars text ≡ front ++ (blank ∷ rest) → 0 < length rest
  not_last front [] e =
      let cut = cut_bytes front [] e in
      let many : length text ≡ suc (length (encodes front)) =
      ap length cut ∙ length-append (encodes front) (0x20 ∷ []) ∙ add-one (length (encodes front)) in
      let at : get_or text (length (encodes front)) 0 ≡ 0x20 =
      ap (λ l. get_or l (length (encodes front)) 0) cut ∙ get_or_at (encodes front) 0x20 [] 0 (length (encodes front)) refl in
      absurd (after (length (encodes front), many, eq-eqb (get_or text (length (encodes front)) 0) 0x20 at))
  not_last front (d ∷ rest) e = omega arith

  letters_between : (front rest : List ℕ) → chars text ≡ front ++ (blank ∷ rest) → 0 < length front
      → IsTrue (first_is_word (reverse front)) × IsTrue (first_is_word rest)
  letters_between front rest e some =
      let more = not_last front rest e in
      let all : scalars (front ++ (blank ∷ rest)) ≡ true = sym (ap scalars e) ∙ scalars-chars text utf8 in
      let beside = piece (encodes front) (encodes rest) (cut_bytes front rest e)
      (omega (arith, length-le-encodes front, some)) (omega (arith, length-le-encodes rest, more)) in (
        sym (ap (λ l. first_is_word (reverse l)) (chars-encodes front (scalars-left front rest all))) ∙ beside.0,
        sym (ap first_is_word (chars-encodes rest (scalars-right front rest all))) ∙ beside.1,
      )

-- ---- what is read is there

-- the letter that is read first at a place where no gap leads over a blank
first_read : (tokens : List TokenValue) (p q : ℕ) (cs : List ℕ) → IsTrue (first_is_word cs) → Reads tokens p cs q
    → (d r : ℕ) × IsTrue (is_word d) × (d ≡ blank → ⊥) × Occurs (spelling_of tokens) p (encode d) r
first_read tokens p q [] word reads = absurd (let h : false ≡ true = word in cc)
first_read tokens p q (d ∷ cs) word reads = by_case reads.1
  where
    by_case : Takes tokens p d reads.0
        → (e r : ℕ) × IsTrue (is_word e) × (e ≡ blank → ⊥) × Occurs (spelling_of tokens) p (encode e) r
    by_case (inl over_blank) = absurd (true≢false (sym word ∙ ap is_word over_blank.0 ∙ blank_no_word))
    by_case (inr letter) = (d, reads.0, word, letter.0, letter.2)

-- a blank within a text is read over a blank
blank_taken : (tokens : List TokenValue) (last o p r q : ℕ) (cs : List ℕ) → AreTexts tokens → IsScalar last
    → Occurs (spelling_of tokens) o (encode last) p → IsTrue (is_word last) → IsTrue (first_is_word cs)
    → OverBlank tokens p r → Reads tokens r cs q → Occurs (spelling_of tokens) p (0x20 ∷ []) r
blank_taken tokens last o p r q cs are is_scalar occurs word next (over is) reads = blank_occurs (spelling_of tokens) p is
blank_taken tokens last o p r q cs are is_scalar occurs word next (stays free gap) reads =
    let first = first_read tokens p q cs next reads in
    let no_blank : IsTrue (is_blank_at (spelling_of tokens) p) → ⊥ =
    λ is. first.3 (blank_letter (spelling_of tokens) p first.0 first.1 first.4 is) in
    absurd (no_gap first.0 first.1 first.2 first.4 no_blank gap)
  where
    no_gap : (d e : ℕ) → IsTrue (is_word d) → Occurs (spelling_of tokens) p (encode d) e
        → (IsTrue (is_blank_at (spelling_of tokens) p) → ⊥) → HasGap tokens p → ⊥
    no_gap d e second_word second no_blank (inl start) = omega (arith, encode-some last, occurs.0, start)
    no_gap d e second_word second no_blank (inr (inl is)) = no_blank is
    no_gap d e second_word second no_blank (inr (inr ends)) =
        token_end tokens o last p d e are ends is_scalar word second_word occurs second no_blank

-- one letter
letter_taken : (tokens : List TokenValue) (last o p c r q : ℕ) (cs : List ℕ) → AreTexts tokens → IsScalar last
    → Occurs (spelling_of tokens) o (encode last) p
    → (c ≡ blank → IsTrue (is_word last) × IsTrue (first_is_word cs))
    → Takes tokens p c r → Reads tokens r cs q → IsScalar c × Occurs (spelling_of tokens) p (encode c) r
letter_taken tokens last o p c r q cs are is_scalar occurs between (inl is) reads =
    let beside = between is.0 in
    let here = blank_taken tokens last o p r q cs are is_scalar occurs beside.0 beside.1 is.1 reads in (
      subst IsScalar (sym is.0) refl,
      subst (λ l. Occurs (spelling_of tokens) p l r) (sym (ap encode is.0 ∙ encode-blank)) here,
    )
letter_taken tokens last o p c r q cs are is_scalar occurs between (inr letter) reads = (letter.1, letter.2)

letters_are_at : (tokens : List TokenValue) (last o p q : ℕ) (cs : List ℕ) → AreTexts tokens → IsScalar last
    → Occurs (spelling_of tokens) o (encode last) p → AreBetween last cs → Reads tokens p cs q
    → Occurs (spelling_of tokens) p (encodes cs) q
letters_are_at tokens last o p q [] are is_scalar occurs between reads =
    subst (λ r. Occurs (spelling_of tokens) p [] r) reads (Occurs-nil (spelling_of tokens) p)
letters_are_at tokens last o p q (c ∷ cs) are is_scalar occurs between reads =
    let taken = letter_taken tokens last o p c reads.0 q cs are is_scalar occurs between.0 reads.1 reads.2 in
    Occurs-append (spelling_of tokens) p (encode c) reads.0 (encodes cs) q taken.1
    (letters_are_at tokens c p reads.0 q cs are taken.0 taken.1 between.1 reads.2)

pub text_occurs : (tokens : List TokenValue) (text : List ℕ) (p q : ℕ) → AreTexts tokens → IsUtf8 text → IsPieceText text
    → 0 < length text → (IsTrue (is_blank_at text 0) → ⊥) → (IsAfterBlank text (length text) → ⊥)
    → Reads tokens p (chars text) q → Occurs (spelling_of tokens) p text q
text_occurs tokens text p q are utf8 piece some start after reads =
    subst (λ l. Occurs (spelling_of tokens) p l q) (encodes-chars text utf8) (by_letters (chars text) refl reads)
  where
    by_first : (c : ℕ) (cs : List ℕ) → chars text ≡ c ∷ cs → (r : ℕ) → Takes tokens p c r → Reads tokens r cs q
        → Occurs (spelling_of tokens) p (encodes (c ∷ cs)) q
    by_first c cs e r (inl is) later =
        let begins : text ≡ 0x20 ∷ encodes cs =
        sym (encodes-chars text utf8) ∙ ap encodes e ∙ ap (λ l. l ++ encodes cs) (ap encode is.0 ∙ encode-blank) in
        absurd (start (eq-eqb (get_or text 0 0) 0x20 (ap (λ l. get_or l 0 0) begins)))
    by_first c cs e r (inr letter) later =
        let between = AreBetween-each c cs (λ front rest cut more.
        letters_between text utf8 piece after front rest (e ∙ cut) more) in
        Occurs-append (spelling_of tokens) p (encode c) r (encodes cs) q letter.2
        (letters_are_at tokens c p r q cs are letter.1 letter.2 between later)

    by_letters : (cs : List ℕ) → chars text ≡ cs → Reads tokens p cs q → Occurs (spelling_of tokens) p (encodes cs) q
    by_letters [] e reads = subst (λ r. Occurs (spelling_of tokens) p [] r) reads (Occurs-nil (spelling_of tokens) p)
    by_letters (c ∷ cs) e reads = by_first c cs e reads.0 reads.1 reads.2

-- ---- what is there is read

letters_read : (tokens : List TokenValue) (p q : ℕ) (cs : List ℕ) → scalars cs ≡ true
    → Occurs (spelling_of tokens) p (encodes cs) q → Reads tokens p cs q
letters_read tokens p q [] all occurs = omega (arith, occurs.0)
letters_read tokens p q (c ∷ cs) all occurs =
    let parts = and_parts (scalar c) (scalars cs) all in
    let bytes = spelling_of tokens in
    let r = p + length (encode c) in
    let left = Occurs-left bytes p (encode c) (encodes cs) q occurs in
    let right = Occurs-right bytes p (encode c) (encodes cs) q occurs in
    elim (cases_eq c blank) [
      | inl is ↦
          let here : Occurs bytes p (0x20 ∷ []) r =
          subst (λ l. Occurs bytes p l r) (ap encode is ∙ encode-blank) left in
          let next : suc p ≡ r = omega (arith, here.0) in
          let leads = over (occurs_blank bytes p [] r here) in
          (r, inl (is, subst (OverBlank tokens p) next leads), letters_read tokens r q cs parts.1 right)
      | inr other ↦ (r, inr (other, parts.0, left), letters_read tokens r q cs parts.1 right)
    ]

pub text_read : (tokens : List TokenValue) (text : List ℕ) (p q : ℕ) → IsUtf8 text
    → Occurs (spelling_of tokens) p text q → Reads tokens p (chars text) q
text_read tokens text p q utf8 occurs =
    letters_read tokens p q (chars text) (scalars-chars text utf8)
    (subst (λ l. Occurs (spelling_of tokens) p l q) (sym (encodes-chars text utf8)) occurs)

-- so the letters of such a text are read exactly where its bytes are
pub text-read : (tokens : List TokenValue) (text : List ℕ) (p q : ℕ) → AreTexts tokens → IsUtf8 text → IsPieceText text → 0 < length text →
    ¬ (IsTrue (is_blank_at text 0)) → ¬ (IsAfterBlank text (length text)) → Reads tokens p (chars text) q ↔ Occurs (spelling_of tokens) p text q
text-read tokens text p q texts utf8 piece some front end =
    (text_occurs tokens text p q texts utf8 piece some front end, text_read tokens text p q utf8)

-- a token ends within the text
pub end-within : (tokens : List TokenValue) (i : ℕ) → i < length tokens → place_end tokens i ≤ length (spelling_of tokens)
unfolding place_end
end-within tokens i within =
    let text_of = λ (t : TokenValue). t.text in
    let front = spelled-front (texts_of tokens) i (omega (arith, length-map tokens text_of)) in
    omega (arith, ap length front.1, length-append (spelled (take (suc i) (texts_of tokens))) front.0)
