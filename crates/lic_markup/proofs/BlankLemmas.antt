-- Where blanks are in the letters of a piece.
use Rattle.std.proofs.Common.{◌≡◌, ℕ, ◌+◌, ◌<◌, Bool, true, false, List, [], ◌∷◌, ◌++◌, length, drop, get_or, reverse, refl, sym, ap, ap₂, subst, ◌∙◌, arith, append-nil, append_assoc, length-append, All, IsTrue, ◌⊎◌, inl, inr}
use Rattle.std.specs.List.{list_all}
use Rattle.std.specs.Str.{chars, IsUtf8, IsCharBoundary}
use Rattle.std.proofs.Math.Seq.{get_or-append_seam, drop_at}
use Rattle.std.proofs.lemmas.Bool.{and_parts, cases_Bool, cond-true, cond-false}
use Rattle.std.proofs.lemmas.List.{reverse-append}
use Rattle.std.proofs.lemmas.List.Elements.{All-head, All-tail}
use Rattle.std.proofs.lemmas.Str.{IsUtf8-append, IsUtf8-drop, IsCharBoundary-after_ascii, chars-append}
use Rattle.lic_lines.specs.declared.cell.Cell.{Cell}
use Rattle.lic_phrases.specs.Spelling.{first_is_word, begins_in_word, ends_in_word, is_parted, blank_if, spelled}
use Rattle.lic_phrases.specs.TokenTexts.{IsTokenText}
use Rattle.lic_phrases.specs.PieceTexts.{IsPieceText}
use Rattle.lic_pieces.specs.Pieces.{is_blank, begins_in_blank, ends_in_blank, with_edges}
use Rattle.lic_markup.proofs.SpelledLemmas.{blank_if-utf8, spelled-utf8}

-- ---- the letters beside a blank

first_of_front : (xs ys : List ℕ) → IsTrue (first_is_word xs) → IsTrue (first_is_word (xs ++ ys))
first_of_front [] ys word = absurd (let h : false ≡ true = word in cc)
first_of_front (x ∷ xs) ys word = word

ends_after : (text after : List ℕ) → IsUtf8 text → IsTrue (ends_in_word after) → IsTrue (ends_in_word (text ++ after))
ends_after text after utf8 word =
    subst (λ l. IsTrue (first_is_word l)) (sym (ap reverse (chars-append text after utf8) ∙ reverse-append (chars text) (chars after)))
    (first_of_front (reverse (chars after)) (reverse (chars text)) word)

begins_before : (text after : List ℕ) → IsUtf8 text → IsTrue (begins_in_word text) → IsTrue (begins_in_word (text ++ after))
begins_before text after utf8 word =
    subst (λ l. IsTrue (first_is_word l)) (sym (chars-append text after utf8)) (first_of_front (chars text) (chars after) word)

blank_utf8 : IsUtf8 (0x20 ∷ [])
blank_utf8 = blank_if-utf8 true

-- what follows a blank is in UTF-8
utf8_after : (front after : List ℕ) → IsUtf8 (front ++ 0x20 ∷ after) → IsUtf8 after
utf8_after front after utf8 =
    let text = front ++ 0x20 ∷ after in
    let at : get_or text (length front) 0 ≡ 0x20 = get_or-append_seam front 0x20 after 0 in
    let inside : length front < length text = omega (arith, length-append front (0x20 ∷ after)) in
    let cut : IsCharBoundary text (length front + 1) = IsCharBoundary-after_ascii text (length front) utf8 inside (omega (arith, at)) in
    let parts : text ≡ (front ++ 0x20 ∷ []) ++ after = sym (append_assoc front (0x20 ∷ []) after) in
    let left : drop (length front + 1) text ≡ after =
    ap (drop (length front + 1)) parts ∙ drop_at (front ++ 0x20 ∷ []) after (length front + 1) (length-append front (0x20 ∷ [])) in
    subst IsUtf8 left (IsUtf8-drop text (length front + 1) utf8 cut)

-- each blank of a text is between two letters of kind Word
abbrev HasBlanksInside : List ℕ → Type 0
HasBlanksInside text = (front after : List ℕ) → text ≡ front ++ 0x20 ∷ after → IsTrue (ends_in_word front) × IsTrue (begins_in_word after)

-- where a blank is in two texts one after the other: in the second, or in the first
abbrev LiesIn : List ℕ → List ℕ → List ℕ → List ℕ → Type 0
LiesIn xs ys front after =
    ((mid : List ℕ) × (front ≡ xs ++ mid) × (ys ≡ mid ++ 0x20 ∷ after))
    ⊎ ((mid : List ℕ) × (xs ≡ front ++ 0x20 ∷ mid) × (after ≡ mid ++ ys))

lies_in : (xs ys front after : List ℕ) → xs ++ ys ≡ front ++ 0x20 ∷ after → LiesIn xs ys front after
lies_in [] ys front after same = inl (front, refl, same)
lies_in (c ∷ xs) ys [] after same =
    inr (xs, ap (λ d. d ∷ xs) (ap (λ l. get_or l 0 0) same), sym (ap (drop 1) same))
lies_in (c ∷ xs) ys (d ∷ front) after same =
    let first : c ≡ d = ap (λ l. get_or l 0 0) same in
    elim (lies_in xs ys front after (ap (drop 1) same)) [
      | inl later ↦ inl (later.0, ap₂ (λ x l. x ∷ l) (sym first) later.1, later.2)
      | inr here ↦ inr (here.0, ap₂ (λ x l. x ∷ l) first here.1, here.2)
    ]

-- ---- spellings of tokens

spelled_begins : (text : List ℕ) (texts : List (List ℕ)) → IsUtf8 text → IsTrue (begins_in_word text) → IsTrue (begins_in_word (spelled (text ∷ texts)))
spelled_begins text [] utf8 word = word
spelled_begins text (next ∷ texts) utf8 word = begins_before text (blank_if (is_parted text next) ++ spelled (next ∷ texts)) utf8 word

-- a blank that comes after the first text
blank_later : (text next : List ℕ) (texts : List (List ℕ)) (after : List ℕ) → IsUtf8 text → IsUtf8 next
    → HasBlanksInside (spelled (next ∷ texts)) → (parted : Bool)
    → (parted ≡ true → IsTrue (ends_in_word text) × IsTrue (begins_in_word next))
    → (mid : List ℕ) → blank_if parted ++ spelled (next ∷ texts) ≡ mid ++ 0x20 ∷ after
    → IsTrue (ends_in_word (text ++ mid)) × IsTrue (begins_in_word after)
blank_later text next texts after utf8 next_utf8 later true words [] same = (
  subst (λ l. IsTrue (ends_in_word l)) (sym (append-nil text)) (words refl).0,
  subst (λ l. IsTrue (begins_in_word l)) (ap (drop 1) same) (spelled_begins next texts next_utf8 (words refl).1),
)
blank_later text next texts after utf8 next_utf8 later true words (d ∷ mid) same =
    let beside = later mid after (ap (drop 1) same) in (
      subst (λ c. IsTrue (ends_in_word (text ++ c ∷ mid))) (ap (λ l. get_or l 0 0) same)
          (ends_after text (0x20 ∷ mid) utf8 (ends_after (0x20 ∷ []) mid blank_utf8 beside.0)),
      beside.1,
    )
blank_later text next texts after utf8 next_utf8 later false words mid same =
    let beside = later mid after same in
    (ends_after text mid utf8 beside.0, beside.1)

-- a blank within the first text
blank_within : (text tail front after mid : List ℕ) → IsUtf8 text → IsTokenText text → text ≡ front ++ 0x20 ∷ mid
    → after ≡ mid ++ tail → IsTrue (ends_in_word front) × IsTrue (begins_in_word after)
blank_within text tail front after mid utf8 token is also =
    let beside = token.blanks front mid is in (
      beside.0,
      subst (λ l. IsTrue (begins_in_word l)) (sym also) (begins_before mid tail (utf8_after front mid (subst IsUtf8 is utf8)) beside.1),
    )

spelled_blanks : (texts : List (List ℕ)) → All IsUtf8 texts → All IsTokenText texts → HasBlanksInside (spelled texts)
spelled_blanks [] utf8 token front after same = absurd (omega (arith, ap length same, length-append front (0x20 ∷ after)))
spelled_blanks (text ∷ []) utf8 token front after same = (All-head IsTokenText text [] token).blanks front after same
spelled_blanks (text ∷ next ∷ texts) utf8 token front after same =
    let tail = blank_if (is_parted text next) ++ spelled (next ∷ texts) in
    let here = All-head IsUtf8 text (next ∷ texts) utf8 in
    let others = All-tail IsUtf8 text (next ∷ texts) utf8 in
    elim (lies_in text tail front after same) [
      | inl later ↦
          let beside = blank_later text next texts after here (All-head IsUtf8 next texts others)
          (spelled_blanks (next ∷ texts) others (All-tail IsTokenText text (next ∷ texts) token))
          (is_parted text next) (λ is. and_parts (ends_in_word text) (begins_in_word next) is) later.0 later.2 in
          (subst (λ l. IsTrue (ends_in_word l)) (sym later.1) beside.0, beside.1)
      | inr within ↦
          blank_within text tail front after within.0 here (All-head IsTokenText text (next ∷ texts) token) within.1 within.2
    ]

-- ---- the edges

-- a blank before these letters, or none: each other one still is inside
edge_before : (edge : Bool) (text front after : List ℕ) → HasBlanksInside text
    → blank_if edge ++ text ≡ front ++ 0x20 ∷ after → 0 < length front
    → IsTrue (ends_in_word front) × IsTrue (begins_in_word after)
edge_before false text front after inside same some = inside front after same
edge_before true text [] after inside same some = absurd (omega arith)
edge_before true text (d ∷ front) after inside same some =
    let beside = inside front after (ap (drop 1) same) in (
      subst (λ c. IsTrue (ends_in_word (c ∷ front))) (ap (λ l. get_or l 0 0) same) (ends_after (0x20 ∷ []) front blank_utf8 beside.0),
      beside.1,
    )

-- a blank after them, or none
edge_after : (edge : Bool) (text : List ℕ) → IsUtf8 text
    → ((front after : List ℕ) → text ≡ front ++ 0x20 ∷ after → 0 < length front → IsTrue (ends_in_word front) × IsTrue (begins_in_word after))
    → IsPieceText (text ++ blank_if edge)
edge_after false text utf8 inside front after same some more = inside front after (sym (append-nil text) ∙ same) some
edge_after true text utf8 inside front after same some more =
    elim (lies_in text (0x20 ∷ []) front after same) [
      | inl later ↦ absurd (omega (arith, ap length later.2, length-append later.0 (0x20 ∷ after)))
      | inr within ↦
          let mid = within.0 in
          let beside = inside front mid within.1 some in (
            beside.0,
            subst (λ l. IsTrue (begins_in_word l)) (sym within.2)
                (begins_before mid (0x20 ∷ []) (utf8_after front mid (subst IsUtf8 within.1 utf8)) beside.1),
          )
    ]

blank_alone : (edge : Bool) → IsPieceText (blank_if edge)
blank_alone false front after same some more = absurd (omega (arith, ap length same, length-append front (0x20 ∷ after)))
blank_alone true front after same some more = absurd (omega (arith, ap length same, length-append front (0x20 ∷ after)))

-- the letters of a piece whose tokens have texts in UTF-8
pub piece_text : (cells : List Cell) (texts : List (List ℕ)) → All IsUtf8 texts → All IsTokenText texts
    → IsPieceText (with_edges cells (spelled texts))
piece_text cells texts utf8 token =
    let begins = begins_in_blank cells in
    let ends = ends_in_blank cells in
    let letters = blank_if begins ++ spelled texts in
    let some = letters ++ blank_if ends in
    elim (cases_Bool (list_all is_blank cells)) [
      | inl all ↦ subst IsPieceText (sym (cond-true (list_all is_blank cells) (blank_if begins) some all)) (blank_alone begins)
      | inr other ↦
          subst IsPieceText (sym (cond-false (list_all is_blank cells) (blank_if begins) some other))
          (edge_after ends letters (IsUtf8-append (blank_if begins) (spelled texts) (blank_if-utf8 begins) (spelled-utf8 texts utf8))
          (λ front after. edge_before begins (spelled texts) front after (spelled_blanks texts utf8 token)))
    ]
