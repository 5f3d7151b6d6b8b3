-- The letters of a piece spell the tokens that are read from it.
use Rattle.std.proofs.Common.{◌≡◌, ℕ, Bool, true, false, List, [], ◌∷◌, ◌++◌, map, inl, inr, length, String, Global, arith, refl, sym, ap, ◌∙◌, subst, append-nil, All}
use Rattle.std.specs.List.{list_all}
use Rattle.std.specs.String.{string_bytes}
use Rattle.std.specs.Str.{chars, IsUtf8}
use Rattle.std.proofs.lemmas.Bool.{cases_Bool, cond-false, and_parts, true≢false}
use Rattle.std.proofs.lemmas.Str.{IsUtf8-append, chars-append, chars-nil}
use Rattle.lic_trim.specs.Texts.{groups, join_group}
use Rattle.lic_lines.specs.declared.cell.Cell.{Cell}
use Rattle.lic_lines.specs.declared.cell.Cell.TheVariants.{Blank, Mark, Word}
use Rattle.lic_kind.specs.LineRules.{LineRules}
use Rattle.lic_lines.specs.Tokens.{both_words, tokens_from, single_signs}
use Rattle.lic_phrases.specs.Rewriting.{Phrase, rewritten}
use Rattle.lic_phrases.specs.Spelling.{blank_if, spelled}
use Rattle.lic_phrases.specs.TokenTexts.{IsTokenText}
use Rattle.lic_pieces.specs.Pieces.{piece_cells, piece_tokens, is_blank, begins_in_blank, ends_in_blank, piece_of}
use Rattle.lic_pieces.specs.declared.pieces.Next.{Next}
use Rattle.lic_words.specs.Describing.{IsDescribed}
use Rattle.lic_words.specs.Expressions.{Language}
use Rattle.lic_words.specs.Spelling.{Spells}
use Rattle.lic_words.proofs.Languages.{letters_complete}
use Rattle.lic_words.proofs.Spellings.{Spells-before, Spells-past}
use Rattle.lic_markup.specs.declared.part.Part.TheVariants.{Text}
use Rattle.lic_markup.specs.Meaning.{part_words, piece_texts}
use Rattle.lic_markup.proofs.MeaningLemmas.{part_words-Text}
use Rattle.lic_markup.proofs.SpelledLemmas.{blank_if-utf8, chars-blank_if, spelled-utf8, spelled_spells}

-- ---- blanks alone give no token

blank_alone : (after_blank : Bool) (rest : List (List Cell)) → tokens_from after_blank (join_group both_words Blank rest) ≡ tokens_from true rest
blank_alone after_blank [] = refl
blank_alone after_blank ([] ∷ rest) = refl
blank_alone after_blank ((Blank ∷ group) ∷ rest) = refl
blank_alone after_blank ((Mark s ∷ group) ∷ rest) = refl
blank_alone after_blank ((Word s ∷ group) ∷ rest) = refl

no_tokens : (after_blank : Bool) (cells : List Cell) → list_all is_blank cells ≡ true → tokens_from after_blank (groups both_words cells) ≡ []
no_tokens after_blank [] all = refl
no_tokens after_blank (Blank ∷ cells) all =
    blank_alone after_blank (groups both_words cells)
    ∙ no_tokens true cells (and_parts true (list_all is_blank cells) all).1
no_tokens after_blank (Mark s ∷ cells) all = absurd (true≢false (sym all))
no_tokens after_blank (Word s ∷ cells) all = absurd (true≢false (sym all))

module _ (rules : LineRules) (words : List Phrase) (at_line_start : Bool) (before : Next) (piece : List ℕ) where
  no_texts : list_all is_blank (piece_cells rules at_line_start before piece) ≡ true → piece_texts rules words at_line_start before piece ≡ []
  unfolding piece_tokens
  no_texts all = ap (λ ts. map (λ t. t.text) (rewritten words (single_signs ts))) (no_tokens true (piece_cells rules at_line_start before piece) all)

  -- ---- the edges

  with_before : (b : Bool) (w : List ℕ) (ts : List (List ℕ)) → Spells w ts → Spells (blank_if b ++ w) ts
  with_before true w ts s = (Spells-before w ts).0 s
  with_before false w ts s = s

  with_following : (b : Bool) (w : List ℕ) (ts : List (List ℕ)) → Spells w ts → Spells (w ++ blank_if b) ts
  with_following true w ts s = (Spells-past w ts).0 s
  with_following false w ts s = subst (λ x. Spells x ts) (sym (append-nil w)) s

  chars-edge : (b : Bool) (text : List ℕ) → IsUtf8 text → chars (text ++ blank_if b) ≡ chars text ++ blank_if b
  chars-edge b text utf8 =
      chars-append text (blank_if b) utf8
      ∙ ap (λ l. chars text ++ l) (ap chars (sym (append-nil (blank_if b))) ∙ chars-blank_if b []
      ∙ ap (λ l. blank_if b ++ l) chars-nil ∙ append-nil (blank_if b))

  edges_spell : (a b : Bool) (ts : List (List ℕ)) → (ts ≡ [] → ⊥) → All IsUtf8 ts → All IsTokenText ts
      → Spells (chars ((blank_if a ++ spelled ts) ++ blank_if b)) (map chars ts)
  edges_spell a b ts some utf8 token =
      subst (λ w. Spells w (map chars ts))
      (sym (chars-edge b (blank_if a ++ spelled ts)
      (IsUtf8-append (blank_if a) (spelled ts) (blank_if-utf8 a) (spelled-utf8 ts utf8))
      ∙ ap (λ l. l ++ blank_if b) (chars-blank_if a (spelled ts))))
      (with_following b (blank_if a ++ chars (spelled ts)) (map chars ts) (with_before a (chars (spelled ts)) (map chars ts) (spelled_spells ts some utf8 token)))

  -- the letters of a piece spell its tokens
  pub piece_spells : (piece_texts rules words at_line_start before piece ≡ [] → ⊥)
      → All IsUtf8 (piece_texts rules words at_line_start before piece)
      → All IsTokenText (piece_texts rules words at_line_start before piece) →
      Spells (chars (piece_of rules words at_line_start before piece)) (map chars (piece_texts rules words at_line_start before piece))
  unfolding piece_of
  piece_spells some utf8 token =
      let cells = piece_cells rules at_line_start before piece in
      let ts = piece_texts rules words at_line_start before piece in
      elim (cases_Bool (list_all is_blank cells)) [
        | inl all ↦ absurd (some (no_texts all))
        | inr other ↦
            subst (λ l. Spells (chars l) (map chars ts)) (sym (cond-false (list_all is_blank cells) _ _ other))
            (edges_spell (begins_in_blank cells) (ends_in_blank cells) ts some utf8 token)
      ]

still_some : (ts : List (List ℕ)) → (ts ≡ [] → ⊥) → map chars ts ≡ [] → ⊥
still_some [] some none = some refl
still_some (t ∷ ts) some none = absurd (omega (arith, ap length none))

-- so a text with these letters describes them
pub piece_described : (rules : LineRules) (words : List Phrase) (at_line_start : Bool) (before : Next) (piece : List ℕ)
    (text : String Global) → string_bytes text ≡ piece_of rules words at_line_start before piece →
    (piece_texts rules words at_line_start before piece ≡ [] → ⊥)
    → All IsUtf8 (piece_texts rules words at_line_start before piece)
    → All IsTokenText (piece_texts rules words at_line_start before piece) →
    IsDescribed (part_words (Text text)) (map chars (piece_texts rules words at_line_start before piece))
piece_described rules words at_line_start before piece text is some utf8 token =
    let ts = piece_texts rules words at_line_start before piece in
    let letters = chars (string_bytes text) in (
      still_some ts some,
      letters,
      subst (λ e. Language e letters) (sym (part_words-Text text)) (letters_complete letters),
      subst (λ l. Spells (chars l) (map chars ts)) (sym is) (piece_spells rules words at_line_start before piece some utf8 token),
    )
