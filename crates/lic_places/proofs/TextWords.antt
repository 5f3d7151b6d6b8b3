-- The word of a text: the blank at its beginning, its letters, and the blank at its end.
use Rattle.std.proofs.Common.{◌≡◌, ◌↔◌, ℕ, Bool, true, false, List, ◌++◌, refl, sym, ap, subst, ◌∙◌}
use Rattle.std.specs.Str.{chars}
use Rattle.std.proofs.lemmas.Str.{chars-append, chars-nil}
use Rattle.lic_words.specs.Words.{Word, Cat}
use Rattle.lic_words.specs.Expressions.{Language}
use Rattle.lic_words.specs.Expressions as words
use Rattle.lic_words.proofs.Languages.{letters_sound, letters_complete}
use Rattle.lic_phrases.specs.Spelling.{blank_if}
use Rattle.lic_places.proofs.Spelled.{blank_if-utf8, chars-blank}
use Rattle.lic_places.specs.Texts.{AreEdges, IsBlankIf}

-- the word is that of the letters
abbrev pub IsWordOf : List ℕ → Word → Type 0
IsWordOf letters w = w ≡ chars letters

-- the letters of an edge are those of its bytes
chars-blank_if : (is : Bool) → chars (blank_if is) ≡ blank_if is
chars-blank_if true = chars-blank
chars-blank_if false = chars-nil

-- the letters of a text are those of its parts
text-chars : (text letters : List ℕ) (has_front has_end : Bool) → AreEdges text has_front letters has_end →
    chars text ≡ blank_if has_front ++ (chars letters ++ blank_if has_end)
text-chars text letters has_front has_end edges =
    ap chars edges.parts
    ∙ (chars-append (blank_if has_front) (letters ++ blank_if has_end) (blank_if-utf8 has_front)
    ∙ (ap (λ x. x ++ chars (letters ++ blank_if has_end)) (chars-blank_if has_front)
    ∙ ap (λ x. blank_if has_front ++ x) (chars-append letters (blank_if has_end) edges.utf8 ∙ ap (λ x. chars letters ++ x) (chars-blank_if has_end))))

-- the word of a text is that of its parts one after another
pub text-words : (text letters : List ℕ) (has_front has_end : Bool) → AreEdges text has_front letters has_end → (w : Word) →
    Cat (IsBlankIf has_front) (Cat (IsWordOf letters) (IsBlankIf has_end)) w ↔ Language (words.letters (chars text)) w
text-words text letters has_front has_end edges w = (
  λ h. subst (λ x. Language (words.letters (chars text)) x) (sym (whole h)) (letters_complete (chars text)),
  λ h. (
    blank_if has_front,
    chars letters ++ blank_if has_end,
    refl,
    (chars letters, blank_if has_end, refl, refl, refl),
    letters_sound (chars text) w h ∙ text-chars text letters has_front has_end edges,
  ),
)
  where
    whole : Cat (IsBlankIf has_front) (Cat (IsWordOf letters) (IsBlankIf has_end)) w → w ≡ chars text
    whole h =
        h.4 ∙ (ap (λ x. x ++ h.1) h.2
        ∙ (ap (λ x. blank_if has_front ++ x) (h.3.4 ∙ (ap (λ x. x ++ h.3.1) h.3.2 ∙ ap (λ x. chars letters ++ x) h.3.3))
        ∙ sym (text-chars text letters has_front has_end edges)))
