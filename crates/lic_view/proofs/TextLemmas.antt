-- Going back over the blank at the end of a text, its letters, and the blank at its beginning.
use Rattle.std.proofs.Common.{◌≡◌, ℕ, Bool, List, [], sym, ap, ◌∙◌}
use Rattle.std.specs.Str.{chars}
use Rattle.std.proofs.lemmas.Str.{chars-nil}
use Rattle.lic_words.specs.Words.{Cat}
use Rattle.lic_words.specs.Expressions.{Language}
use Rattle.lic_words.specs.Expressions as words
use Rattle.lic_tokens.specs.Tokens.{TokenValue}
use Rattle.lic_places.specs.Places.{AreTexts}
use Rattle.lic_spans.specs.declared.span.PlaceSpan.{PlaceSpan}
use Rattle.lic_view.specs.PlaceSets.{ArePlaced, Reaches}
use Rattle.lic_view.specs.Backward.{IsBack, Keeps}
use Rattle.lic_places.specs.Texts.{AreEdges, IsBlankIf}
use Rattle.lic_view.proofs.Back.{back-after, back-keeps, back-same, back-stay}
use Rattle.lic_places.proofs.TextWords.{IsWordOf, text-words}
use Rattle.lic_view.specs.declared.sets.keep.Keep.{Keep}

-- going back over all parts of a text
pub back-text : (keep : Keep) (tokens : List TokenValue) (text letters : List ℕ) (has_front has_end : Bool) (spans one two three four : List PlaceSpan) → AreTexts tokens →
    AreEdges text has_front letters has_end →
    IsBack keep tokens (IsBlankIf has_end) spans one → IsBack keep tokens (IsWordOf letters) one two → IsBack keep tokens (IsBlankIf has_front) two three →
    Keeps keep three four → IsBack keep tokens (Language (words.letters (chars text))) spans four
back-text keep tokens text letters has_front has_end spans one two three four texts edges last middle first keeps =
    back-keeps keep tokens (Language (words.letters (chars text))) (Reaches tokens spans) three four texts
    (back-same keep tokens (Cat (IsBlankIf has_front) (Cat (IsWordOf letters) (IsBlankIf has_end))) (Language (words.letters (chars text))) (Reaches tokens spans) (Reaches tokens spans) three
    (λ w. text-words text letters has_front has_end edges w) (λ q l. (λ h. h, λ h. h))
    (back-after keep tokens (Cat (IsWordOf letters) (IsBlankIf has_end)) (IsBlankIf has_front) (Reaches tokens spans) two three
    (back-after keep tokens (IsBlankIf has_end) (IsWordOf letters) (Reaches tokens spans) one two last middle) first))
    keeps

-- a text without letters
pub back-empty : (keep : Keep) (tokens : List TokenValue) (letters : List ℕ) (spans : List PlaceSpan) → letters ≡ [] → ArePlaced tokens spans →
    IsBack keep tokens (IsWordOf letters) spans spans
back-empty keep tokens letters spans none placed =
    back-same keep tokens (λ w. w ≡ []) (IsWordOf letters) (Reaches tokens spans) (Reaches tokens spans) spans
    (λ w. (λ h. h ∙ sym nothing, λ h. h ∙ nothing)) (λ q l. (λ h. h, λ h. h)) (back-stay keep tokens spans placed)
  where
    nothing : chars letters ≡ []
    nothing = ap chars none ∙ chars-nil
