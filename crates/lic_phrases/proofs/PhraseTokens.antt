-- The tokens of a phrase.
use Rattle.std.proofs.Common.{◌≡◌, ℕ, false, List, [], ◌∷◌, None, refl, ap, ◌∙◌, ◌-◌, length, take, drop, map, append-nil, take_all, arith}
use Rattle.lic_trim.specs.declared.source.SourceChar.{SourceChar}
use Rattle.lic_trim.specs.declared.line_part.LinePart.{LinePart}
use Rattle.lic_kind.specs.LineRules.{LineRules}
use Rattle.lic_lines.specs.Cells.{cell_of, line_cells}
use Rattle.lic_phrases.specs.WordLists.{texts_of}
use Rattle.lic_lines.specs.Tokens.{Token}
use Rattle.lic_phrases.specs.Waiting.{spanned_in}
use Rattle.lic_phrases.specs.declared.final_token.FinalToken.{FinalToken}
use Rattle.lic_phrases.specs.Rewriting.{spanned, https_as_http, sign_sequences, phrases_joined, rewritten}

-- where there are no phrases, none are joined
pub phrases_joined-none : (ts : List Token) → phrases_joined [] ts ≡ ts
phrases_joined-none [] = refl
phrases_joined-none (t ∷ ts) = ap (λ l. t ∷ l) (phrases_joined-none ts)

texts_of-spanned : (ts : List Token) → map (λ t. t.text) (map spanned ts) ≡ texts_of ts
texts_of-spanned [] = refl
texts_of-spanned (t ∷ ts) = ap (λ l. t.text ∷ l) (texts_of-spanned ts)

-- the texts of tokens that are rewritten without phrases
pub texts_of-rewritten : (ts : List Token) → map (λ t. t.text) (rewritten [] ts) ≡ texts_of (https_as_http (sign_sequences ts))
texts_of-rewritten ts = ap (λ l. map (λ t. t.text) (map spanned l))
    (phrases_joined-none (https_as_http (sign_sequences ts))) ∙ texts_of-spanned (https_as_http (sign_sequences ts))

-- the texts of settled tokens
pub texts_of-settled : (spellings : List (List ℕ)) (ts : List FinalToken)
    → map (λ t. (spanned_in spellings t).text) ts ≡ map (λ t. t.text) (map (spanned_in spellings) ts)
texts_of-settled spellings [] = refl
texts_of-settled spellings (t ∷ ts) = ap (λ l. (spanned_in spellings t).text ∷ l) (texts_of-settled spellings ts)

-- ---- a phrase is no line

abbrev pub inside : LinePart
inside = record { has_front = false; has_end = false; past = None }

-- from a part of a line without its front and its end nothing is taken
pub line_cells-inside : (rules : LineRules) (line : List SourceChar) → line_cells rules inside line ≡ map cell_of line
line_cells-inside rules line =
    append-nil (map cell_of (take (length (drop 0 line) - 0) (drop 0 line)))
    ∙ ap (map cell_of) (take_all (length (drop 0 line) - 0) (drop 0 line) (omega arith))
