-- A piece that is whole lines has the tokens of the text that it is.
use Rattle.std.proofs.Common.{◌≡◌, ℕ, Bool, true, false, List, [], ◌∷◌, ◌++◌, map, refl, sym, ap, ap₂, ◌∙◌}
use Rattle.std.specs.Prelude.{if◌then◌else◌}
use Rattle.std.specs.List.{flat_map}
use Rattle.std.specs.Str.{chars, IsUtf8}
use Rattle.lic_trim.specs.Sources.{lines_of, placed, without_dropped}
use Rattle.lic_trim.specs.declared.source.SourceChar.{SourceChar}
use Rattle.lic_kind.specs.LineRules.{LineRules}
use Rattle.lic_trim.specs.Lines.{whole_line}
use Rattle.lic_lines.specs.Cells.{line_cells, cells_of}
use Rattle.lic_lines.specs.Streaks.{streaks_joined}
use Rattle.lic_lines.specs.Tokens.{first_tokens, single_signs, text_tokens}
use Rattle.lic_phrases.specs.Rewriting.{Phrase, SpannedText, rewritten}
use Rattle.lic_norm.proofs.AnyBytes.{source_of-utf8}
use Rattle.lic_pieces.proofs.BareTokens.{bare, bare_cell, flat-map, bare-placed, bare-kept, bare-lines, bare-line, bare-streaks, bare-first, bare-signs, bare-texts, texts_after}
use Rattle.lic_pieces.specs.Pieces.{cells_of_lines, ends_in_feed, part_of, piece_cells, piece_tokens}
use Rattle.lic_norm.specs.Tokens.{first_tokens_of, reported, tokens_of}
use Rattle.lic_pieces.specs.declared.pieces.Next.TheVariants.{LineEnd}
use Rattle.lic_markup.specs.Meaning.{piece_texts}

part-whole : (line : List SourceChar) → part_of true LineEnd line ≡ whole_line
part-whole line = both (ends_in_feed line)
  where
    both : (b : Bool) → (if b then whole_line else whole_line) ≡ whole_line
    both true = refl
    both false = refl

cells-whole : (rules : LineRules) (lines : List (List SourceChar)) → cells_of_lines rules true LineEnd lines ≡ flat_map (line_cells rules whole_line) lines
cells-whole rules [] = refl
cells-whole rules (line ∷ lines) = ap₂ (λ xs ys. xs ++ ys) (ap (λ part. line_cells rules part line) (part-whole line)) (cells-whole rules lines)

reported-texts : (ts : List SpannedText) → map (λ t. t.text) (map reported ts) ≡ map (λ t. t.text) ts
reported-texts [] = refl
reported-texts (t ∷ ts) = ap (λ l. t.text ∷ l) (reported-texts ts)

piece-whole : (rules : LineRules) (piece : List ℕ)
    → piece_cells rules true LineEnd piece ≡ map bare_cell (streaks_joined rules (cells_of rules (placed 0 (chars piece))))
unfolding piece_cells
piece-whole rules piece =
    let text = placed 0 (chars piece) in
    let lines = lines_of (without_dropped text) in
    ap (λ t. streaks_joined rules (cells_of_lines rules true LineEnd (lines_of (without_dropped t)))) (sym (bare-placed 0 (chars piece)))
    ∙ ap (λ t. streaks_joined rules (cells_of_lines rules true LineEnd (lines_of t))) (bare-kept text)
    ∙ ap (λ ls. streaks_joined rules (cells_of_lines rules true LineEnd ls)) (bare-lines (without_dropped text))
    ∙ ap (streaks_joined rules) (cells-whole rules (map (map bare) lines)
    ∙ flat-map bare bare_cell (line_cells rules whole_line) (bare-line rules whole_line) lines)
    ∙ bare-streaks rules (cells_of rules text)

-- a piece that is whole lines has the tokens of the text that it is
pub piece_texts-whole : (rules : LineRules) (words : List Phrase) (piece : List ℕ) → IsUtf8 piece
    → piece_texts rules words true LineEnd piece ≡ map (λ t. t.text) (tokens_of rules words piece)
unfolding piece_tokens first_tokens_of
piece_texts-whole rules words piece utf8 =
    let cells = streaks_joined rules (cells_of rules (placed 0 (chars piece))) in
    ap (λ cs. texts_after words (single_signs (first_tokens cs))) (piece-whole rules piece)
    ∙ ap (λ ts. texts_after words (single_signs ts)) (bare-first cells)
    ∙ ap (texts_after words) (bare-signs (first_tokens cells))
    ∙ bare-texts words (single_signs (first_tokens cells))
    ∙ sym (reported-texts (rewritten words (single_signs (first_tokens cells))))
    ∙ ap (λ text. map (λ t. t.text) (map reported (rewritten words (text_tokens rules text)))) (sym (source_of-utf8 0 piece utf8))
