-- Whole lines at the front of a piece, each of which ends in U+000A, and what follows them.
use Rattle.std.proofs.Common.{◌≡◌, ℕ, zero, suc, ◌<◌, ◌≤◌, ◌==◌, Bool, true, false, not, List, [], ◌∷◌, ◌++◌, map, length, take, drop, min, refl, sym, ap, ap₂, subst, ◌∙◌, append_assoc, arith, inl, inr, length-take}
use Rattle.std.specs.Prelude.{nat_lt, IsAscii}
use Rattle.std.specs.List.{flat_map, list_all, onto_first}
use Rattle.std.specs.Str.{IsCharBoundary, IsUtf8, chars}
use Rattle.std.proofs.lemmas.Bool.{cases_Bool, cond-true, cond-false, eqb-true, lt-ltb}
use Rattle.std.proofs.lemmas.List.{map-append, take-append-drop}
use Rattle.std.proofs.lemmas.List.Elements.{filter-append}
use Rattle.std.proofs.lemmas.Str.{IsCharBoundary-from_take, chars-append, chars-IsAscii}
use Rattle.lic_kind.specs.Kinds.{is_dropped}
use Rattle.lic_trim.specs.Texts.{cut_after, groups, join_group}
use Rattle.lic_trim.specs.Sources.{unplaced, placed, without_dropped, lines_of}
use Rattle.lic_trim.specs.declared.source.SourceChar.{SourceChar}
use Rattle.lic_lines.specs.declared.cell.Cell.{Cell}
use Rattle.lic_lines.specs.declared.cell.Cell.TheVariants.{Blank, Mark, Word}
use Rattle.lic_trim.specs.declared.line_part.LinePart.{LinePart}
use Rattle.lic_kind.specs.LineRules.{LineRules}
use Rattle.lic_trim.specs.Lines.{whole_line}
use Rattle.lic_lines.specs.Cells.{line_cells, cells_of}
use Rattle.lic_lines.specs.Streaks.{streaks_joined}
use Rattle.lic_lines.specs.Tokens.{Token, both_words, tokens_from, first_tokens, single_signs, line_tokens, tokens_of_cells}
use Rattle.lic_lines.proofs.LineByLine.{cut_after-end, cut_last, cells_of-line, tokens_of_cells-blank}
use Rattle.lic_pieces.specs.declared.pieces.Next.{Next}
use Rattle.lic_pieces.specs.Pieces.{bare_token, cells_of_lines, counts_as, ends_in_feed, is_blank, is_line_end, part_of, piece_cells, piece_tokens}
use Rattle.lic_norm.specs.Tokens.{first_tokens_of}
use Rattle.lic_norm.proofs.AsciiLines.{first_tokens_of-ascii}
use Rattle.lic_pieces.proofs.BareTokens.{bare, bare_cell, flat-map, bare-placed, bare-kept, bare-lines, bare-line, bare-streaks, bare-first, bare-signs}
use Rattle.lic_pieces.proofs.PieceLines.{feed_last, streaks-blank}

abbrev ends : SourceChar → Bool
ends s = s.char == 0x0A

-- ---- lines that have ended are whole ones

abbrev AllEnded : List (List SourceChar) → Type 0
AllEnded [] = Unit {0}
AllEnded (line ∷ lines) = (front : List SourceChar) × (feed : SourceChar) × (line ≡ front ++ feed ∷ []) × (feed.char ≡ 0x0A) × AllEnded lines

ended_onto : (s : SourceChar) (lines : List (List SourceChar)) → (lines ≡ [] → ⊥) → AllEnded lines → AllEnded (onto_first s lines)
ended_onto s [] some all = absurd (some refl)
ended_onto s (line ∷ lines) some all = (s ∷ all.0, all.1, ap (λ l. s ∷ l) all.2, all.3, all.4)

not_none : {A : Type 0} (xs : List A) (y : A) (zs : List A) → zs ≡ xs ++ y ∷ [] → zs ≡ [] → ⊥
not_none [] y zs is none = absurd cc
not_none (x ∷ xs) y zs is none = absurd cc

all_ended : (xs : List SourceChar) (feed : SourceChar) → feed.char ≡ 0x0A → AllEnded (cut_after ends (xs ++ feed ∷ []))
all_ended [] feed is =
    subst AllEnded (sym (cond-true (ends feed) ((feed ∷ []) ∷ []) (onto_first feed []) (ap (λ c. c == 0x0A) is))) ([], feed, refl, is, tt)
all_ended (x ∷ xs) feed is =
    let others = cut_after ends (xs ++ feed ∷ []) in
    let known : AllEnded others = all_ended xs feed is in
    let last = cut_last ends xs feed (ap (λ c. c == 0x0A) is) in
    elim (cases_Bool (ends x)) [
      | inl ends_here ↦ subst AllEnded (sym (cond-true (ends x) ((x ∷ []) ∷ others) (onto_first x others) ends_here)) ([], x, refl, eqb-true x.char 0x0A ends_here, known)
      | inr goes ↦ subst AllEnded (sym (cond-false (ends x) ((x ∷ []) ∷ others) (onto_first x others) goes))
          (ended_onto x others (not_none last.0 (last.1 ++ feed ∷ []) others last.2) known)
    ]

part-ended : (before : Next) (front : List SourceChar) (feed : SourceChar) (line : List SourceChar) → line ≡ front ++ feed ∷ [] → feed.char ≡ 0x0A
    → part_of true before line ≡ whole_line
part-ended before front feed line is feeds =
    cond-true (ends_in_feed line) whole_line (record { has_front = true; has_end = is_line_end before; past = counts_as before })
    (ap ends_in_feed is ∙ feed_last front feed feeds)

cells-ended : (rules : LineRules) (before : Next) (lines others : List (List SourceChar)) → AllEnded lines
    → cells_of_lines rules true before (lines ++ others) ≡ flat_map (line_cells rules whole_line) lines ++ cells_of_lines rules true before others
cells-ended rules before [] others all = refl
cells-ended rules before (line ∷ lines) others all =
    ap₂ (λ xs ys. xs ++ ys) (ap (λ part. line_cells rules part line) (part-ended before all.0 all.1 line all.2 all.3)) (cells-ended rules before lines others all.4)
    ∙ sym (append_assoc (line_cells rules whole_line line) (flat_map (line_cells rules whole_line) lines) (cells_of_lines rules true before others))

-- the source characters with a line end in them, without the dropped ones
kept_feed : (xs : List SourceChar) (feed : SourceChar) (ys : List SourceChar) → feed.char ≡ 0x0A
    → without_dropped (xs ++ feed ∷ ys) ≡ without_dropped xs ++ feed ∷ without_dropped ys
kept_feed xs feed ys is =
    filter-append (λ (s : SourceChar). not (is_dropped s.char)) xs (feed ∷ ys)
    ∙ ap (λ l. without_dropped xs ++ l)
    (cond-true (not (is_dropped feed.char)) (feed ∷ without_dropped ys) (without_dropped ys)
    (ap (λ c. not (is_dropped c)) is))

-- what is made of cells that a blank parts: of those up to it, and of those after it
module _ (rules : LineRules) {A : Type 0} (made : List Cell → List A)
    (parts : (xs ys : List Cell) → made (xs ++ Blank ∷ ys) ≡ made (xs ++ Blank ∷ []) ++ made ys) (before : Next) where
  ended_made : (xs : List SourceChar) (feed : SourceChar) (ys : List SourceChar) → feed.char ≡ 0x0A
      → made (cells_of_lines rules true before (lines_of (without_dropped (xs ++ feed ∷ ys))))
      ≡ made (cells_of rules (xs ++ feed ∷ [])) ++ made (cells_of_lines rules true before (lines_of (without_dropped ys)))
  ended_made xs feed ys is =
      let front = without_dropped xs in
      let later = cells_of_lines rules true before (lines_of (without_dropped ys)) in
      let blank = cells_of-line rules xs feed [] is in
      let alone : cells_of rules (xs ++ feed ∷ []) ≡ flat_map (line_cells rules whole_line) (lines_of (front ++ feed ∷ [])) =
      ap (λ l. flat_map (line_cells rules whole_line) (lines_of l)) (kept_feed xs feed [] is) in
      ap (λ l. made (cells_of_lines rules true before (lines_of l))) (kept_feed xs feed ys is)
      ∙ ap (λ ls. made (cells_of_lines rules true before ls)) (cut_after-end ends front feed (without_dropped ys) (ap (λ c. c == 0x0A) is))
      ∙ ap made (cells-ended rules before (lines_of (front ++ feed ∷ [])) (lines_of (without_dropped ys)) (all_ended front feed is))
      ∙ ap (λ l. made (l ++ later)) (sym alone ∙ blank.1)
      ∙ ap made (append_assoc blank.0 (Blank ∷ []) later)
      ∙ parts blank.0 later
      ∙ ap (λ l. made l ++ made later) (sym blank.1)

  ended_bytes_made : (text lines front past : List ℕ) → text ≡ lines ++ past → IsUtf8 lines → chars lines ≡ front ++ 0x0A ∷ []
      → made (cells_of_lines rules true before (lines_of (without_dropped (unplaced (chars text)))))
      ≡ made (cells_of rules (unplaced (chars lines))) ++ made (cells_of_lines rules true before (lines_of (without_dropped (unplaced (chars past)))))
  ended_bytes_made text lines front past cut utf8 is =
      let feed : SourceChar = record { char = 0x0A; start = 0; end = 0 } in
      let ys = unplaced (chars past) in
      let here : unplaced (chars lines) ≡ unplaced front ++ feed ∷ [] = ap unplaced is ∙ map-append _ front (0x0A ∷ []) in
      let all : unplaced (chars text) ≡ unplaced front ++ feed ∷ ys =
      ap (λ t. unplaced (chars t)) cut ∙ ap unplaced (chars-append lines past utf8) ∙ map-append _ (chars lines) (chars past)
      ∙ ap (λ l. l ++ ys) here ∙ append_assoc (unplaced front) (feed ∷ []) ys in
      ap (λ l. made (cells_of_lines rules true before (lines_of (without_dropped l)))) all
      ∙ ended_made (unplaced front) feed ys refl
      ∙ ap (λ l. made (cells_of rules l) ++ made (cells_of_lines rules true before (lines_of (without_dropped ys)))) (sym here)

-- The list of a piece is that of such lines and that of what follows them.
pub piece_cells-ended : (rules : LineRules) (before : Next) (text lines front past : List ℕ) → text ≡ lines ++ past → IsUtf8 lines
    → chars lines ≡ front ++ 0x0A ∷ []
    → piece_cells rules true before text ≡ streaks_joined rules (cells_of rules (unplaced (chars lines))) ++ piece_cells rules true before past
unfolding piece_cells
piece_cells-ended rules before text lines front past cut utf8 is =
    ended_bytes_made rules (streaks_joined rules) (streaks-blank rules) before text lines front past cut utf8 is

-- So are its tokens.
pub piece_tokens-ended : (rules : LineRules) (before : Next) (text lines front past : List ℕ) → text ≡ lines ++ past → IsUtf8 lines
    → chars lines ≡ front ++ 0x0A ∷ []
    → piece_tokens rules true before text ≡ tokens_of_cells rules (cells_of rules (unplaced (chars lines))) ++ piece_tokens rules true before past
unfolding piece_cells piece_tokens
piece_tokens-ended rules before text lines front past cut utf8 is =
    ended_bytes_made rules (tokens_of_cells rules) (tokens_of_cells-blank rules) before text lines front past cut utf8 is

-- ---- where they are has no effect

-- the cells of characters that are nowhere
pub cells_of-unplaced : (rules : LineRules) (cs : List ℕ) → cells_of rules (unplaced cs) ≡ map bare_cell (cells_of rules (placed 0 cs))
cells_of-unplaced rules cs =
    let text = placed 0 cs in
    let f = line_cells rules whole_line in
    ap (λ t. flat_map f (lines_of (without_dropped t))) (sym (bare-placed 0 cs))
    ∙ ap (λ t. flat_map f (lines_of t)) (bare-kept text)
    ∙ ap (flat_map f) (bare-lines (without_dropped text))
    ∙ flat-map bare bare_cell f (bare-line rules whole_line) (lines_of (without_dropped text))

pub streaks_joined-unplaced : (rules : LineRules) (cs : List ℕ) → streaks_joined rules (cells_of rules (unplaced cs)) ≡ map bare_cell (streaks_joined rules (cells_of rules (placed 0 cs)))
streaks_joined-unplaced rules cs = ap (streaks_joined rules) (cells_of-unplaced rules cs) ∙ bare-streaks rules (cells_of rules (placed 0 cs))

pub tokens_of_cells-unplaced : (rules : LineRules) (cs : List ℕ)
    → tokens_of_cells rules (cells_of rules (unplaced cs)) ≡ map bare_token (tokens_of_cells rules (cells_of rules (placed 0 cs)))
tokens_of_cells-unplaced rules cs =
    let cells = streaks_joined rules (cells_of rules (placed 0 cs)) in
    ap (λ l. single_signs (first_tokens l)) (streaks_joined-unplaced rules cs)
    ∙ ap single_signs (bare-first cells)
    ∙ bare-signs (first_tokens cells)

-- tokens of characters that are nowhere are themselves without their spans
pub line_tokens-bare : (rules : LineRules) (part : LinePart) (cs : List ℕ)
    → map bare_token (line_tokens rules part (without_dropped (unplaced cs))) ≡ line_tokens rules part (without_dropped (unplaced cs))
line_tokens-bare rules part cs =
    let line = without_dropped (unplaced cs) in
    let same : map bare line ≡ line = sym (bare-kept (unplaced cs)) ∙ ap without_dropped (itself cs) in
    let cells = line_cells rules part line in
    sym (ap (λ l. single_signs (first_tokens (streaks_joined rules l))) (bare-line rules part line)
    ∙ ap (λ l. single_signs (first_tokens l)) (bare-streaks rules cells)
    ∙ ap single_signs (bare-first (streaks_joined rules cells))
    ∙ bare-signs (first_tokens (streaks_joined rules cells)))
    ∙ ap (line_tokens rules part) same
  where
    itself : (cs : List ℕ) → map bare (unplaced cs) ≡ unplaced cs
    itself [] = refl
    itself (c ∷ cs) = ap (λ l. record { char = c; start = 0; end = 0 } ∷ l) (itself cs)

-- ---- edges

pub bare-blank_cells : (cells : List Cell) → list_all is_blank (map bare_cell cells) ≡ list_all is_blank cells
bare-blank_cells [] = refl
bare-blank_cells (Blank ∷ cells) = bare-blank_cells cells
bare-blank_cells (Mark s ∷ cells) = refl
bare-blank_cells (Word s ∷ cells) = refl

-- cells without a token are blanks, and no others are
abbrev no_token : List Token → Bool
no_token [] = true
no_token (t ∷ ts) = false

joined_blank : (gs : List (List Cell)) → no_token (tokens_from true (join_group both_words Blank gs)) ≡ no_token (tokens_from true gs)
joined_blank [] = refl
joined_blank ([] ∷ gs) = refl
joined_blank ((y ∷ group) ∷ gs) = refl

joined_word : (s : SourceChar) (gs : List (List Cell)) → no_token (tokens_from true (join_group both_words (Word s) gs)) ≡ false
joined_word s [] = refl
joined_word s ([] ∷ gs) = refl
joined_word s ((Blank ∷ group) ∷ gs) = refl
joined_word s ((Mark t ∷ group) ∷ gs) = refl
joined_word s ((Word t ∷ group) ∷ gs) = refl

joined_mark : (s : SourceChar) (gs : List (List Cell)) → no_token (tokens_from true (join_group both_words (Mark s) gs)) ≡ false
joined_mark s [] = refl
joined_mark s ([] ∷ gs) = refl
joined_mark s ((y ∷ group) ∷ gs) = refl

no_token-blank : (cells : List Cell) → no_token (first_tokens cells) ≡ list_all is_blank cells
no_token-blank [] = refl
no_token-blank (Blank ∷ cells) = joined_blank (groups both_words cells) ∙ no_token-blank cells
no_token-blank (Mark s ∷ cells) = joined_mark s (groups both_words cells)
no_token-blank (Word s ∷ cells) = joined_word s (groups both_words cells)

length-token : (ts : List Token) → (0 < length ts → no_token ts ≡ false) × (length ts ≤ 0 → no_token ts ≡ true)
length-token [] = (λ some. absurd (omega arith), λ none. refl)
length-token (t ∷ ts) = (λ some. refl, λ none. absurd (omega arith))

-- whether some cell is no blank, by how many tokens there are
pub some_token : (cells : List Cell) (count : ℕ) → length (first_tokens cells) ≡ count → nat_lt 0 count ≡ not (list_all is_blank cells)
some_token cells zero long = ap not (sym ((length-token (first_tokens cells)).1 (omega (arith, long))) ∙ no_token-blank cells)
some_token cells (suc n) long = lt-ltb 0 (suc n) (omega arith) ∙ ap not (sym ((length-token (first_tokens cells)).0 (omega (arith, long))) ∙ no_token-blank cells)

-- ---- a text of ASCII

-- the tokens of such lines, without their spans
pub ended_tokens : (rules : LineRules) (before : Next) (text lines front past : List ℕ) → text ≡ lines ++ past → IsUtf8 lines → IsAscii lines
    → lines ≡ front ++ 0x0A ∷ []
    → map bare_token (first_tokens_of rules 0 lines) ++ piece_tokens rules true before past ≡ piece_tokens rules true before text
ended_tokens rules before text lines front past cut utf8 ascii is =
    let same = chars-IsAscii lines ascii in
    let cells = cells_of rules (placed 0 lines) in
    ap (λ ts. map bare_token ts ++ piece_tokens rules true before past) (sym (first_tokens_of-ascii rules 0 lines ascii))
    ∙ ap (λ ts. ts ++ piece_tokens rules true before past) (sym (tokens_of_cells-unplaced rules lines))
    ∙ ap (λ cs. tokens_of_cells rules (cells_of rules (unplaced cs)) ++ piece_tokens rules true before past) (sym same)
    ∙ sym (piece_tokens-ended rules before text lines front past cut utf8 (same ∙ is))

-- and their list
pub ended_cells : (rules : LineRules) (before : Next) (text lines front past : List ℕ) → text ≡ lines ++ past → IsUtf8 lines → IsAscii lines
    → lines ≡ front ++ 0x0A ∷ []
    → streaks_joined rules (cells_of rules (unplaced (chars lines))) ++ piece_cells rules true before past ≡ piece_cells rules true before text
ended_cells rules before text lines front past cut utf8 ascii is =
    sym (piece_cells-ended rules before text lines front past cut utf8 (chars-IsAscii lines ascii ∙ is))

-- ---- lines at the start of a text

cut_start : (text lines : List ℕ) → lines ≡ take (length lines) text → text ≡ lines ++ drop (length lines) text
cut_start text lines start = sym (ap (λ l. l ++ drop (length lines) text) start ∙ take-append-drop (length lines) text)

pub start_tokens : (rules : LineRules) (has_front : Bool) (before : Next) (text lines front : List ℕ) → has_front ≡ true → lines ≡ take (length lines) text
    → IsUtf8 lines → IsAscii lines → lines ≡ front ++ 0x0A ∷ []
    → map bare_token (first_tokens_of rules 0 lines) ++ piece_tokens rules true before (drop (length lines) text) ≡ piece_tokens rules has_front before text
start_tokens rules has_front before text lines front at_front start utf8 ascii is =
    ended_tokens rules before text lines front (drop (length lines) text) (cut_start text lines start) utf8 ascii is
    ∙ ap (λ f. piece_tokens rules f before text) (sym at_front)

pub start_cells : (rules : LineRules) (has_front : Bool) (before : Next) (text lines front : List ℕ) → has_front ≡ true → lines ≡ take (length lines) text
    → IsUtf8 lines → IsAscii lines → lines ≡ front ++ 0x0A ∷ []
    → streaks_joined rules (cells_of rules (unplaced (chars lines))) ++ piece_cells rules true before (drop (length lines) text) ≡ piece_cells rules has_front before text
start_cells rules has_front before text lines front at_front start utf8 ascii is =
    ended_cells rules before text lines front (drop (length lines) text) (cut_start text lines start) utf8 ascii is
    ∙ ap (λ f. piece_cells rules f before text) (sym at_front)

pub start_boundary : (text lines : List ℕ) → IsUtf8 text → lines ≡ take (length lines) text → IsUtf8 lines → IsCharBoundary text (length lines)
start_boundary text lines utf8 start known =
    let long : length lines ≡ min (length lines) (length text) = ap length start ∙ length-take (length lines) text in
    IsCharBoundary-from_take text (length lines) utf8 (omega arith) (subst IsUtf8 start known)
