-- How the cells of a line begin, and those of lines of which it is the first.
use Rattle.std.proofs.Common.{◌≡◌, ℕ, zero, suc, ◌+◌, ◌-◌, ◌<◌, ◌≤◌, Bool, true, false, not, List, [], ◌∷◌, ◌++◌, map, length, take, drop, get_or, refl, sym, ap, subst, ◌∙◌, arith}
use Rattle.std.specs.Prelude.{if◌then◌else◌, IsAscii}
use Rattle.std.specs.List.{flat_map, list_all}
use Rattle.std.proofs.lemmas.Bool.{cond-true, cond-false}
use Rattle.std.proofs.lemmas.List.{map-append, reverse-append}
use Rattle.lic_letters.proofs.Lanes.{every_below}
use Rattle.lic_kind.specs.Kinds.{is_dropped, is_mark_kind, is_word_kind, kind_of}
use Rattle.lic_trim.specs.Sources.{unplaced, placed, without_dropped, lines_of}
use Rattle.lic_trim.specs.declared.source.SourceChar.{SourceChar}
use Rattle.lic_lines.specs.declared.cell.Cell.{Cell}
use Rattle.lic_lines.specs.declared.cell.Cell.TheVariants.{Blank, Mark, Word}
use Rattle.lic_trim.specs.declared.cut.LineCut.{LineCut}
use Rattle.lic_kind.specs.LineRules.{LineRules}
use Rattle.lic_trim.specs.Lines.{whole_line, cut_of}
use Rattle.lic_lines.specs.Cells.{blank_for, cell_of, cells_of, cells_of_cut, line_cells}
use Rattle.lic_lines.specs.Streaks.{streaks_joined}
use Rattle.lic_lines.proofs.Gaps.{is_mark, no_streaks, streaks_joined-at, streaks_joined-gap}
use Rattle.lic_lines.proofs.LineByLine.{cells_of-line}
use Rattle.lic_norm.specs.LineEnds.{IsFirstLine}
use Rattle.lic_pieces.specs.Edges.{BeginAs, HasEdges}
use Rattle.lic_pieces.specs.Pieces.{begins_in_blank, ends_in_blank, is_blank}
use Rattle.lic_pieces.specs.declared.cell_edges.Edges.{Edges}
use Rattle.lic_pieces.proofs.EndedLines.{bare-blank_cells, streaks_joined-unplaced}
use Rattle.lic_norm.proofs.FirstLines.{as_line, lines_of-first, no_cells_whole}
use Rattle.lic_pieces.proofs.PieceLines.{chars_of-unplaced}

-- ---- a line, by what is taken from it

length-unplaced : (cs : List ℕ) → length (unplaced cs) ≡ length cs
length-unplaced [] = refl
length-unplaced (c ∷ cs) = ap suc (length-unplaced cs)

cells-taken : (lead item tail : ℕ) (line : List SourceChar) → 0 < lead + item
    → (others : List Cell) × (cells_of_cut (record { lead = lead; item = item; tail = tail }) line ≡ Blank ∷ others)
cells-taken zero zero tail line some = absurd (omega arith)
cells-taken zero (suc n) tail line some = (_, refl)
cells-taken (suc n) item tail line some = (_, refl)

line-cut : (rules : LineRules) (line : List ℕ) (cut : LineCut) → cut ≡ cut_of rules whole_line line → line_cells rules whole_line (unplaced line) ≡ cells_of_cut cut (unplaced line)
line-cut rules line cut is = ap (λ c. cells_of_cut c (unplaced line)) (ap (cut_of rules whole_line) (chars_of-unplaced line) ∙ sym is)

pub begin-taken : (rules : LineRules) (line : List ℕ) (cut : LineCut) → cut ≡ cut_of rules whole_line line → 0 < cut.lead + cut.item
    → BeginAs true (line_cells rules whole_line (unplaced line))
begin-taken rules line cut is some =
    let known = cells-taken cut.lead cut.item cut.tail (unplaced line) some in
    (known.0, line-cut rules line cut is ∙ known.1)

-- the cells where nothing is taken in front
cells-left : (lead item tail : ℕ) (line : List SourceChar) → lead + item ≤ 0
    → cells_of_cut (record { lead = lead; item = item; tail = tail }) line ≡ map cell_of (take (length line - tail) line) ++ blank_for tail
cells-left zero zero tail line none = refl
cells-left zero (suc n) tail line none = absurd (omega arith)
cells-left (suc n) item tail line none = absurd (omega arith)

blank-some : (n : ℕ) → 0 < n → blank_for n ≡ Blank ∷ []
blank-some zero some = absurd (omega arith)
blank-some (suc n) some = refl

pub begin-tail : (rules : LineRules) (line : List ℕ) (cut : LineCut) → cut ≡ cut_of rules whole_line line → cut.lead + cut.item ≤ 0
    → cut.tail ≡ length line → 0 < length line → BeginAs true (line_cells rules whole_line (unplaced line))
begin-tail rules line cut is none all some =
    let none_left : length (unplaced line) - cut.tail ≡ 0 = omega (arith, all, length-unplaced line) in (
      [],
      line-cut rules line cut is ∙ cells-left cut.lead cut.item cut.tail (unplaced line) none
          ∙ ap (λ n. map cell_of (take n (unplaced line)) ++ blank_for cut.tail) none_left
          ∙ blank-some cut.tail (omega (arith, all)),
    )

first-cell : (line : List SourceChar) (n : ℕ) (more : List Cell) (s : SourceChar) (others : List SourceChar) → line ≡ s ∷ others → 0 < n
    → (rest : List Cell) × (map cell_of (take n line) ++ more ≡ cell_of s ∷ rest)
first-cell line zero more s others is some = absurd (omega arith)
first-cell line (suc n) more s others is some = (map cell_of (take n others) ++ more, ap (λ l. map cell_of (take (suc n) l) ++ more) is)

line-first : (rules : LineRules) (c : ℕ) (line : List ℕ) (cut : LineCut) → cut ≡ cut_of rules whole_line (c ∷ line) → cut.lead + cut.item ≤ 0
    → cut.tail < length (c ∷ line)
    → (others : List Cell) × (line_cells rules whole_line (unplaced (c ∷ line)) ≡ cell_of (record { char = c; start = 0; end = 0 }) ∷ others)
line-first rules c line cut is none some =
    let all = unplaced (c ∷ line) in
    let known = first-cell all (length all - cut.tail) (blank_for cut.tail) (record { char = c; start = 0; end = 0 }) (unplaced line) refl
    (omega (arith, length-unplaced (c ∷ line))) in
    (known.0, line-cut rules (c ∷ line) cut is ∙ cells-left cut.lead cut.item cut.tail all none ∙ known.1)

begin-by : (cells : List Cell) (s : SourceChar) (word mark : Bool) → is_word_kind (kind_of s.char) ≡ word → is_mark_kind (kind_of s.char) ≡ mark
    → (others : List Cell) × (cells ≡ cell_of s ∷ others) → (word ≡ true → BeginAs false cells) × (word ≡ false → mark ≡ false → BeginAs true cells)
begin-by cells s word mark is_word is_mark known = (
  λ is_one. (s, known.0, known.1 ∙ ap (λ c. c ∷ known.0) (cond-true (is_word_kind (kind_of s.char)) (Word s) (if is_mark_kind (kind_of s.char) then Mark s else Blank) (is_word ∙ is_one))),
  λ is_none none. (
    known.0,
    known.1 ∙ ap (λ c. c ∷ known.0)
        (cond-false (is_word_kind (kind_of s.char)) (Word s) (if is_mark_kind (kind_of s.char) then Mark s else Blank) (is_word ∙ is_none)
        ∙ cond-false (is_mark_kind (kind_of s.char)) (Mark s) Blank (is_mark ∙ none)),
  ),
)

pub first-parts : (line : List ℕ) → 0 < length line → line ≡ get_or line 0 0 ∷ drop 1 line
first-parts [] some = absurd (omega arith)
first-parts (c ∷ rest) some = refl

module _ (rules : LineRules) (line : List ℕ) (cut : LineCut) (is : cut ≡ cut_of rules whole_line line) (none : cut.lead + cut.item ≤ 0)
    (some : cut.tail < length line) (c : ℕ) (rest : List ℕ) (parts : line ≡ c ∷ rest) where
  cells-first : (others : List Cell) × (line_cells rules whole_line (unplaced line) ≡ cell_of (record { char = c; start = 0; end = 0 }) ∷ others)
  cells-first =
      let known = line-first rules c rest cut (is ∙ ap (cut_of rules whole_line) parts) none (subst (λ l. cut.tail < length l) parts some) in
      (known.0, ap (λ l. line_cells rules whole_line (unplaced l)) parts ∙ known.1)

  pub begin-word : is_word_kind (kind_of c) ≡ true → BeginAs false (line_cells rules whole_line (unplaced line))
  begin-word is_one = (begin-by _ (record { char = c; start = 0; end = 0 }) true (is_mark_kind (kind_of c)) is_one refl cells-first).0 refl

  pub begin-blank : is_word_kind (kind_of c) ≡ false → is_mark_kind (kind_of c) ≡ false → BeginAs true (line_cells rules whole_line (unplaced line))
  begin-blank is_none no_mark = (begin-by _ (record { char = c; start = 0; end = 0 }) false false is_none no_mark cells-first).1 refl refl

-- ---- lines, by the first of them

pub kept-ascii : (text : List ℕ) → IsAscii text → without_dropped (unplaced text) ≡ unplaced text
kept-ascii [] ascii = refl
kept-ascii (b ∷ text) ascii =
    cond-true (not (is_dropped b)) _ _ (every_below (λ d. not (is_dropped d)) 128 refl b (ascii 0))
    ∙ ap (λ l. record { char = b; start = 0; end = 0 } ∷ l) (kept-ascii text (λ i. ascii (suc i)))

streaks-front : (rules : LineRules) (x : Cell) (cells : List Cell) → is_mark x ≡ false → begins_in_blank (streaks_joined rules (x ∷ cells)) ≡ is_blank x
streaks-front rules x cells no_mark =
    ap begins_in_blank (streaks_joined-at rules [] x cells no_mark) ∙ ap (λ l. begins_in_blank (l ++ x ∷ streaks_joined rules cells)) (no_streaks rules)

front-by : (rules : LineRules) (blank : Bool) (cells more : List Cell) → BeginAs blank cells → begins_in_blank (streaks_joined rules (cells ++ more)) ≡ blank
front-by rules true cells more (others, is) = ap (λ l. begins_in_blank (streaks_joined rules (l ++ more))) is ∙ streaks-front rules Blank (others ++ more) refl
front-by rules false cells more (s, others, is) = ap (λ l. begins_in_blank (streaks_joined rules (l ++ more))) is ∙ streaks-front rules (Word s) (others ++ more) refl

no_begin : (rules : LineRules) (blank : Bool) → BeginAs blank (line_cells rules whole_line []) → ⊥
no_begin rules true (others, is) = absurd (let e : [] ≡ Blank ∷ others = sym (no_cells_whole rules) ∙ is in cc)
no_begin rules false (s, others, is) = absurd (let e : [] ≡ Word s ∷ others = sym (no_cells_whole rules) ∙ is in cc)

lines-front : (rules : LineRules) (blank : Bool) (here : List SourceChar) (others : List (List SourceChar)) → BeginAs blank (line_cells rules whole_line here)
    → begins_in_blank (streaks_joined rules (flat_map (line_cells rules whole_line) (as_line here ++ others))) ≡ blank
lines-front rules blank [] others begin = absurd (no_begin rules blank begin)
lines-front rules blank (s ∷ here) others begin = front-by rules blank (line_cells rules whole_line (s ∷ here)) (flat_map (line_cells rules whole_line) others) begin

pub text-front : (rules : LineRules) (blank : Bool) (text first past : List ℕ) → IsAscii first → text ≡ first ++ past → IsFirstLine first past
    → BeginAs blank (line_cells rules whole_line (unplaced first)) → begins_in_blank (streaks_joined rules (cells_of rules (unplaced text))) ≡ blank
text-front rules blank text first past ascii parts line begin =
    ap (λ l. begins_in_blank (streaks_joined rules (flat_map (line_cells rules whole_line) l)))
    (ap (λ t. lines_of (without_dropped t)) (ap unplaced parts ∙ map-append _ first past)
    ∙ lines_of-first (unplaced first) (unplaced past) first past line (chars_of-unplaced first) (λ e. ap unplaced e))
    ∙ lines-front rules blank (without_dropped (unplaced first)) (lines_of (without_dropped (unplaced past)))
    (subst (λ l. BeginAs blank (line_cells rules whole_line l)) (sym (kept-ascii first ascii)) begin)

-- ---- the edges of lines that end in U+000A

ends-feed : (rules : LineRules) (text front : List ℕ) → text ≡ front ++ 0x0A ∷ [] → ends_in_blank (streaks_joined rules (cells_of rules (unplaced text))) ≡ true
ends-feed rules text front is =
    let feed : SourceChar = record { char = 0x0A; start = 0; end = 0 } in
    let blank = cells_of-line rules (unplaced front) feed [] refl in
    ap (λ l. ends_in_blank (streaks_joined rules (cells_of rules l))) (ap unplaced is ∙ map-append _ front (0x0A ∷ []))
    ∙ ap (λ l. ends_in_blank (streaks_joined rules l)) blank.1
    ∙ ap ends_in_blank (streaks_joined-gap rules blank.0 [] ∙ ap (λ l. streaks_joined rules blank.0 ++ Blank ∷ l) (no_streaks rules))
    ∙ ap begins_in_blank (reverse-append (streaks_joined rules blank.0) (Blank ∷ []))

pub edges-ended : (rules : LineRules) (edges : Edges) (text front : List ℕ) → text ≡ front ++ 0x0A ∷ []
    → edges.begins_in_blank ≡ begins_in_blank (streaks_joined rules (cells_of rules (unplaced text))) → edges.ends_in_blank ≡ true
    → edges.has_text ≡ not (list_all is_blank (streaks_joined rules (cells_of rules (placed 0 text))))
    → HasEdges edges (streaks_joined rules (cells_of rules (unplaced text)))
edges-ended rules edges text front ends begin end some = record {
  begins = begin;
  ends = end ∙ sym (ends-feed rules text front ends);
  text = some ∙ ap not (sym (ap (list_all is_blank) (streaks_joined-unplaced rules text) ∙ bare-blank_cells (streaks_joined rules (cells_of rules (placed 0 text)))));
}
