-- The lines of a piece of a template's text, one after another.
use Rattle.std.proofs.Common.{◌≡◌, ℕ, ◌+◌, ◌≤◌, length, drop, Bool, true, false, List, [], ◌∷◌, ◌++◌, refl, sym, ap, ap₂, ◌∙◌, append_assoc, append-nil, inl, inr, ◌==◌, ◌&&◌, None, Some, arith}
use Rattle.std.specs.List.{slice_range}
use Rattle.std.specs.Str.{IsUtf8, chars}
use Rattle.std.specs.Char.{is_whitespace}
use Rattle.std.proofs.lemmas.Bool.{cond-true}
use Rattle.std.proofs.lemmas.List.{map-append, drop_all}
use Rattle.std.proofs.lemmas.Str.{chars-nil, chars-append}
use Rattle.lic_trim.specs.Texts.{ends_in}
use Rattle.lic_trim.specs.Sources.{chars_of, unplaced, without_dropped, lines_of}
use Rattle.lic_trim.specs.declared.source.SourceChar.{SourceChar}
use Rattle.lic_lines.specs.declared.cell.Cell.{Cell}
use Rattle.lic_trim.specs.declared.line_part.LinePart.{LinePart}
use Rattle.lic_lines.specs.declared.cell.Cell.TheVariants.{Blank}
use Rattle.lic_kind.specs.LineRules.{LineRules}
use Rattle.lic_trim.specs.Lines.{cut_of}
use Rattle.lic_lines.specs.Cells.{cells_of_cut, line_cells}
use Rattle.lic_lines.specs.Streaks.{streaks_joined}
use Rattle.lic_lines.specs.Tokens.{Token, line_tokens, tokens_of_cells}
use Rattle.lic_lines.proofs.Gaps.{no_streaks, streaks_joined-gap}
use Rattle.lic_trim.proofs.ItemLemmas.{char_of, item_none, few_after}
use Rattle.lic_lines.proofs.LineByLine.{line_ends, tokens_of_cells-blank}
use Rattle.lic_trim.proofs.PieceEnds.{ends_in-snoc}
use Rattle.lic_pieces.specs.declared.pieces.Next.{Next}
use Rattle.lic_pieces.specs.declared.pieces.Next.TheVariants.{LineEnd, Var, Optional}
use Rattle.lic_norm.specs.LineEnds.{IsFirstLine}
use Rattle.lic_pieces.specs.Pieces.{ends_in_feed, part_of, cells_of_lines, piece_cells, piece_tokens, is_line_end, counts_as}
use Rattle.lic_norm.proofs.FirstLines.{as_line, as_line-some, ends_line, kept_feed, lines_of-first, no_cells_whole, no_tokens}

pub chars_of-unplaced : (cs : List ℕ) → chars_of (unplaced cs) ≡ cs
chars_of-unplaced [] = refl
chars_of-unplaced (c ∷ cs) = ap (λ l. c ∷ l) (chars_of-unplaced cs)

pub feed_last : (front : List SourceChar) (feed : SourceChar) → feed.char ≡ 0x0A → ends_in_feed (front ++ feed ∷ []) ≡ true
feed_last front feed is =
    let last = λ (c : ℕ). c == 0x0A in
    ap (ends_in last (λ front. true)) (map-append char_of front (feed ∷ []))
    ∙ ends_in-snoc last (λ front. true) (chars_of front) feed.char
    ∙ ap (λ c. last c && true) is

no_item : (rules : LineRules) (c : ℕ) → cells_of_cut (cut_of rules (record { has_front = true; has_end = false; past = Some c }) []) [] ≡ []
no_item rules c = ap (λ n. cells_of_cut (record { lead = 0; item = n; tail = 0 }) []) (item_none rules [] (c ∷ []) (omega arith) (few_after (Some c)))

-- a line without characters leaves nothing
no_cells : (rules : LineRules) (has_front : Bool) (before : Next) → line_cells rules (part_of has_front before []) [] ≡ []
no_cells rules true LineEnd = no_cells_whole rules
no_cells rules true Var = no_item rules 0x30
no_cells rules true Optional = no_item rules 0x61
no_cells rules false LineEnd = refl
no_cells rules false Var = refl
no_cells rules false Optional = refl

-- what is made of cells that a blank parts: of those up to it, and of those after it
module _ (rules : LineRules) {A : Type 0} (made : List Cell → List A) (none : made [] ≡ [])
    (parts : (xs ys : List Cell) → made (xs ++ Blank ∷ ys) ≡ made (xs ++ Blank ∷ []) ++ made ys) (before : Next) where
  first_line_made : (has_front : Bool) (line rest : List SourceChar) (letters past : List ℕ)
      → IsFirstLine letters past → chars_of line ≡ letters → (past ≡ [] → rest ≡ [])
      → made (cells_of_lines rules has_front before (lines_of (without_dropped (line ++ rest))))
      ≡ made (line_cells rules (part_of has_front before (without_dropped line)) (without_dropped line))
      ++ made (cells_of_lines rules true before (lines_of (without_dropped rest)))
  first_line_made has_front line rest letters past first same none_after =
      let here = without_dropped line in
      let part = part_of has_front before here in
      let others = lines_of (without_dropped rest) in
      let later = cells_of_lines rules true before others in
      ap (λ ls. made (cells_of_lines rules has_front before ls)) (lines_of-first line rest letters past first same none_after)
      ∙ elim first.ends [
        | inl ends ↦
            let end = ends_line line first.front (same ∙ ends) in
            let front = without_dropped end.before in
            let cut = kept_feed line first.front end in
            let alone : as_line here ≡ here ∷ [] = ap as_line cut ∙ as_line-some front end.feed ∙ ap (λ l. l ∷ []) (sym cut) in
            let has_end : part.has_end ≡ true =
            ap (λ (p : LinePart). p.has_end)
            (cond-true (ends_in_feed here) (record { has_front = has_front; has_end = true; past = None })
            (record { has_front = has_front; has_end = is_line_end before; past = counts_as before })
            (ap ends_in_feed cut ∙ feed_last front end.feed end.is_end)) in
            let blank = line_ends rules part front end.feed (ap is_whitespace end.is_end) has_end in
            let cells : line_cells rules part here ≡ blank.0 ++ Blank ∷ [] = ap (line_cells rules part) cut ∙ blank.1 in
            ap (λ ls. made (cells_of_lines rules has_front before (ls ++ others))) alone
            ∙ ap (λ l. made (l ++ later)) cells
            ∙ ap made (append_assoc blank.0 (Blank ∷ []) later)
            ∙ parts blank.0 later
            ∙ ap (λ l. made l ++ made later) (sym cells)
        | inr ends ↦
            let nothing : others ≡ [] = ap (λ r. lines_of (without_dropped r)) (none_after ends.1) in
            ap (λ ls. made (cells_of_lines rules has_front before (as_line here ++ ls))) nothing
            ∙ ap (λ ls. made (cells_of_lines rules has_front before ls)) (append-nil (as_line here))
            ∙ only here
            ∙ sym (append-nil (made (line_cells rules part here)))
            ∙ ap (λ l. made (line_cells rules part here) ++ l) (sym (ap (λ ls. made (cells_of_lines rules true before ls)) nothing ∙ none))
      ]
    where
      only : (here : List SourceChar)
          → made (cells_of_lines rules has_front before (as_line here))
          ≡ made (line_cells rules (part_of has_front before here) here)
      only [] = ap made (sym (no_cells rules has_front before))
      only (s ∷ here) = ap made (append-nil (line_cells rules (part_of has_front before (s ∷ here)) (s ∷ here)))

  first_bytes_made : (has_front : Bool) (text line rest : List ℕ) → text ≡ line ++ rest → IsUtf8 line → IsFirstLine (chars line) rest
      → made (cells_of_lines rules has_front before (lines_of (without_dropped (unplaced (chars text)))))
      ≡ made (line_cells rules (part_of has_front before (without_dropped (unplaced (chars line))))
      (without_dropped (unplaced (chars line))))
      ++ made (cells_of_lines rules true before (lines_of (without_dropped (unplaced (chars rest)))))
  first_bytes_made has_front text line rest cut utf8 first =
      ap (λ cs. made (cells_of_lines rules has_front before (lines_of (without_dropped cs))))
      (ap (λ t. unplaced (chars t)) cut ∙ ap unplaced (chars-append line rest utf8) ∙ map-append _ (chars line) (chars rest))
      ∙ first_line_made has_front (unplaced (chars line)) (unplaced (chars rest)) (chars line) rest first
      (chars_of-unplaced (chars line)) (λ e. ap (λ r. unplaced (chars r)) e ∙ ap unplaced chars-nil)

pub streaks-blank : (rules : LineRules) (xs ys : List Cell) → streaks_joined rules (xs ++ Blank ∷ ys) ≡ streaks_joined rules (xs ++ Blank ∷ []) ++ streaks_joined rules ys
streaks-blank rules xs ys =
    let back = streaks_joined rules ys in
    streaks_joined-gap rules xs ys
    ∙ sym (append_assoc (streaks_joined rules xs) (Blank ∷ []) back)
    ∙ ap (λ l. l ++ back) (sym (streaks_joined-gap rules xs [] ∙ ap (λ l. streaks_joined rules xs ++ Blank ∷ l) (no_streaks rules)))

-- The list of a piece is that of its first line and that of the rest.
pub piece_cells-first : (rules : LineRules) (has_front : Bool) (before : Next) (text line rest : List ℕ)
    (here : List SourceChar) → text ≡ line ++ rest → IsUtf8 line → IsFirstLine (chars line) rest
    → here ≡ without_dropped (unplaced (chars line))
    → piece_cells rules has_front before text ≡ streaks_joined rules (line_cells rules (part_of has_front before here) here) ++ piece_cells rules true before rest
unfolding piece_cells
piece_cells-first rules has_front before text line rest here cut utf8 first is =
    first_bytes_made rules (streaks_joined rules) (no_streaks rules) (streaks-blank rules) before has_front text line rest cut utf8 first
    ∙ ap (λ h. streaks_joined rules (line_cells rules (part_of has_front before h) h) ++ piece_cells rules true before rest) (sym is)

-- So are its tokens.
pub piece_tokens-first : (rules : LineRules) (has_front : Bool) (before : Next) (text line rest : List ℕ)
    (here : List SourceChar) → text ≡ line ++ rest → IsUtf8 line → IsFirstLine (chars line) rest
    → here ≡ without_dropped (unplaced (chars line))
    → piece_tokens rules has_front before text ≡ line_tokens rules (part_of has_front before here) here ++ piece_tokens rules true before rest
unfolding piece_cells piece_tokens
piece_tokens-first rules has_front before text line rest here cut utf8 first is =
    first_bytes_made rules (tokens_of_cells rules) (no_tokens rules) (tokens_of_cells-blank rules) before has_front text line rest cut utf8 first
    ∙ ap (λ h. line_tokens rules (part_of has_front before h) h ++ piece_tokens rules true before rest) (sym is)

pub piece_cells-none : (rules : LineRules) (has_front : Bool) (before : Next) → piece_cells rules has_front before [] ≡ []
unfolding piece_cells
piece_cells-none rules has_front before =
    ap (λ cs. streaks_joined rules (cells_of_lines rules has_front before
    (lines_of (without_dropped (unplaced cs))))) chars-nil ∙ no_streaks rules

pub piece_tokens-none : (rules : LineRules) (has_front : Bool) (before : Next) → piece_tokens rules has_front before [] ≡ []
unfolding piece_cells piece_tokens
piece_tokens-none rules has_front before =
    ap (λ cs. tokens_of_cells rules
    (cells_of_lines rules has_front before (lines_of (without_dropped (unplaced cs))))) chars-nil ∙ no_tokens rules

-- ---- line by line

-- the next line of a text, and the rest
pub record IsLineOf (text : List ℕ) (at n : ℕ) : Type 0 where
  pub parts : drop at text ≡ slice_range text at (at + n) ++ drop (at + n) text
  pub utf8 : IsUtf8 (slice_range text at (at + n))
  pub first : IsFirstLine (chars (slice_range text at (at + n))) (drop (at + n) text)

module _ (rules : LineRules) (part : LinePart) (has_front : Bool) (before : Next) (here line line' : List SourceChar)
    (same : line ≡ here) (same' : line' ≡ here) (parted : part ≡ part_of has_front before line) where
  pub line_cells-is : streaks_joined rules (line_cells rules part line') ≡ streaks_joined rules (line_cells rules (part_of has_front before here) here)
  line_cells-is = let p = parted ∙ ap (part_of has_front before) same in ap₂ (λ part line. streaks_joined rules (line_cells rules part line)) p same'

  pub line_tokens-is : line_tokens rules part line' ≡ line_tokens rules (part_of has_front before here) here
  line_tokens-is = let p = parted ∙ ap (part_of has_front before) same in ap₂ (line_tokens rules) p same'

-- after the last line nothing is left
pub no_more_cells : (rules : LineRules) (has_front : Bool) (before : Next) (text : List ℕ) (at : ℕ)
    (cells all : List Cell) → length text ≤ at → cells ++ piece_cells rules has_front before (drop at text) ≡ all
    → cells ≡ all
no_more_cells rules has_front before text at cells all over known =
    sym (append-nil cells) ∙ ap (λ l. cells ++ l)
    (sym (ap (piece_cells rules has_front before) (drop_all at text over)
    ∙ piece_cells-none rules has_front before)) ∙ known

pub no_more_tokens : (rules : LineRules) (has_front : Bool) (before : Next) (text : List ℕ) (at : ℕ)
    (tokens all : List Token) → length text ≤ at → tokens ++ piece_tokens rules has_front before (drop at text) ≡ all
    → tokens ≡ all
no_more_tokens rules has_front before text at tokens all over known =
    sym (append-nil tokens) ∙ ap (λ l. tokens ++ l)
    (sym (ap (piece_tokens rules has_front before) (drop_all at text over)
    ∙ piece_tokens-none rules has_front before)) ∙ known
