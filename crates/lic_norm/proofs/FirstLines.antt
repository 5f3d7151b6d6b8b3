-- The first line of an input and the rest of it, as source characters, lines and tokens.
use Rattle.std.proofs.Common.{◌≡◌, ◌≢◌, ℕ, ◌+◌, ◌==◌, Bool, true, false, not, List, [], ◌∷◌, ◌++◌, length, get_or, drop, refl, sym, ap, ap₂, subst, ◌∙◌, append_assoc, append-nil, arith, All, None, inl, inr, length-append, eqb-true, eq-eqb, lit<}
use Rattle.std.specs.List.{flat_map, onto_first}
use Rattle.std.proofs.lemmas.Bool.{cond-true, cond-false, false_from_ne_true}
use Rattle.std.proofs.lemmas.List.Concat.{flat_map-append}
use Rattle.std.proofs.lemmas.List.Elements.{All-nil, All-cons, All-head, All-tail, All-filter, filter-append}
use Rattle.std.proofs.lemmas.List.{map-append}
use Rattle.lic_kind.specs.Kinds.{is_dropped}
use Rattle.lic_trim.specs.Texts.{cut_after}
use Rattle.lic_trim.specs.Sources.{chars_of, without_dropped, lines_of}
use Rattle.lic_trim.specs.declared.source.SourceChar.{SourceChar}
use Rattle.lic_kind.specs.LineRules.{LineRules}
use Rattle.lic_trim.specs.Lines.{whole_line, tail_length}
use Rattle.lic_lines.specs.Cells.{line_cells, cells_of_cut}
use Rattle.lic_lines.specs.Tokens.{first_tokens, single_signs, line_tokens, text_tokens, tokens_of_cells}
use Rattle.lic_lines.proofs.Gaps.{no_streaks}
use Rattle.lic_trim.proofs.ItemLemmas.{item_none, few_after}
use Rattle.lic_lines.proofs.LineByLine.{text_tokens-lines}
use Rattle.lic_norm.specs.LineEnds.{IsFirstLine}
use Rattle.lic_norm.specs.Sources.{source_of}
use Rattle.lic_norm.specs.Tokens.{first_tokens_of, line_tokens_of}
use Rattle.lic_norm.proofs.AnyBytes.{source_of-none, source_of-ascii, source_of-before_ascii, source_of-has_none}

abbrev ends : SourceChar → Bool
ends s = s.char == 0x0A

abbrev keeps : SourceChar → Bool
keeps s = not (is_dropped s.char)

abbrev NoEnd : SourceChar → Type 0
NoEnd s = s.char ≢ 0x0A

no_end-false : (s : SourceChar) → NoEnd s → ends s ≡ false
no_end-false s none = false_from_ne_true (ends s) (λ is. none (eqb-true s.char 0x0A is))

-- a line, if it has a character
abbrev pub as_line : List SourceChar → List (List SourceChar)
as_line [] = []
as_line (s ∷ line) = (s ∷ line) ∷ []

pub as_line-some : (front : List SourceChar) (s : SourceChar) → as_line (front ++ s ∷ []) ≡ (front ++ s ∷ []) ∷ []
as_line-some [] s = refl
as_line-some (r ∷ front) s = refl

cut-first : (front : List SourceChar) (feed : SourceChar) (rest : List SourceChar) → All NoEnd front → feed.char ≡ 0x0A
    → cut_after ends (front ++ feed ∷ rest) ≡ (front ++ feed ∷ []) ∷ cut_after ends rest
cut-first [] feed rest none is = cond-true (ends feed) ((feed ∷ []) ∷ cut_after ends rest) (onto_first feed (cut_after ends rest)) (eq-eqb feed.char 0x0A is)
cut-first (s ∷ front) feed rest none is =
    cond-false (ends s) ((s ∷ []) ∷ cut_after ends (front ++ feed ∷ rest))
    (onto_first s (cut_after ends (front ++ feed ∷ rest))) (no_end-false s (All-head NoEnd s front none))
    ∙ ap (onto_first s) (cut-first front feed rest (All-tail NoEnd s front none) is)

cut-only : (line : List SourceChar) → All NoEnd line → cut_after ends line ≡ as_line line
cut-only [] none = refl
cut-only (s ∷ line) none =
    cond-false (ends s) ((s ∷ []) ∷ cut_after ends line) (onto_first s (cut_after ends line)) (no_end-false s (All-head NoEnd s line none))
    ∙ ap (onto_first s) (cut-only line (All-tail NoEnd s line none)) ∙ onto line
  where
    onto : (line : List SourceChar) → onto_first s (as_line line) ≡ (s ∷ line) ∷ []
    onto [] = refl
    onto (r ∷ line) = refl

-- source characters of letters of which the last is U+000A
pub record EndsLine (text : List SourceChar) (front : List ℕ) : Type 0 where
  pub before : List SourceChar
  pub feed : SourceChar
  pub parts : text ≡ before ++ feed ∷ []
  pub letters : chars_of before ≡ front
  pub is_end : feed.char ≡ 0x0A

pub ends_line : (text : List SourceChar) (front : List ℕ) → chars_of text ≡ front ++ 0x0A ∷ [] → EndsLine text front
ends_line [] front e = absurd (omega (arith, ap length e, length-append front (0x0A ∷ [])))
ends_line (s ∷ []) [] e = record { before = []; feed = s; parts = refl; letters = refl; is_end = ap (λ l. get_or l 0 0) e }
ends_line (s ∷ r ∷ text) [] e = absurd (omega (arith, ap length e))
ends_line (s ∷ text) (c ∷ front) e =
    let rest = ends_line text front (ap (drop 1) e) in
    record {
      before = s ∷ rest.before;
      feed = rest.feed;
      parts = ap (λ l. s ∷ l) rest.parts;
      letters = ap₂ (λ d l. d ∷ l) (ap (λ l. get_or l 0 0) e) rest.letters;
      is_end = rest.is_end;
    }

-- the U+000A of a line stays when its dropped characters are taken out
pub kept_feed : (text : List SourceChar) (front : List ℕ) (line : EndsLine text front) → without_dropped text ≡ without_dropped line.before ++ line.feed ∷ []
kept_feed text front line =
    let kept : keeps line.feed ≡ true = ap (λ c. not (is_dropped c)) line.is_end in
    ap without_dropped line.parts ∙ filter-append keeps line.before (line.feed ∷ [])
    ∙ ap (λ l. without_dropped line.before ++ l) (cond-true (keeps line.feed) (line.feed ∷ []) [] kept)

no_ends : (text : List SourceChar) → All (λ c. c ≢ 0x0A) (chars_of text) → All NoEnd text
no_ends [] none = All-nil NoEnd
no_ends (s ∷ text) none = All-cons NoEnd s text (All-head (λ c. c ≢ 0x0A) s.char (chars_of text) none)
    (no_ends text (All-tail (λ c. c ≢ 0x0A) s.char (chars_of text) none))

-- The lines of a text are its first line and those of the rest, however its characters are placed.
pub lines_of-first : (line rest : List SourceChar) (letters past : List ℕ) → IsFirstLine letters past → chars_of line ≡ letters → (past ≡ [] → rest ≡ [])
    → lines_of (without_dropped (line ++ rest)) ≡ as_line (without_dropped line) ++ lines_of (without_dropped rest)
lines_of-first line rest letters past first same none_after =
    elim first.ends [
      | inl feed_last ↦
          let e = ends_line line first.front (same ∙ feed_last) in
          let feed = e.feed in
          let before = without_dropped e.before in
          let others = without_dropped rest in
          let alone : without_dropped line ≡ before ++ feed ∷ [] = kept_feed line first.front e in
          let clear : All NoEnd before =
          All-filter keeps NoEnd e.before
          (no_ends e.before (subst (λ cs. All (λ c. c ≢ 0x0A) cs) (sym e.letters) first.no_end)) in
          let whole : without_dropped (line ++ rest) ≡ before ++ feed ∷ others =
          filter-append keeps line rest ∙ ap (λ l. l ++ others) alone ∙ append_assoc before (feed ∷ []) others in
          ap lines_of whole ∙ cut-first before feed others clear e.is_end
          ∙ ap (λ l. l ++ lines_of others) (sym (ap as_line alone ∙ as_line-some before feed))
      | inr no_feed ↦
          let clear : All NoEnd line = no_ends line (subst (λ cs. All (λ c. c ≢ 0x0A) cs) (sym (same ∙ no_feed.0)) first.no_end) in
          let rest_none : rest ≡ [] = none_after no_feed.1 in
          ap (λ r. lines_of (without_dropped (line ++ r))) rest_none
          ∙ ap (λ l. lines_of (without_dropped l)) (append-nil line)
          ∙ cut-only (without_dropped line) (All-filter keeps NoEnd line clear)
          ∙ sym (append-nil (as_line (without_dropped line)))
          ∙ ap (λ r. as_line (without_dropped line) ++ lines_of (without_dropped r)) (sym rest_none)
    ]

-- ---- source characters

-- the source characters of an input are those of its first line and those of the rest
pub source_of-first : (at : ℕ) (line rest : List ℕ) → IsFirstLine line rest
    → source_of at (line ++ rest) ≡ source_of at line ++ source_of (at + length line) rest
source_of-first at line rest first =
    elim first.ends [
      | inl feed_last ↦
          let front = first.front in
          let n = at + length front in
          let feed : SourceChar = record { char = 0x0A; start = n; end = n + 1 } in
          let there : n + 1 ≡ at + length line = omega (arith, ap length feed_last, length-append front (0x0A ∷ [])) in
          let alone : source_of at line ≡ source_of at front ++ feed ∷ [] =
          ap (source_of at) feed_last ∙ source_of-before_ascii at front 0x0A [] (lit< tt)
          ∙ ap (λ l. source_of at front ++ l) (source_of-ascii n 0x0A [] (lit< tt) ∙ ap (λ l. feed ∷ l) (source_of-none (n + 1))) in
          ap (source_of at) (ap (λ l. l ++ rest) feed_last ∙ append_assoc front (0x0A ∷ []) rest)
          ∙ source_of-before_ascii at front 0x0A rest (lit< tt)
          ∙ ap (λ l. source_of at front ++ l) (source_of-ascii n 0x0A rest (lit< tt))
          ∙ sym (append_assoc (source_of at front) (feed ∷ []) (source_of (n + 1) rest))
          ∙ ap₂ (λ l m. l ++ source_of m rest) (sym alone) there
      | inr no_feed ↦
          ap (λ r. source_of at (line ++ r)) no_feed.1 ∙ ap (source_of at) (append-nil line) ∙ sym (append-nil (source_of at line))
          ∙ ap (λ l. source_of at line ++ l) (sym (ap (source_of (at + length line)) no_feed.1 ∙ source_of-none (at + length line)))
    ]

-- the characters of a first line have no U+000A but at their end
pub letters_of-first : (at : ℕ) (line rest : List ℕ) → IsFirstLine line rest → IsFirstLine (chars_of (source_of at line)) rest
letters_of-first at line rest first =
    let front = first.front in
    let n = at + length front in
    let letters = chars_of (source_of at front) in
    record {
      front = letters;
      no_end = source_of-has_none at 0x0A front (lit< tt) (lit< tt) first.no_end;
      ends = elim first.ends [
        | inl feed_last ↦ inl (ap (λ l. chars_of (source_of at l)) feed_last ∙ ap chars_of (source_of-before_ascii at front 0x0A [] (lit< tt))
            ∙ map-append (λ (s : SourceChar). s.char) (source_of at front) (source_of n (0x0A ∷ []))
            ∙ ap (λ l. letters ++ chars_of l) (source_of-ascii n 0x0A [] (lit< tt))
            ∙ ap (λ l. letters ++ 0x0A ∷ chars_of l) (source_of-none (n + 1)))
        | inr no_feed ↦ inr (ap (λ l. chars_of (source_of at l)) no_feed.0, no_feed.1)
      ];
    }

-- ---- tokens

-- a line without characters leaves nothing
pub no_cells_whole : (rules : LineRules) → line_cells rules whole_line [] ≡ []
no_cells_whole rules = ap (λ n.
    cells_of_cut (record { lead = 0; item = n; tail = tail_length rules whole_line (drop n []) }) [])
    (item_none rules [] [] (omega arith) (few_after None))

-- and no cells no tokens
pub no_tokens : (rules : LineRules) → tokens_of_cells rules [] ≡ []
no_tokens rules = ap (λ cells. single_signs (first_tokens cells)) (no_streaks rules)

line_or_none : (rules : LineRules) (line : List SourceChar) → flat_map (line_tokens rules whole_line) (as_line line) ≡ line_tokens rules whole_line line
line_or_none rules [] = sym (ap (tokens_of_cells rules) (no_cells_whole rules) ∙ no_tokens rules)
line_or_none rules (s ∷ line) = append-nil (line_tokens rules whole_line (s ∷ line))

-- The tokens of an input are those of its first line and those of the rest.
pub first_tokens_of-first : (rules : LineRules) (at : ℕ) (input line rest : List ℕ) → input ≡ line ++ rest
    → IsFirstLine line rest → first_tokens_of rules at input
    ≡ line_tokens_of rules at line ++ first_tokens_of rules (at + length line) rest
unfolding first_tokens_of line_tokens_of
first_tokens_of-first rules at input line rest parts first =
    let here = source_of at line in
    let there = source_of (at + length line) rest in
    let f = line_tokens rules whole_line in
    let none : rest ≡ [] → there ≡ [] = λ e. ap (source_of (at + length line)) e ∙ source_of-none (at + length line) in
    ap (λ t. text_tokens rules (source_of at t)) parts
    ∙ ap (text_tokens rules) (source_of-first at line rest first)
    ∙ text_tokens-lines rules (here ++ there)
    ∙ ap (flat_map f) (lines_of-first here there (chars_of here) rest (letters_of-first at line rest first) refl none)
    ∙ flat_map-append f (as_line (without_dropped here)) (lines_of (without_dropped there))
    ∙ ap₂ (λ a b. a ++ b) (line_or_none rules (without_dropped here)) (sym (text_tokens-lines rules there))

-- no input has no tokens
pub first_tokens_of-none : (rules : LineRules) (at : ℕ) → first_tokens_of rules at [] ≡ []
unfolding first_tokens_of
first_tokens_of-none rules at = ap (text_tokens rules) (source_of-none at) ∙ no_tokens rules
