-- The tokens of spans are the tokens of cells that are one byte after another.
use Rattle.std.proofs.Common.{◌≡◌, ℕ, suc, ◌+◌, ◌-◌, ◌<◌, ◌≤◌, Bool, true, false, ◌&&◌, ◌||◌, ◌==◌, if◌then◌else◌, List, [], ◌∷◌, ◌++◌, take, drop, map, refl, sym, ap, ap₂, ◌∙◌, ⊎_elim, arith}
use Rattle.std.specs.Prelude.{encode_utf8_all, slice_range, nat_lt}
use Rattle.std.proofs.lemmas.Bool.{cases_Bool, cond-true, cond-false, lt-ltb, le-ltb}
use Rattle.std.proofs.lemmas.List.{drop-drop, append-nil}
use Rattle.lic_kind.specs.Kinds.{spell, is_dash, is_quote}
use Rattle.lic_trim.specs.declared.source.SourceChar.{SourceChar}
use Rattle.lic_lines.specs.declared.cell.Cell.{Cell}
use Rattle.lic_lines.specs.declared.cell.Cell.TheVariants.{Blank, Mark, Word}
use Rattle.lic_lines.specs.Streaks.{same_family}
use Rattle.lic_lines.specs.Tokens.{Token}
use Rattle.lic_columns.specs.Cells as columns
use Rattle.lic_columns.specs.Cells.{Span, from_here, next_cell, with_cell, spans, continues, is_blank}
use Rattle.lic_letters.specs.Bytes.{letter}
use Rattle.lic_columns.specs.Marks.{is_joining}
use Rattle.lic_columns.specs.SpanTokens.{token_text, span_token, span_tokens}
use Rattle.lic_columns.proofs.FirstTokens.{cell_tokens, next, blank_cell, on, own, merged, tokens-blank, tokens-own, tokens-merged}

-- the cell in columns, where a cell comes before it
abbrev pub column_cell : Cell → Cell → columns.Cell
column_cell before Blank = columns.Blank
column_cell before (Word s) = columns.Word
column_cell before (Mark s) = if same_family before (Mark s) then columns.Joined else columns.Mark

abbrev pub column_cells : Cell → List Cell → List columns.Cell
column_cells before [] = []
column_cells before (x ∷ cells) = column_cell before x ∷ column_cells x cells

mark_is_no_blank : (t : Bool) → is_blank (if t then columns.Joined else columns.Mark) ≡ false
mark_is_no_blank true = refl
mark_is_no_blank false = refl

pub blank_is : (before x : Cell) → is_blank (column_cell before x) ≡ blank_cell x
blank_is before Blank = refl
blank_is before (Word s) = refl
blank_is before (Mark s) = mark_is_no_blank (same_family before (Mark s))

mark_to_word : (t : Bool) → continues (if t then columns.Joined else columns.Mark) columns.Word ≡ false
mark_to_word true = refl
mark_to_word false = refl

mark_to_mark : (t u : Bool) → continues (if t then columns.Joined else columns.Mark) (if u then columns.Joined else columns.Mark) ≡ u
mark_to_mark true true = refl
mark_to_mark false true = refl
mark_to_mark t false = refl

pub on_is : (before x : Cell) (cells : List Cell) → continues (column_cell before x) (next_cell (column_cells x cells)) ≡ on x (next cells)
on_is before Blank [] = refl
on_is before Blank (Blank ∷ cells) = refl
on_is before Blank (Word t ∷ cells) = refl
on_is before Blank (Mark t ∷ cells) = refl
on_is before (Word s) [] = refl
on_is before (Word s) (Blank ∷ cells) = refl
on_is before (Word s) (Word t ∷ cells) = refl
on_is before (Word s) (Mark t ∷ cells) = refl
on_is before (Mark s) [] = refl
on_is before (Mark s) (Blank ∷ cells) = refl
on_is before (Mark s) (Word t ∷ cells) = mark_to_word (same_family before (Mark s))
on_is before (Mark s) (Mark t ∷ cells) = mark_to_mark (same_family before (Mark s)) (same_family (Mark s) (Mark t))

-- ---- the first span

goes_to : (c d : columns.Cell) → continues c d ≡ true → is_blank d ≡ false
goes_to c columns.Blank h = absurd cc
goes_to c columns.Word h = refl
goes_to c columns.Mark h = refl
goes_to c columns.Joined h = refl

pub first_span : (at : ℕ) (c : columns.Cell) (cells : List columns.Cell) → is_blank c ≡ false
    → (s : Span) × (rest : List Span) × (spans at (c ∷ cells) ≡ s ∷ rest) × (s.start ≡ at) × (at < s.end)
first_span at c [] h =
    (record { start = at; end = suc at }, [], ap (λ t. with_cell at t (continues c columns.Blank) []) h, refl, omega arith)
first_span at c (d ∷ cells) h =
    ⊎_elim
    (λ hit.
    let f = first_span (suc at) d cells (goes_to c d hit) in
    let e : spans at (c ∷ d ∷ cells) ≡ record f.0 { start = at } ∷ f.1 =
    ap₂ (λ t u. with_cell at t u (spans (suc at) (d ∷ cells))) h hit ∙ ap (from_here at) f.2 in
    (record f.0 { start = at }, f.1, e, refl, omega (arith, f.4)))
    (λ miss.
    (record { start = at; end = suc at }, spans (suc at) (d ∷ cells), ap₂ (λ t u. with_cell at t u (spans (suc at) (d ∷ cells))) h miss, refl, omega arith))
    (cases_Bool (continues c d))

-- ---- cells of bytes

-- a character that was read from this one byte
pub record IsByte (at b : ℕ) (s : SourceChar) : Type 0 where
  pub start : s.start ≡ at
  pub end : s.end ≡ suc at
  pub text : encode_utf8_all (spell s.char) ≡ letter b ∷ []

pub record IsWordByte (at b : ℕ) (s : SourceChar) : Type 0 where
  pub byte : IsByte at b s
  pub plain : is_joining (letter b) ≡ false

pub record IsMarkByte (at b : ℕ) (s : SourceChar) : Type 0 where
  pub byte : IsByte at b s
  pub char : s.char ≡ b
  pub quote : is_quote b ≡ (letter b == 0x27)
  pub dash : is_dash b ≡ (letter b == 0x2D)

abbrev pub CellFits : ℕ → ℕ → Cell → Type 0
CellFits at b Blank = Unit {0}
CellFits at b (Mark s) = IsMarkByte at b s
CellFits at b (Word s) = IsWordByte at b s

-- a cell for each of these bytes, of which the first occurs at this offset
abbrev pub Fit : ℕ → List ℕ → List Cell → Type 0
Fit at [] [] = Unit {0}
Fit at [] (x ∷ cells) = ⊥
Fit at (b ∷ bytes) [] = ⊥
Fit at (b ∷ bytes) (x ∷ cells) = CellFits at b x × Fit (suc at) bytes cells

-- the letter of a mark is that of quotes or of dashes exactly if it is one
pub record IsMarkLetter (b : ℕ) (s : SourceChar) : Type 0 where
  pub quote : is_quote s.char ≡ (letter b == 0x27)
  pub dash : is_dash s.char ≡ (letter b == 0x2D)

abbrev pub MarkFits : ℕ → Cell → Type 0
MarkFits b Blank = Unit {0}
MarkFits b (Mark s) = IsMarkLetter b s
MarkFits b (Word s) = Unit {0}

-- so is each mark of these
abbrev pub MarksFit : List ℕ → List Cell → Type 0
MarksFit [] [] = Unit {0}
MarksFit [] (x ∷ cells) = ⊥
MarksFit (b ∷ bytes) [] = ⊥
MarksFit (b ∷ bytes) (x ∷ cells) = MarkFits b x × MarksFit bytes cells

mark_fits : (at b : ℕ) (x : Cell) → CellFits at b x → MarkFits b x
mark_fits at b Blank fits = tt
mark_fits at b (Mark s) fits = record { quote = ap is_quote fits.char ∙ fits.quote; dash = ap is_dash fits.char ∙ fits.dash }
mark_fits at b (Word s) fits = tt

pub marks_fit : (at : ℕ) (bytes : List ℕ) (cells : List Cell) → Fit at bytes cells → MarksFit bytes cells
marks_fit at [] [] fit = tt
marks_fit at [] (x ∷ cells) fit = absurd fit
marks_fit at (b ∷ bytes) [] fit = absurd fit
marks_fit at (b ∷ bytes) (x ∷ cells) fit = (mark_fits at b x fit.0, marks_fit (suc at) bytes cells fit.1)

-- ---- letters of a span

drop_next : (i : ℕ) (full : List ℕ) (l : ℕ) (rest : List ℕ) → drop i full ≡ l ∷ rest → drop (suc i) full ≡ rest
drop_next i full l rest e =
    let one : suc i ≡ i + 1 = omega arith in
    ap (λ n. drop n full) one ∙ sym (drop-drop 1 i full) ∙ ap (drop 1) e

slice_first : (full : List ℕ) (i j l : ℕ) (rest : List ℕ) → drop i full ≡ l ∷ rest → i < j → slice_range full i j ≡ l ∷ slice_range full (suc i) j
slice_first full i j l rest e lt =
    let size : j - i ≡ suc (j - suc i) = omega arith in
    ap₂ take size e ∙ ap (λ r. l ∷ take (j - suc i) r) (sym (drop_next i full l rest e))

one_letter : (t : Bool) (l : ℕ) → (if t then l ∷ [] else l ∷ []) ≡ l ∷ []
one_letter true l = refl
one_letter false l = refl

pub token_text-one : (letters : List ℕ) (l : ℕ) → letters ≡ l ∷ [] → token_text letters ≡ l ∷ []
token_text-one letters l e = ap token_text e ∙ one_letter (is_joining l) l

pub token_text-word : (letters : List ℕ) (l : ℕ) (rest : List ℕ) → letters ≡ l ∷ rest → is_joining l ≡ false → token_text letters ≡ l ∷ rest
token_text-word letters l rest e plain = ap token_text e ∙ cond-false (is_joining l) _ _ plain

pub token_text-joined : (letters : List ℕ) (l : ℕ) (rest : List ℕ) → letters ≡ l ∷ rest → is_joining l ≡ true → token_text letters ≡ l ∷ []
token_text-joined letters l rest e hit = ap token_text e ∙ cond-true (is_joining l) _ _ hit

abbrev pub token : List ℕ → ℕ → ℕ → Bool → Token
token text start end after_blank = record { text = text; start = start; end = end; after_blank = after_blank }

pub same_token : {text text' : List ℕ} {start start' end end' : ℕ} {b b' : Bool} → text ≡ text' → start ≡ start' → end ≡ end' → b ≡ b'
    → token text start end b ≡ token text' start' end' b'
same_token {text = text} {text' = text'} {start = start} {start' = start'} {end = end} {end' = end'} {b = b} {b' = b'} e f g h =
    ap (λ x. token x start end b) e ∙ ap (λ x. token text' x end b) f ∙ ap (λ x. token text' start' x b) g ∙ ap (λ x. token text' start' end' x) h

pub or-true : (t : Bool) → (t || true) ≡ true
or-true true = refl
or-true false = refl

pub or-false : (t : Bool) → (t || false) ≡ t
or-false true = refl
or-false false = refl

-- quotes and dashes that are of one token have the letter of it
pub letters_join : (b : ℕ) (s t : SourceChar) → IsMarkLetter b s → same_family (Mark s) (Mark t) ≡ true → is_joining (letter b) ≡ true
letters_join b s t is h = go (is_quote s.char) (is_quote t.char) (is_dash s.char) (is_dash t.char) is.quote is.dash h
  where
    go : (q q' d d' : Bool) → q ≡ (letter b == 0x27) → d ≡ (letter b == 0x2D) → ((q && q') || (d && d')) ≡ true → is_joining (letter b) ≡ true
    go true q' d d' e f g = ap (λ t. t || (letter b == 0x2D)) (sym e)
    go false q' true d' e f g = ap (λ t. (letter b == 0x27) || t) (sym f) ∙ or-true (letter b == 0x27)
    go false q' false d' e f g = absurd cc

family_joins : (a b : ℕ) (s t : SourceChar) → IsMarkByte a b s → same_family (Mark s) (Mark t) ≡ true → is_joining (letter b) ≡ true
family_joins a b s t is h = letters_join b s t (mark_fits a b (Mark s) is) h

-- ---- the tokens

module _ (at : ℕ) (full : List ℕ) where
  -- a cell that is a token, or a part of the next
  abbrev Here : ℕ → ℕ → List ℕ → Type 0
  Here p b bytes = (at ≤ p) × (drop (p - at) full ≡ letter b ∷ map letter bytes)

  pub rest_here : (p b : ℕ) (bytes : List ℕ) → at ≤ p → drop (p - at) full ≡ letter b ∷ map letter bytes → drop (suc p - at) full ≡ map letter bytes
  rest_here p b bytes low e =
      let offset : suc p - at ≡ suc (p - at) = omega arith in
      ap (λ n. drop n full) offset ∙ drop_next (p - at) full (letter b) (map letter bytes) e

  pub first_letters : (p end b : ℕ) (bytes : List ℕ) → at ≤ p → p < end → drop (p - at) full ≡ letter b ∷ map letter bytes
      → slice_range full (p - at) (end - at) ≡ letter b ∷ slice_range full (suc p - at) (end - at)
  first_letters p end b bytes low lt e =
      let offset : suc (p - at) ≡ suc p - at = omega arith in
      slice_first full (p - at) (end - at) (letter b) (map letter bytes) e (omega arith)
      ∙ ap (λ n. letter b ∷ slice_range full n (end - at)) offset

  -- one byte
  single_text : (p b : ℕ) (bytes : List ℕ) → at ≤ p → drop (p - at) full ≡ letter b ∷ map letter bytes
      → token_text (slice_range full (p - at) (suc p - at)) ≡ letter b ∷ []
  single_text p b bytes low e =
      let none : suc p - at - (suc p - at) ≡ 0 = omega arith in
      token_text-one _ (letter b)
      (first_letters p (suc p) b bytes low (omega arith) e ∙ ap (λ n. letter b ∷ take n (drop (suc p - at) full)) none)

  byte_text : (p b : ℕ) (s : SourceChar) → IsByte p b s → letter b ∷ [] ≡ encode_utf8_all (spell s.char ++ [])
  byte_text p b s is = sym (ap encode_utf8_all (append-nil (spell s.char)) ∙ is.text)

  pub own_token : (p b : ℕ) (bytes : List ℕ) (x : Cell) (before : ℕ) (blank : Bool) (ts : List Token) → at ≤ p → drop (p - at) full ≡ letter b ∷ map letter bytes
      → CellFits p b x → blank_cell x ≡ false
      → span_token blank at before full (record { start = p; end = suc p }) ∷ ts ≡ own (blank || nat_lt before p) x ts
  own_token p b bytes Blank before blank ts low e fits h = absurd cc
  own_token p b bytes (Mark s) before blank ts low e fits h =
      ap (λ t. t ∷ ts) (same_token (single_text p b bytes low e ∙ byte_text p b s fits.byte) (sym fits.byte.start) (sym fits.byte.end) refl)
  own_token p b bytes (Word s) before blank ts low e fits h =
      ap (λ t. t ∷ ts) (same_token (single_text p b bytes low e ∙ byte_text p b s fits.byte) (sym fits.byte.start) (sym fits.byte.end) refl)

  -- no blank comes before the next byte
  pub not_after : (p before : ℕ) (s : Span) (blank : Bool) → s.start ≡ suc p → (blank || nat_lt before p) ≡ ((blank || nat_lt before p) || nat_lt (suc p) s.start)
  not_after p before s blank start =
      sym (ap (λ n. (blank || nat_lt before p) || nat_lt (suc p) n) start
      ∙ ap (λ t. (blank || nat_lt before p) || t) (le-ltb (suc p) (suc p) (omega arith))
      ∙ or-false (blank || nat_lt before p))

  -- the byte before a token that begins with the next cell
  merged_token : (p b : ℕ) (bytes : List ℕ) (x : Cell) (cells : List Cell) (before : ℕ) (blank : Bool) (s : Span) (ts : List Token) → at ≤ p
      → drop (p - at) full ≡ letter b ∷ map letter bytes → CellFits p b x → Fit (suc p) bytes cells → on x (next cells) ≡ true
      → s.start ≡ suc p → suc p < s.end
      → span_token blank at before full (record s { start = p }) ∷ ts ≡ merged x (span_token (blank || nat_lt before p) at (suc p) full s ∷ ts)
  merged_token p b bytes Blank [] before blank s ts low e fits more h start end = absurd cc
  merged_token p b bytes Blank (Blank ∷ cells) before blank s ts low e fits more h start end = absurd cc
  merged_token p b bytes Blank (Mark t ∷ cells) before blank s ts low e fits more h start end = absurd cc
  merged_token p b bytes Blank (Word t ∷ cells) before blank s ts low e fits more h start end = absurd cc
  merged_token p b bytes (Mark m) [] before blank s ts low e fits more h start end = absurd cc
  merged_token p b bytes (Mark m) (Blank ∷ cells) before blank s ts low e fits more h start end = absurd cc
  merged_token p b bytes (Mark m) (Word t ∷ cells) before blank s ts low e fits more h start end = absurd cc
  merged_token p b bytes (Mark m) (Mark t ∷ cells) before blank s ts low e fits more h start end =
      ap (λ t. t ∷ ts) (same_token
      (token_text-joined _ (letter b) _ (first_letters p s.end b bytes low (omega arith) e) (family_joins p b m t fits h) ∙ byte_text p b m fits.byte)
      (sym fits.byte.start) refl (not_after p before s blank start))
  merged_token p b bytes (Word m) [] before blank s ts low e fits more h start end = absurd cc
  merged_token p b bytes (Word m) (Blank ∷ cells) before blank s ts low e fits more h start end = absurd cc
  merged_token p b bytes (Word m) (Mark t ∷ cells) before blank s ts low e fits more h start end = absurd cc
  merged_token p b [] (Word m) (Word t ∷ cells) before blank s ts low e fits more h start end = absurd more
  merged_token p b (d ∷ bytes) (Word m) (Word t ∷ cells) before blank s ts low e fits more h start end =
      let here = first_letters p s.end b (d ∷ bytes) low (omega arith) e in
      let second : slice_range full (suc p - at) (s.end - at) ≡ letter d ∷ slice_range full (suc (suc p) - at) (s.end - at) =
      first_letters (suc p) s.end d bytes (omega arith) end (rest_here p b (d ∷ bytes) low e) in
      let offset : slice_range full (suc p - at) (s.end - at) ≡ slice_range full (s.start - at) (s.end - at) =
      ap (λ n. slice_range full (n - at) (s.end - at)) (sym start) in
      let next_text : slice_range full (suc p - at) (s.end - at) ≡ token_text (slice_range full (s.start - at) (s.end - at)) =
      second ∙ sym (token_text-word _ (letter d) _ (sym offset ∙ second) more.0.plain) in
      ap (λ t. t ∷ ts) (same_token
      (token_text-word _ (letter b) _ here fits.plain ∙ ap₂ (λ k l. k ++ l) (sym fits.byte.text) next_text)
      (sym fits.byte.start) refl (not_after p before s blank start))

  on_no_blank : (x y : Cell) → on x y ≡ true → blank_cell x ≡ false
  on_no_blank (Mark s) y h = refl
  on_no_blank (Word s) y h = refl
  on_no_blank Blank Blank h = absurd cc
  on_no_blank Blank (Mark t) h = absurd cc
  on_no_blank Blank (Word t) h = absurd cc

  pub on_next : (x : Cell) (cells : List Cell) → on x (next cells) ≡ true → (y : Cell) × (rest : List Cell) × (cells ≡ y ∷ rest) × (blank_cell y ≡ false)
  on_next x (Mark t ∷ cells) h = (Mark t, cells, refl, refl)
  on_next x (Word t ∷ cells) h = (Word t, cells, refl, refl)
  on_next Blank [] h = absurd cc
  on_next (Mark s) [] h = absurd cc
  on_next (Word s) [] h = absurd cc
  on_next Blank (Blank ∷ cells) h = absurd cc
  on_next (Mark s) (Blank ∷ cells) h = absurd cc
  on_next (Word s) (Blank ∷ cells) h = absurd cc

  -- the tokens of cells that begin at an offset, after what ends before
  abbrev AreTokens : ℕ → Cell → List Cell → Type 0
  AreTokens p prev cells = (blank : Bool) (before : ℕ) → before ≤ p
      → span_tokens blank at before full (spans p (column_cells prev cells)) ≡ cell_tokens (blank || nat_lt before p) cells

  module _ (p b : ℕ) (bytes : List ℕ) (prev x : Cell) (cells : List Cell) (low : at ≤ p) (e : drop (p - at) full ≡ letter b ∷ map letter bytes)
      (here : CellFits p b x) (fit : Fit (suc p) bytes cells) (later : AreTokens (suc p) x cells) (blank : Bool) (before : ℕ) (order : before ≤ p) where
    cell_is : (t u : Bool) → blank_cell x ≡ t → on x (next cells) ≡ u
        → spans p (column_cells prev (x ∷ cells)) ≡ with_cell p t u (spans (suc p) (column_cells x cells))
    cell_is t u h k = ap₂ (λ v w. with_cell p v w (spans (suc p) (column_cells x cells))) (blank_is prev x ∙ h) (on_is prev x cells ∙ k)

    blank_first : (y : Cell) → blank_cell y ≡ true → cell_tokens (blank || nat_lt before p) (y ∷ cells) ≡ cell_tokens true cells
    blank_first Blank h = tokens-blank (blank || nat_lt before p) cells
    blank_first (Mark s) h = absurd cc
    blank_first (Word s) h = absurd cc

    space : blank_cell x ≡ true → span_tokens blank at before full (spans p (column_cells prev (x ∷ cells))) ≡ cell_tokens (blank || nat_lt before p) (x ∷ cells)
    space h =
        ap (span_tokens blank at before full) (cell_is true (on x (next cells)) h refl)
        ∙ later blank before (omega arith)
        ∙ ap (λ t. cell_tokens t cells) (ap (λ t. blank || t) (lt-ltb before (suc p) (omega arith)) ∙ or-true blank)
        ∙ sym (blank_first x h)

    alone : blank_cell x ≡ false → on x (next cells) ≡ false
        → span_tokens blank at before full (spans p (column_cells prev (x ∷ cells))) ≡ cell_tokens (blank || nat_lt before p) (x ∷ cells)
    alone dark h =
        ap (span_tokens blank at before full) (cell_is false false dark h)
        ∙ ap (λ ts. span_token blank at before full (record { start = p; end = suc p }) ∷ ts)
        (later false (suc p) (omega arith)
        ∙ ap (λ t. cell_tokens t cells) (le-ltb (suc p) (suc p) (omega arith) ∙ sym dark))
        ∙ own_token p b bytes x before blank (cell_tokens (blank_cell x) cells) low e here dark
        ∙ sym (tokens-own (blank || nat_lt before p) x cells h)

    more : blank_cell x ≡ false → on x (next cells) ≡ true
        → span_tokens blank at before full (spans p (column_cells prev (x ∷ cells))) ≡ cell_tokens (blank || nat_lt before p) (x ∷ cells)
    more dark h =
        let y = on_next x cells h in
        let f = first_span (suc p) (column_cell x y.0) (column_cells y.0 y.1) (blank_is x y.0 ∙ y.3) in
        let s = f.0 in
        let found : spans (suc p) (column_cells x cells) ≡ s ∷ f.1 = ap (λ l. spans (suc p) (column_cells x l)) y.2 ∙ f.2 in
        let rest = span_tokens false at s.end full f.1 in
        ap (span_tokens blank at before full) (cell_is false true dark h ∙ ap (from_here p) found)
        ∙ merged_token p b bytes x cells before blank s rest low e here fit h f.3 f.4
        ∙ ap (merged x)
        (ap (span_tokens (blank || nat_lt before p) at (suc p) full) (sym found)
        ∙ later (blank || nat_lt before p) (suc p) (omega arith)
        ∙ ap (λ t. cell_tokens t cells)
        (ap (λ t. (blank || nat_lt before p) || t) (le-ltb (suc p) (suc p) (omega arith)) ∙ or-false (blank || nat_lt before p)))
        ∙ sym (tokens-merged (blank || nat_lt before p) x cells h)

    cell_tokens_are : span_tokens blank at before full (spans p (column_cells prev (x ∷ cells))) ≡ cell_tokens (blank || nat_lt before p) (x ∷ cells)
    cell_tokens_are =
        ⊎_elim
        (λ hit. space hit)
        (λ dark. ⊎_elim (λ hit. more dark hit) (λ miss. alone dark miss) (cases_Bool (on x (next cells))))
        (cases_Bool (blank_cell x))

  pub tokens_are : (p : ℕ) (bytes : List ℕ) (prev : Cell) (cells : List Cell) → at ≤ p → drop (p - at) full ≡ map letter bytes → Fit p bytes cells
      → AreTokens p prev cells
  tokens_are p [] prev [] low e fit = λ blank before order. refl
  tokens_are p [] prev (x ∷ cells) low e fit = absurd fit
  tokens_are p (b ∷ bytes) prev [] low e fit = absurd fit
  tokens_are p (b ∷ bytes) prev (x ∷ cells) low e fit =
      cell_tokens_are p b bytes prev x cells low e fit.0 fit.1
      (tokens_are (suc p) bytes x cells (omega arith) (rest_here p b bytes low e) fit.1)
