-- The tokens of spans are the tokens of cells of characters, each of which may have several bytes.
use Rattle.std.proofs.Common.{◌≡◌, ℕ, zero, suc, ◌+◌, ◌-◌, ◌<◌, ◌≤◌, Bool, true, false, ◌||◌, ◌==◌, if◌then◌else◌, List, [], ◌∷◌, ◌++◌, length, take, drop, map, get_or, refl, sym, ap, ap₂, ◌∙◌, ⊎_elim, arith}
use Rattle.std.specs.Prelude.{encode_utf8_all, slice_range, nat_lt}
use Rattle.std.proofs.lemmas.Bool.{cases_Bool, lt-ltb, le-ltb}
use Rattle.std.proofs.lemmas.List.{drop-drop, drop-map, take-map, append-nil}
use Rattle.std.proofs.Math.Seq.{take-add}
use Rattle.lic_kind.specs.Kinds.{spell}
use Rattle.lic_trim.specs.Texts.{groups}
use Rattle.lic_trim.specs.declared.source.SourceChar.{SourceChar}
use Rattle.lic_kind.specs.LineRules.{LineRules}
use Rattle.lic_lines.specs.declared.cell.Cell.{Cell}
use Rattle.lic_lines.specs.declared.cell.Cell.TheVariants.{Blank, Mark, Word}
use Rattle.lic_lines.specs.Streaks.{same_family, streaks_joined, with_joined, without_separators}
use Rattle.lic_lines.specs.Tokens.{Token, both_words, tokens_from}
use Rattle.lic_lines.proofs.Gaps.{is_word}
use Rattle.lic_columns.specs.Cells as columns
use Rattle.lic_columns.specs.Cells.{Span, from_here, next_cell, with_cell, cells_of, spans, continues, is_blank}
use Rattle.lic_letters.specs.Bytes.{letter}
use Rattle.lic_columns.specs.Known.{Known}
use Rattle.lic_columns.specs.Marks as taken
use Rattle.lic_columns.specs.Marks.{is_joining, joined_marks}
use Rattle.lic_columns.specs.SpanTokens.{token_text, span_token, span_tokens}
use Rattle.lic_columns.specs.Tokens.{kept_marks, text_cells, text_spans}
use Rattle.lic_columns.proofs.FirstTokens.{cell_tokens, next, blank_cell, on, own, merged, tokens-blank, tokens-own, tokens-merged}
use Rattle.lic_columns.proofs.SpanLemmas.{column_cell, column_cells, blank_is, on_is, first_span, IsMarkLetter, MarkFits, MarksFit, same_token, letters_join, or-true, or-false, token_text-one, token_text-word, token_text-joined}
use Rattle.lic_columns.proofs.Separators.{same_first, unmarked, is_gone, parted, parted-alike}
use Rattle.lic_columns.proofs.FlagCells.{words, marks, cells_are}

-- ---- cells of characters

-- a word character that was read from the first `suc more` of these bytes
pub record IsWideWord (p more : ℕ) (bytes : List ℕ) (s : SourceChar) : Type 0 where
  pub start : s.start ≡ p
  pub end : s.end ≡ p + suc more
  pub text : encode_utf8_all (spell s.char) ≡ map letter (take (suc more) bytes)
  pub plain : is_joining (letter (get_or bytes 0 0)) ≡ false

-- a mark that was: all of them have its letter, and where there are several, it is one that is joined
pub record IsWideMark (p more : ℕ) (bytes : List ℕ) (s : SourceChar) : Type 0 where
  pub start : s.start ≡ p
  pub end : s.end ≡ p + suc more
  pub text : encode_utf8_all (spell s.char) ≡ letter (get_or bytes 0 0) ∷ []
  pub mark : IsMarkLetter (get_or bytes 0 0) s
  pub each : (i : ℕ) → i < suc more → letter (get_or bytes i 0) ≡ letter (get_or bytes 0 0)
  pub joins : 0 < more → same_family (Mark s) (Mark s) ≡ true

abbrev pub IsWide : ℕ → ℕ → List ℕ → Cell → Type 0
IsWide p more bytes Blank = Unit {0}
IsWide p more bytes (Mark s) = IsWideMark p more bytes s
IsWide p more bytes (Word s) = IsWideWord p more bytes s

-- cells of characters, one after another, of which the first begins at this offset, by how many bytes more than one each has
abbrev pub WideFit : ℕ → List ℕ → List ℕ → List Cell → Type 0
WideFit p bytes [] [] = bytes ≡ []
WideFit p bytes [] (x ∷ cells) = ⊥
WideFit p bytes (m ∷ ms) [] = ⊥
WideFit p bytes (m ∷ ms) (x ∷ cells) = (suc m ≤ length bytes) × IsWide p m bytes x × WideFit (p + suc m) (drop (suc m) bytes) ms cells

-- a cell as often as it has bytes, before other cells
abbrev pub pieces : Cell → ℕ → List Cell → List Cell
pieces x zero rest = rest
pieces x (suc n) rest = x ∷ pieces x n rest

-- a cell for each byte
abbrev pub exploded : List ℕ → List Cell → List Cell
exploded [] cells = cells
exploded (m ∷ ms) [] = []
exploded (m ∷ ms) (x ∷ cells) = pieces x (suc m) (exploded ms cells)

next-exploded : (p : ℕ) (bytes ms : List ℕ) (cells : List Cell) → WideFit p bytes ms cells → next (exploded ms cells) ≡ next cells
next-exploded p bytes [] cells fit = refl
next-exploded p bytes (m ∷ ms) [] fit = absurd fit
next-exploded p bytes (m ∷ ms) (x ∷ cells) fit = refl

-- ---- each of the cells for the bytes fits

pieces_fit : (x : Cell) (n : ℕ) (bytes : List ℕ) (rest : List Cell) → n ≤ length bytes → ((i : ℕ) → i < n → MarkFits (get_or bytes i 0) x)
    → MarksFit (drop n bytes) rest → MarksFit bytes (pieces x n rest)
pieces_fit x zero bytes rest within each fit = fit
pieces_fit x (suc n) [] rest within each fit = absurd (omega arith)
pieces_fit x (suc n) (b ∷ bytes) rest within each fit =
    (each 0 (omega arith), pieces_fit x n bytes rest (omega arith) (λ i lt. each (suc i) (omega (arith, lt))) fit)

wide_mark_fits : (p m : ℕ) (bytes : List ℕ) (x : Cell) → IsWide p m bytes x → (i : ℕ) → i < suc m → MarkFits (get_or bytes i 0) x
wide_mark_fits p m bytes Blank is i lt = tt
wide_mark_fits p m bytes (Word s) is i lt = tt
wide_mark_fits p m bytes (Mark s) is i lt = record {
  quote = is.mark.quote ∙ ap (λ l. l == 0x27) (sym (is.each i lt));
  dash = is.mark.dash ∙ ap (λ l. l == 0x2D) (sym (is.each i lt));
}

no_bytes : (bytes : List ℕ) → bytes ≡ [] → MarksFit bytes []
no_bytes [] e = tt
no_bytes (b ∷ bytes) e = absurd (omega (arith, ap length e))

pub exploded_fit : (p : ℕ) (bytes ms : List ℕ) (cells : List Cell) → WideFit p bytes ms cells → MarksFit bytes (exploded ms cells)
exploded_fit p bytes [] [] fit = no_bytes bytes fit
exploded_fit p bytes [] (x ∷ cells) fit = absurd fit
exploded_fit p bytes (m ∷ ms) [] fit = absurd fit
exploded_fit p bytes (m ∷ ms) (x ∷ cells) fit =
    pieces_fit x (suc m) bytes (exploded ms cells) fit.0 (wide_mark_fits p m bytes x fit.1) (exploded_fit (p + suc m) (drop (suc m) bytes) ms cells fit.2)

-- ---- without separators

unmarked-wide : (p m : ℕ) (bytes : List ℕ) (gone : Bool) (x : Cell) → IsWide p m bytes x → IsWide p m bytes (unmarked gone x)
unmarked-wide p m bytes gone Blank is = tt
unmarked-wide p m bytes gone (Word s) is = is
unmarked-wide p m bytes true (Mark s) is = tt
unmarked-wide p m bytes false (Mark s) is = is

pub WideFit-parted : (two one : Bool) (p : ℕ) (bytes ms : List ℕ) (cells : List Cell) → WideFit p bytes ms cells → WideFit p bytes ms (parted two one cells)
WideFit-parted two one p bytes [] [] fit = fit
WideFit-parted two one p bytes [] (x ∷ cells) fit = absurd fit
WideFit-parted two one p bytes (m ∷ ms) [] fit = absurd fit
WideFit-parted two one p bytes (m ∷ ms) (x ∷ cells) fit = (
  fit.0,
  unmarked-wide p m bytes (is_gone two one (same_first (x ∷ cells)) (same_first cells)) x fit.1,
  WideFit-parted one (same_first (x ∷ cells)) (p + suc m) (drop (suc m) bytes) ms cells fit.2,
)

map-pieces : (f : Cell → Bool) (x y : Cell) (n : ℕ) (rest others : List Cell) → f x ≡ f y → map f rest ≡ map f others
    → map f (pieces x n rest) ≡ map f (pieces y n others)
map-pieces f x y zero rest others e h = h
map-pieces f x y (suc n) rest others e h = ap₂ (λ t l. t ∷ l) e (map-pieces f x y n rest others e h)

unmarked-word : (gone : Bool) (x : Cell) → is_word (unmarked gone x) ≡ is_word x
unmarked-word gone Blank = refl
unmarked-word gone (Word s) = refl
unmarked-word true (Mark s) = refl
unmarked-word false (Mark s) = refl

pub words-parted : (two one : Bool) (ms : List ℕ) (cells : List Cell) → words (exploded ms (parted two one cells)) ≡ words (exploded ms cells)
words-parted two one [] [] = refl
words-parted two one [] (x ∷ cells) =
    ap₂ (λ t l. t ∷ l) (unmarked-word (is_gone two one (same_first (x ∷ cells)) (same_first cells)) x) (words-parted one (same_first (x ∷ cells)) [] cells)
words-parted two one (m ∷ ms) [] = refl
words-parted two one (m ∷ ms) (x ∷ cells) =
    let gone = is_gone two one (same_first (x ∷ cells)) (same_first cells) in
    map-pieces is_word (unmarked gone x) x (suc m) (exploded ms (parted one (same_first (x ∷ cells)) cells)) (exploded ms cells)
    (unmarked-word gone x) (words-parted one (same_first (x ∷ cells)) ms cells)

-- ---- the spans of a character

-- a token, or the begin of one, before others
abbrev with_token : ℕ → ℕ → Bool → List Span → List Span
with_token p end true ss = from_here p ss
with_token p end false ss = record { start = p; end = end } ∷ ss

from_here-twice : (p q : ℕ) (ss : List Span) → from_here p (from_here q ss) ≡ from_here p ss
from_here-twice p q [] = refl
from_here-twice p q (s ∷ ss) = refl

token_longer : (p end : ℕ) (more : Bool) (ss : List Span) → from_here p (with_token (suc p) end more ss) ≡ with_token p end more ss
token_longer p end true ss = from_here-twice p (suc p) ss
token_longer p end false ss = refl

with_cell-token : (p : ℕ) (more : Bool) (ss : List Span) → with_cell p false more ss ≡ with_token p (suc p) more ss
with_cell-token p true ss = refl
with_cell-token p false ss = refl

dark_spans : (x : Cell) (n p : ℕ) (prev : Cell) (rest : List Cell) → blank_cell x ≡ false → (0 < n → on x x ≡ true)
    → spans p (column_cells prev (pieces x (suc n) rest)) ≡ with_token p (p + suc n) (on x (next rest)) (spans (p + suc n) (column_cells x rest))
dark_spans x zero p prev rest dark joins =
    let e : suc p ≡ p + suc zero = omega arith in
    ap₂ (λ t u. with_cell p t u (spans (suc p) (column_cells x rest))) (blank_is prev x ∙ dark) (on_is prev x rest)
    ∙ with_cell-token p (on x (next rest)) (spans (suc p) (column_cells x rest))
    ∙ ap (λ k. with_token p k (on x (next rest)) (spans k (column_cells x rest))) e
dark_spans x (suc n) p prev rest dark joins =
    let e : suc p + suc n ≡ p + suc (suc n) = omega arith in
    ap₂ (λ t u. with_cell p t u (spans (suc p) (column_cells x (pieces x (suc n) rest)))) (blank_is prev x ∙ dark)
    (on_is prev x (pieces x (suc n) rest) ∙ joins (omega arith))
    ∙ ap (from_here p) (dark_spans x n (suc p) x rest dark (λ lt. joins (omega arith)))
    ∙ token_longer p (suc p + suc n) (on x (next rest)) (spans (suc p + suc n) (column_cells x rest))
    ∙ ap (λ k. with_token p k (on x (next rest)) (spans k (column_cells x rest))) e

blank_spans : (n p : ℕ) (prev : Cell) (rest : List Cell)
    → spans p (column_cells prev (pieces Blank (suc n) rest)) ≡ spans (p + suc n) (column_cells Blank rest)
blank_spans zero p prev rest = let e : suc p ≡ p + suc zero = omega arith in ap (λ k. spans k (column_cells Blank rest)) e
blank_spans (suc n) p prev rest =
    let e : suc p + suc n ≡ p + suc (suc n) = omega arith in
    blank_spans n (suc p) Blank rest ∙ ap (λ k. spans k (column_cells Blank rest)) e

-- ---- the tokens

on_self : (p m : ℕ) (bytes : List ℕ) (x : Cell) → IsWide p m bytes x → blank_cell x ≡ false → 0 < m → on x x ≡ true
on_self p m bytes Blank is dark lt = absurd cc
on_self p m bytes (Word s) is dark lt = refl
on_self p m bytes (Mark s) is dark lt = is.joins lt

module _ (at : ℕ) (full : List ℕ) where
  -- these bytes are the ones from this offset on
  abbrev AreFrom : ℕ → List ℕ → Type 0
  AreFrom p bytes = (at ≤ p) × (drop (p - at) full ≡ map letter bytes)

  from_after : (p m : ℕ) (bytes : List ℕ) → AreFrom p bytes → AreFrom (p + suc m) (drop (suc m) bytes)
  from_after p m bytes here =
      let offset : p + suc m - at ≡ p - at + suc m = omega (arith, here.0) in (
        omega (arith, here.0),
        ap (λ n. drop n full) offset ∙ sym (drop-drop (suc m) (p - at) full) ∙ ap (drop (suc m)) here.1 ∙ drop-map letter (suc m) bytes,
      )

  -- its letters, and those after it
  letters_to : (p m b : ℕ) (bytes : List ℕ) → AreFrom p (b ∷ bytes) → (end : ℕ) → p + suc m ≤ end
      → slice_range full (p - at) (end - at) ≡ letter b ∷ (map letter (take m bytes) ++ slice_range full (p + suc m - at) (end - at))
  letters_to p m b bytes here end low =
      let after = p + suc m in
      let size : end - at - (p - at) ≡ suc m + (end - at - (after - at)) = omega (arith, here.0) in
      ap (λ n. take n (drop (p - at) full)) size
      ∙ take-add (suc m) (end - at - (after - at)) (drop (p - at) full)
      ∙ ap₂ (λ k l. k ++ l)
      (ap (take (suc m)) here.1 ∙ ap (λ l. letter b ∷ l) (take-map letter m bytes))
      (ap (take (end - at - (after - at)))
      (ap (drop (suc m)) here.1 ∙ drop-map letter (suc m) (b ∷ bytes) ∙ sym (from_after p m (b ∷ bytes) here).1))

  -- and its own alone
  letters_own : (p m b : ℕ) (bytes : List ℕ) → AreFrom p (b ∷ bytes)
      → slice_range full (p - at) (p + suc m - at) ≡ letter b ∷ map letter (take m bytes)
  letters_own p m b bytes here =
      let after = p + suc m in
      let none : after - at - (after - at) ≡ 0 = omega arith in
      letters_to p m b bytes here after (omega arith)
      ∙ ap (λ n. letter b ∷ (map letter (take m bytes) ++ take n (drop (after - at) full))) none
      ∙ ap (λ l. letter b ∷ l) (append-nil (map letter (take m bytes)))

  spelled_own : (s : SourceChar) → encode_utf8_all (spell s.char) ≡ encode_utf8_all (spell s.char ++ [])
  spelled_own s = sym (ap encode_utf8_all (append-nil (spell s.char)))

  word_text : (p m b : ℕ) (bytes : List ℕ) (s : SourceChar) → AreFrom p (b ∷ bytes) → IsWideWord p m (b ∷ bytes) s
      → token_text (slice_range full (p - at) (p + suc m - at)) ≡ encode_utf8_all (spell s.char ++ [])
  word_text p m b bytes s here is =
      token_text-word _ (letter b) _ (letters_own p m b bytes here) is.plain ∙ sym is.text ∙ spelled_own s

  mark_text : (p m b : ℕ) (bytes : List ℕ) (s : SourceChar) → AreFrom p (b ∷ bytes) → IsWideMark p m (b ∷ bytes) s
      → token_text (slice_range full (p - at) (p + suc m - at)) ≡ encode_utf8_all (spell s.char ++ [])
  mark_text p zero b bytes s here is =
      token_text-one _ (letter b) (letters_own p zero b bytes here) ∙ sym is.text ∙ spelled_own s
  mark_text p (suc m) b bytes s here is =
      token_text-joined _ (letter b) _ (letters_own p (suc m) b bytes here) (letters_join b s s is.mark (is.joins (omega arith)))
      ∙ sym is.text ∙ spelled_own s

  own_is : (p m b : ℕ) (bytes : List ℕ) (x : Cell) (before : ℕ) (blank : Bool) (ts : List Token) → AreFrom p (b ∷ bytes) → IsWide p m (b ∷ bytes) x
      → blank_cell x ≡ false
      → span_token blank at before full (record { start = p; end = p + suc m }) ∷ ts ≡ own (blank || nat_lt before p) x ts
  own_is p m b bytes Blank before blank ts here is dark = absurd cc
  own_is p m b bytes (Mark s) before blank ts here is dark =
      ap (λ t. t ∷ ts) (same_token (mark_text p m b bytes s here is) (sym is.start) (sym is.end) refl)
  own_is p m b bytes (Word s) before blank ts here is dark =
      ap (λ t. t ∷ ts) (same_token (word_text p m b bytes s here is) (sym is.start) (sym is.end) refl)

  -- no blank comes before the next byte
  no_blank : (p after before : ℕ) (t : Span) (blank : Bool) → t.start ≡ after
      → (blank || nat_lt before p) ≡ ((blank || nat_lt before p) || nat_lt after t.start)
  no_blank p after before t blank start =
      sym (ap (λ n. (blank || nat_lt before p) || nat_lt after n) start
      ∙ ap (λ u. (blank || nat_lt before p) || u) (le-ltb after after (omega arith))
      ∙ or-false (blank || nat_lt before p))

  merged_word : (p m b : ℕ) (bytes : List ℕ) (s : SourceChar) (before : ℕ) (blank : Bool) (t : Span) (ts : List Token) (d : ℕ) (ds : List ℕ)
      → AreFrom p (b ∷ bytes) → IsWideWord p m (b ∷ bytes) s → drop m bytes ≡ d ∷ ds → is_joining (letter d) ≡ false
      → t.start ≡ p + suc m → p + suc m < t.end
      → span_token blank at before full (record t { start = p }) ∷ ts ≡ merged (Word s) (span_token (blank || nat_lt before p) at (p + suc m) full t ∷ ts)
  merged_word p m b bytes s before blank t ts d ds here is first plain start end =
      let after = p + suc m in
      let size : t.end - at - (after - at) ≡ suc (t.end - at - suc (after - at)) = omega (arith, here.0) in
      let second : slice_range full (after - at) (t.end - at) ≡ letter d ∷ take (t.end - at - suc (after - at)) (map letter ds) =
      ap₂ take size ((from_after p m (b ∷ bytes) here).1 ∙ ap (map letter) first) in
      let offset : slice_range full (after - at) (t.end - at) ≡ slice_range full (t.start - at) (t.end - at) =
      ap (λ n. slice_range full (n - at) (t.end - at)) (sym start) in
      let text : token_text (slice_range full (p - at) (t.end - at)) ≡ encode_utf8_all (spell s.char) ++ token_text (slice_range full (t.start - at) (t.end - at)) =
      token_text-word _ (letter b) _ (letters_to p m b bytes here t.end (omega arith)) is.plain
      ∙ ap₂ (λ k l. k ++ l) (sym is.text) (second ∙ sym (token_text-word _ (letter d) _ second plain) ∙ ap token_text offset) in
      ap (λ u. u ∷ ts) (same_token text (sym is.start) refl (no_blank p after before t blank start))

  merged_mark : (p m b : ℕ) (bytes : List ℕ) (s u : SourceChar) (before : ℕ) (blank : Bool) (t : Span) (ts : List Token)
      → AreFrom p (b ∷ bytes) → IsWideMark p m (b ∷ bytes) s → same_family (Mark s) (Mark u) ≡ true → t.start ≡ p + suc m → p + suc m < t.end
      → span_token blank at before full (record t { start = p }) ∷ ts ≡ merged (Mark s) (span_token (blank || nat_lt before p) at (p + suc m) full t ∷ ts)
  merged_mark p m b bytes s u before blank t ts here is h start end =
      ap (λ u. u ∷ ts) (same_token
      (token_text-joined _ (letter b) _ (letters_to p m b bytes here t.end (omega arith)) (letters_join b s u is.mark h) ∙ sym is.text ∙ spelled_own s)
      (sym is.start) refl (no_blank p (p + suc m) before t blank start))

  -- the tokens of cells of characters that begin at an offset, after what ends before
  abbrev AreWide : ℕ → Cell → List ℕ → List Cell → Type 0
  AreWide p prev ms cells = (blank : Bool) (before : ℕ) → before ≤ p
      → span_tokens blank at before full (spans p (column_cells prev (exploded ms cells))) ≡ cell_tokens (blank || nat_lt before p) cells

  module _ (p m b : ℕ) (bytes : List ℕ) (prev x : Cell) (ms : List ℕ) (cells : List Cell) (here : AreFrom p (b ∷ bytes)) (is : IsWide p m (b ∷ bytes) x)
      (fit : WideFit (p + suc m) (drop m bytes) ms cells) (later : AreWide (p + suc m) x ms cells) (blank : Bool) (before : ℕ) (order : before ≤ p) where
    abbrev end : ℕ
    end = p + suc m

    abbrev tail : List columns.Cell
    tail = column_cells x (exploded ms cells)

    abbrev AreTokens : Type 0
    AreTokens = span_tokens blank at before full (spans p (column_cells prev (exploded (m ∷ ms) (x ∷ cells)))) ≡ cell_tokens (blank || nat_lt before p) (x ∷ cells)

    spans_are : (u : Bool) → blank_cell x ≡ false → on x (next cells) ≡ u
        → spans p (column_cells prev (exploded (m ∷ ms) (x ∷ cells))) ≡ with_token p end u (spans end tail)
    spans_are u dark k =
        dark_spans x m p prev (exploded ms cells) dark (on_self p m (b ∷ bytes) x is dark)
        ∙ ap (λ v. with_token p end v (spans end tail)) (ap (on x) (next-exploded end (drop m bytes) ms cells fit) ∙ k)

    alone : blank_cell x ≡ false → on x (next cells) ≡ false → AreTokens
    alone dark h =
        ap (span_tokens blank at before full) (spans_are false dark h)
        ∙ ap (λ ts. span_token blank at before full (record { start = p; end = end }) ∷ ts)
        (later false end (omega arith) ∙ ap (λ t. cell_tokens t cells) (le-ltb end end (omega arith) ∙ sym dark))
        ∙ own_is p m b bytes x before blank (cell_tokens (blank_cell x) cells) here is dark
        ∙ sym (tokens-own (blank || nat_lt before p) x cells h)

    -- where the first of the tokens after it is known to take it up
    more : (y : Cell) (others : List Cell) (k : ℕ) (ks : List ℕ) → blank_cell x ≡ false → on x (next cells) ≡ true → ms ≡ k ∷ ks → cells ≡ y ∷ others → blank_cell y ≡ false
        → ((t : Span) (ts : List Token) → t.start ≡ end → end < t.end
        → span_token blank at before full (record t { start = p }) ∷ ts ≡ merged x (span_token (blank || nat_lt before p) at end full t ∷ ts))
        → AreTokens
    more y others k ks dark h some is_next next_dark takes_up =
        let f = first_span end (column_cell x y) (column_cells y (pieces y k (exploded ks others))) (blank_is x y ∙ next_dark) in
        let found : spans end tail ≡ f.0 ∷ f.1 =
        ap₂ (λ n l. spans end (column_cells x (exploded n l))) some is_next ∙ f.2 in
        ap (span_tokens blank at before full) (spans_are true dark h ∙ ap (from_here p) found)
        ∙ takes_up f.0 (span_tokens false at f.0.end full f.1) f.3 f.4
        ∙ ap (merged x)
        (ap (span_tokens (blank || nat_lt before p) at end full) (sym found)
        ∙ later (blank || nat_lt before p) end (omega arith)
        ∙ ap (λ t. cell_tokens t cells)
        (ap (λ t. (blank || nat_lt before p) || t) (le-ltb end end (omega arith)) ∙ or-false (blank || nat_lt before p)))
        ∙ sym (tokens-merged (blank || nat_lt before p) x cells h)

  wide_blank : (p m : ℕ) (prev : Cell) (ms : List ℕ) (cells : List Cell) → AreWide (p + suc m) Blank ms cells → AreWide p prev (m ∷ ms) (Blank ∷ cells)
  wide_blank p m prev ms cells later = λ blank before order.
      ap (span_tokens blank at before full) (blank_spans m p prev (exploded ms cells))
      ∙ later blank before (omega arith)
      ∙ ap (λ t. cell_tokens t cells) (ap (λ t. blank || t) (lt-ltb before (p + suc m) (omega arith)) ∙ or-true blank)
      ∙ sym (tokens-blank (blank || nat_lt before p) cells)

  wide_mark : (p m b : ℕ) (bytes : List ℕ) (prev : Cell) (s : SourceChar) (ms : List ℕ) (cells : List Cell) → AreFrom p (b ∷ bytes)
      → IsWideMark p m (b ∷ bytes) s → WideFit (p + suc m) (drop m bytes) ms cells → AreWide (p + suc m) (Mark s) ms cells → AreWide p prev (m ∷ ms) (Mark s ∷ cells)
  wide_mark p m b bytes prev s ms [] here is fit later = λ blank before order.
      alone p m b bytes prev (Mark s) ms [] here is fit later blank before order refl refl
  wide_mark p m b bytes prev s ms (Blank ∷ cells) here is fit later = λ blank before order.
      alone p m b bytes prev (Mark s) ms (Blank ∷ cells) here is fit later blank before order refl refl
  wide_mark p m b bytes prev s ms (Word t ∷ cells) here is fit later = λ blank before order.
      alone p m b bytes prev (Mark s) ms (Word t ∷ cells) here is fit later blank before order refl refl
  wide_mark p m b bytes prev s [] (Mark t ∷ cells) here is fit later = absurd fit
  wide_mark p m b bytes prev s (k ∷ ks) (Mark t ∷ cells) here is fit later = λ blank before order.
      ⊎_elim
      (λ hit. more p m b bytes prev (Mark s) (k ∷ ks) (Mark t ∷ cells) here is fit later blank before order (Mark t) cells k ks refl hit refl refl refl
      (λ u ts start end. merged_mark p m b bytes s t before blank u ts here is hit start end))
      (λ miss. alone p m b bytes prev (Mark s) (k ∷ ks) (Mark t ∷ cells) here is fit later blank before order refl miss)
      (cases_Bool (same_family (Mark s) (Mark t)))

  -- a word goes on in a letter
  first_plain : (p : ℕ) (bytes ms : List ℕ) (t : SourceChar) (cells : List Cell) → WideFit p bytes ms (Word t ∷ cells)
      → (k : ℕ) × (ks : List ℕ) × (d : ℕ) × (ds : List ℕ) × (ms ≡ k ∷ ks) × (bytes ≡ d ∷ ds) × (is_joining (letter d) ≡ false)
  first_plain p bytes [] t cells fit = absurd fit
  first_plain p [] (k ∷ ks) t cells fit = absurd (omega (arith, fit.0))
  first_plain p (d ∷ ds) (k ∷ ks) t cells fit = (k, ks, d, ds, refl, refl, fit.1.plain)

  wide_word : (p m b : ℕ) (bytes : List ℕ) (prev : Cell) (s : SourceChar) (ms : List ℕ) (cells : List Cell) → AreFrom p (b ∷ bytes)
      → IsWideWord p m (b ∷ bytes) s → WideFit (p + suc m) (drop m bytes) ms cells → AreWide (p + suc m) (Word s) ms cells → AreWide p prev (m ∷ ms) (Word s ∷ cells)
  wide_word p m b bytes prev s ms [] here is fit later = λ blank before order.
      alone p m b bytes prev (Word s) ms [] here is fit later blank before order refl refl
  wide_word p m b bytes prev s ms (Blank ∷ cells) here is fit later = λ blank before order.
      alone p m b bytes prev (Word s) ms (Blank ∷ cells) here is fit later blank before order refl refl
  wide_word p m b bytes prev s ms (Mark t ∷ cells) here is fit later = λ blank before order.
      alone p m b bytes prev (Word s) ms (Mark t ∷ cells) here is fit later blank before order refl refl
  wide_word p m b bytes prev s ms (Word t ∷ cells) here is fit later = λ blank before order.
      let f = first_plain (p + suc m) (drop m bytes) ms t cells fit in
      more p m b bytes prev (Word s) ms (Word t ∷ cells) here is fit later blank before order (Word t) cells f.0 f.1 refl refl f.4 refl refl
      (λ u ts start end. merged_word p m b bytes s before blank u ts f.2 f.3 here is f.5 f.6 start end)

  pub wide_tokens_are : (p : ℕ) (bytes : List ℕ) (prev : Cell) (ms : List ℕ) (cells : List Cell) → AreFrom p bytes → WideFit p bytes ms cells → AreWide p prev ms cells
  wide_tokens_are p bytes prev [] [] here fit = λ blank before order. refl
  wide_tokens_are p bytes prev [] (x ∷ cells) here fit = absurd fit
  wide_tokens_are p bytes prev (m ∷ ms) [] here fit = absurd fit
  wide_tokens_are p [] prev (m ∷ ms) (x ∷ cells) here fit = absurd (omega (arith, fit.0))
  wide_tokens_are p (b ∷ bytes) prev (m ∷ ms) (Blank ∷ cells) here fit =
      wide_blank p m prev ms cells (wide_tokens_are (p + suc m) (drop m bytes) Blank ms cells (from_after p m (b ∷ bytes) here) fit.2)
  wide_tokens_are p (b ∷ bytes) prev (m ∷ ms) (Mark s ∷ cells) here fit =
      wide_mark p m b bytes prev s ms cells here fit.1 fit.2
      (wide_tokens_are (p + suc m) (drop m bytes) (Mark s) ms cells (from_after p m (b ∷ bytes) here) fit.2)
  wide_tokens_are p (b ∷ bytes) prev (m ∷ ms) (Word s ∷ cells) here fit =
      wide_word p m b bytes prev s ms cells here fit.1 fit.2
      (wide_tokens_are (p + suc m) (drop m bytes) (Word s) ms cells (from_after p m (b ∷ bytes) here) fit.2)

-- ---- a text by the cells of its characters

-- What is known of the bytes of a text, spelled byte for byte, is that of cells that are one character after another; of the source only
-- which of its marks are in no separator has an effect.
pub record IsOfWideCells (at : ℕ) (source spelled ms : List ℕ) (cells : List Cell) (known : Known) : Type 0 where
  pub fit : WideFit at spelled ms cells
  pub letters : known.letters ≡ map letter spelled
  pub word : known.word ≡ words (exploded ms cells)
  pub mark : known.mark ≡ marks (exploded ms cells)
  pub kept : taken.without_separators source (marks (exploded ms cells)) ≡ marks (exploded ms (parted false false cells))

same_cells : {w w' m m' : List Bool} {l l' : List ℕ} → w ≡ w' → m ≡ m' → l ≡ l' → cells_of w m (joined_marks l m) ≡ cells_of w' m' (joined_marks l' m')
same_cells {w = w} {w' = w'} {m = m} {m' = m'} {l = l} {l' = l'} e f g =
    ap (λ x. cells_of x m (joined_marks l m)) e ∙ ap (λ x. cells_of w' x (joined_marks l x)) f ∙ ap (λ x. cells_of w' m' (joined_marks x m')) g

module _ (at : ℕ) (source spelled ms : List ℕ) (cells : List Cell) (known : Known) (is : IsOfWideCells at source spelled ms cells known) where
  abbrev left : Bool → List Cell
  left true = parted false false cells
  left false = cells

  fit_left : (separators : Bool) → WideFit at spelled ms (left separators)
  fit_left true = WideFit-parted false false at spelled ms cells is.fit
  fit_left false = is.fit

  kept_left : (separators : Bool) → kept_marks separators source known ≡ marks (exploded ms (left separators))
  kept_left true = ap (taken.without_separators source) is.mark ∙ is.kept
  kept_left false = is.mark

  words_left : (separators : Bool) → known.word ≡ words (exploded ms (left separators))
  words_left true = is.word ∙ sym (words-parted false false ms cells)
  words_left false = is.word

  cells_left : (separators : Bool) → text_cells separators source known ≡ column_cells Blank (exploded ms (left separators))
  cells_left separators =
      same_cells (words_left separators) (kept_left separators) is.letters
      ∙ cells_are spelled (exploded ms (left separators)) (exploded_fit at spelled ms (left separators) (fit_left separators))

  tokens_left : (separators after_blank : Bool)
      → span_tokens after_blank at at known.letters (text_spans separators at source known) ≡ cell_tokens after_blank (left separators)
  tokens_left separators after_blank =
      let none : at - at ≡ 0 = omega arith in
      ap (λ l. span_tokens after_blank at at l (text_spans separators at source known)) is.letters
      ∙ ap (λ c. span_tokens after_blank at at (map letter spelled) (spans at c)) (cells_left separators)
      ∙ wide_tokens_are at (map letter spelled) at spelled Blank ms (left separators) (omega arith, ap (λ n. drop n (map letter spelled)) none)
      (fit_left separators) after_blank at (omega arith)
      ∙ ap (λ t. cell_tokens t (left separators)) (ap (λ t. after_blank || t) (le-ltb at at (omega arith)) ∙ or-false after_blank)

  streak_tokens : (separators after_blank : Bool)
      → span_tokens after_blank at at known.letters (text_spans separators at source known)
      ≡ tokens_from after_blank (groups both_words (with_joined (if separators then without_separators cells else cells)))
  streak_tokens true after_blank = tokens_left true after_blank ∙ (parted-alike cells).tokens after_blank
  streak_tokens false after_blank = tokens_left false after_blank

  -- the tokens of the spans of a text are those of the cells of its characters
  pub tokens_of_wide_cells : (rules : LineRules) (after_blank : Bool)
      → span_tokens after_blank at at known.letters (text_spans rules.separators at source known)
      ≡ tokens_from after_blank (groups both_words (streaks_joined rules cells))
  tokens_of_wide_cells rules after_blank = streak_tokens rules.separators after_blank
