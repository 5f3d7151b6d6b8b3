-- The tokens of spans of a text of ASCII are its first tokens.
use Rattle.std.proofs.Common.{◌≡◌, ℕ, suc, ◌+◌, ◌-◌, ◌<◌, Bool, true, false, not, ◌&&◌, ◌||◌, ◌==◌, if◌then◌else◌, List, [], ◌∷◌, ◌++◌, drop, map, refl, sym, ap, ap₂, ◌∙◌, arith, subst}
use Rattle.std.specs.Prelude.{IsAscii, encode_utf8_all}
use Rattle.std.specs.Char.{len_utf8, to_ascii_lowercase}
use Rattle.std.proofs.lemmas.Bool.{agree_below_at, lt-ltb, le-ltb}
use Rattle.std.proofs.lemmas.Str.{len_utf8_ascii, encode_ascii}
use Rattle.std.proofs.lemmas.Str.Ascii.{lowercase_ascii}
use Rattle.lic_kind.specs.declared.Kind.{Kind}
use Rattle.lic_kind.specs.declared.Kind.TheVariants as kind
use Rattle.lic_kind.specs.Kinds.{kind_of, is_word_kind, is_mark_kind, is_dash, is_quote, letter_of, spell}
use Rattle.lic_kind.proofs.LetterLemmas.{spell-Mark}
use Rattle.lic_kind.proofs.WordFoldings.{spell-ascii}
use Rattle.lic_trim.specs.Texts.{groups}
use Rattle.lic_trim.specs.declared.source.SourceChar.{SourceChar}
use Rattle.lic_trim.specs.Sources.{placed}
use Rattle.lic_kind.specs.LineRules.{LineRules}
use Rattle.lic_lines.specs.declared.cell.Cell.{Cell}
use Rattle.lic_lines.specs.declared.cell.Cell.TheVariants.{Blank, Mark, Word}
use Rattle.lic_lines.specs.Cells.{cell_of}
use Rattle.lic_lines.specs.Streaks.{streaks_joined, with_joined, without_separators}
use Rattle.lic_lines.specs.Tokens.{both_words, tokens_from, tokens_after}
use Rattle.lic_lines.proofs.Gaps.{is_word, is_mark}
use Rattle.lic_letters.specs.Bytes as bytes
use Rattle.lic_letters.specs.Bytes.{letter}
use Rattle.lic_columns.specs.Cells.{cells_of, spans}
use Rattle.lic_columns.specs.Known.{Known, known_of}
use Rattle.lic_columns.specs.Marks as taken
use Rattle.lic_columns.specs.Marks.{is_joining, joined_marks}
use Rattle.lic_columns.specs.SpanTokens.{span_tokens}
use Rattle.lic_columns.specs.Tokens.{kept_marks, text_cells, text_spans}
use Rattle.lic_letters.proofs.InPlace.{letter_is}
use Rattle.lic_letters.proofs.Lanes.{every_below}
use Rattle.lic_columns.proofs.FirstTokens.{cell_tokens}
use Rattle.lic_columns.proofs.SpanLemmas.{column_cells, IsByte, CellFits, Fit, marks_fit, tokens_are}
use Rattle.lic_columns.proofs.Separators.{parted, parted-alike}
use Rattle.lic_columns.proofs.FlagCells.{words, marks, Fit-parted, words-parted, same_here, kept_are, cells_are}

-- ---- a text by the cells that are in it

same_cells : {w w' m m' : List Bool} {l l' : List ℕ} → w ≡ w' → m ≡ m' → l ≡ l' → cells_of w m (joined_marks l m) ≡ cells_of w' m' (joined_marks l' m')
same_cells {w = w} {w' = w'} {m = m} {m' = m'} {l = l} {l' = l'} e f g =
    ap (λ x. cells_of x m (joined_marks l m)) e ∙ ap (λ x. cells_of w' x (joined_marks l x)) f ∙ ap (λ x. cells_of w' m' (joined_marks x m')) g

-- the flags of a text are those of cells that are one byte after another
pub record IsOfCells (at : ℕ) (text : List ℕ) (cells : List Cell) (known : Known) : Type 0 where
  pub fit : Fit at text cells
  pub letters : known.letters ≡ map letter text
  pub word : known.word ≡ words cells
  pub mark : known.mark ≡ marks cells

module _ (at : ℕ) (text : List ℕ) (cells : List Cell) (known : Known) (is : IsOfCells at text cells known) where
  abbrev left : Bool → List Cell
  left true = parted false false cells
  left false = cells

  fit_left : (separators : Bool) → Fit at text (left separators)
  fit_left true = Fit-parted false false at text cells is.fit
  fit_left false = is.fit

  kept_left : (separators : Bool) → kept_marks separators text known ≡ marks (left separators)
  kept_left true = ap (taken.without_separators text) is.mark ∙ kept_are text cells (same_here at text cells is.fit)
  kept_left false = is.mark

  words_left : (separators : Bool) → known.word ≡ words (left separators)
  words_left true = is.word ∙ sym (words-parted false false cells)
  words_left false = is.word

  cells_left : (separators : Bool) → text_cells separators text known ≡ column_cells Blank (left separators)
  cells_left separators =
      same_cells (words_left separators) (kept_left separators) is.letters
      ∙ cells_are text (left separators) (marks_fit at text (left separators) (fit_left separators))

  tokens_left : (separators after_blank : Bool)
      → span_tokens after_blank at at known.letters (text_spans separators at text known) ≡ cell_tokens after_blank (left separators)
  tokens_left separators after_blank =
      let none : at - at ≡ 0 = omega arith in
      ap (λ l. span_tokens after_blank at at l (text_spans separators at text known)) is.letters
      ∙ ap (λ c. span_tokens after_blank at at (map letter text) (spans at c)) (cells_left separators)
      ∙ tokens_are at (map letter text) at text Blank (left separators) (omega arith)
      (ap (λ n. drop n (map letter text)) none) (fit_left separators) after_blank at (omega arith)
      ∙ ap (λ t. cell_tokens t (left separators)) (ap (λ t. after_blank || t) (le-ltb at at (omega arith)) ∙ or-false after_blank)
    where
      or-false : (t : Bool) → (t || false) ≡ t
      or-false true = refl
      or-false false = refl

  streak_tokens : (separators after_blank : Bool)
      → span_tokens after_blank at at known.letters (text_spans separators at text known)
      ≡ tokens_from after_blank (groups both_words (with_joined (if separators then without_separators cells else cells)))
  streak_tokens true after_blank = tokens_left true after_blank ∙ (parted-alike cells).tokens after_blank
  streak_tokens false after_blank = tokens_left false after_blank

  pub tokens_of_cells : (rules : LineRules) (after_blank : Bool)
      → span_tokens after_blank at at known.letters (text_spans rules.separators at text known)
      ≡ tokens_from after_blank (groups both_words (streaks_joined rules cells))
  tokens_of_cells rules after_blank = streak_tokens rules.separators after_blank

-- ---- bytes of ASCII

-- the character of a byte at an offset
abbrev pub byte_char : ℕ → ℕ → SourceChar
byte_char at b = record { char = b; start = at; end = at + len_utf8 b }

byte_is : (at b l : ℕ) → b < 128 → l < 128 → spell b ≡ l ∷ [] → (is_word_kind (kind_of b) || is_mark_kind (kind_of b)) ≡ true
    → IsByte at b (byte_char at b)
byte_is at b l small low e has = record {
  start = refl;
  end = omega (arith, len_utf8_ascii b small);
  text = ap encode_utf8_all e ∙ ap (λ x. x ++ []) (encode_ascii l low) ∙ ap (λ x. x ∷ []) (sym (letter_is b l small e has));
}

plain_word : (b : ℕ) → b < 128 → (not (is_word_kind (kind_of b)) || not (is_joining (to_ascii_lowercase b))) ≡ true
unfolding kind_of
plain_word b small = every_below (λ d. not (is_word_kind (kind_of d)) || not (is_joining (to_ascii_lowercase d))) 128 refl b small

quote_letter : (b : ℕ) → b < 128 → is_quote b ≡ (letter_of b == 0x27)
unfolding is_dash is_quote
quote_letter b small = agree_below_at is_quote (λ d. letter_of d == 0x27) 128 b refl small

dash_letter : (b : ℕ) → b < 128 → is_dash b ≡ (letter_of b == 0x2D)
unfolding is_dash is_quote
dash_letter b small = agree_below_at is_dash (λ d. letter_of d == 0x2D) 128 b refl small

pub letter_below : (b : ℕ) → b < 128 → letter_of b < 128
letter_below b small = go (is_dash b) (is_quote b)
  where
    go : (t u : Bool) → (if t then 0x2D else (if u then 0x27 else b)) < 128
    go true u = omega arith
    go false true = omega arith
    go false false = small

off : (t : Bool) → not t ≡ true → t ≡ false
off false h = refl
off true h = absurd cc

pub byte_fits : (at b : ℕ) → b < 128 → CellFits at b (cell_of (byte_char at b))
byte_fits at b small = go (kind_of b) refl
  where
    go : (k : Kind) → kind_of b ≡ k
        → CellFits at b (if is_word_kind k then Word (byte_char at b) else (if is_mark_kind k then Mark (byte_char at b) else Blank))
    go kind.Blank e = tt
    go kind.Dropped e = tt
    go kind.Mark e =
        let has : (is_word_kind (kind_of b) || is_mark_kind (kind_of b)) ≡ true = ap (λ k. is_word_kind k || is_mark_kind k) e in
        let same : letter_of b ≡ letter b = sym (letter_is b (letter_of b) small (spell-Mark b e) has) in
        record {
          byte = byte_is at b (letter_of b) small (letter_below b small) (spell-Mark b e) has;
          char = refl;
          quote = quote_letter b small ∙ ap (λ l. l == 0x27) same;
          dash = dash_letter b small ∙ ap (λ l. l == 0x2D) same;
        }
    go kind.Word e =
        let has : (is_word_kind (kind_of b) || is_mark_kind (kind_of b)) ≡ true = ap (λ k. is_word_kind k || is_mark_kind k) e in
        let low : to_ascii_lowercase b < 128 = lowercase_ascii b small in
        let same : to_ascii_lowercase b ≡ letter b = sym (letter_is b (to_ascii_lowercase b) small (spell-ascii b e small) has) in
        let plain : not (is_joining (to_ascii_lowercase b)) ≡ true =
        sym (ap (λ k. not (is_word_kind k) || not (is_joining (to_ascii_lowercase b))) e) ∙ plain_word b small in
        record {
          byte = byte_is at b (to_ascii_lowercase b) small low (spell-ascii b e small) has;
          plain = ap is_joining (sym same) ∙ off (is_joining (to_ascii_lowercase b)) plain;
        }

pub word_flag : (b : ℕ) (s : SourceChar) → s.char ≡ b → b < 128 → bytes.is_word b ≡ is_word (cell_of s)
word_flag b s e small =
    ap (λ t. not t || is_word_kind (kind_of b)) (lt-ltb b 128 small) ∙ go (kind_of b) ∙ ap (λ c. is_word (if is_word_kind (kind_of c) then Word s else (if is_mark_kind (kind_of c) then Mark s else Blank))) (sym e)
  where
    go : (k : Kind) → is_word_kind k ≡ is_word (if is_word_kind k then Word s else (if is_mark_kind k then Mark s else Blank))
    go kind.Blank = refl
    go kind.Dropped = refl
    go kind.Mark = refl
    go kind.Word = refl

pub mark_flag : (b : ℕ) (s : SourceChar) → s.char ≡ b → b < 128 → bytes.is_mark b ≡ is_mark (cell_of s)
mark_flag b s e small =
    ap (λ t. t && is_mark_kind (kind_of b)) (lt-ltb b 128 small) ∙ go (kind_of b) ∙ ap (λ c. is_mark (if is_word_kind (kind_of c) then Word s else (if is_mark_kind (kind_of c) then Mark s else Blank))) (sym e)
  where
    go : (k : Kind) → is_mark_kind k ≡ is_mark (if is_word_kind k then Word s else (if is_mark_kind k then Mark s else Blank))
    go kind.Blank = refl
    go kind.Dropped = refl
    go kind.Mark = refl
    go kind.Word = refl

-- ---- texts of ASCII

following : (b : ℕ) (text : List ℕ) → IsAscii (b ∷ text) → IsAscii text
following b text ascii = λ i. ascii (suc i)

pub ascii_fits : (at : ℕ) (text : List ℕ) → IsAscii text → Fit at text (map cell_of (placed at text))
ascii_fits at [] ascii = tt
ascii_fits at (b ∷ text) ascii =
    let one : suc at ≡ at + len_utf8 b = omega (arith, len_utf8_ascii b (ascii 0)) in (
      byte_fits at b (ascii 0),
      subst (λ n. Fit (suc at) text (map cell_of (placed n text))) one (ascii_fits (suc at) text (following b text ascii)),
    )

pub ascii_words : (at : ℕ) (text : List ℕ) → IsAscii text → map bytes.is_word text ≡ words (map cell_of (placed at text))
ascii_words at [] ascii = refl
ascii_words at (b ∷ text) ascii =
    ap₂ (λ w l. w ∷ l) (word_flag b (byte_char at b) refl (ascii 0))
    (ascii_words (at + len_utf8 b) text (following b text ascii))

pub ascii_marks : (at : ℕ) (text : List ℕ) → IsAscii text → map bytes.is_mark text ≡ marks (map cell_of (placed at text))
ascii_marks at [] ascii = refl
ascii_marks at (b ∷ text) ascii =
    ap₂ (λ m l. m ∷ l) (mark_flag b (byte_char at b) refl (ascii 0))
    (ascii_marks (at + len_utf8 b) text (following b text ascii))

pub ascii_is : (at : ℕ) (text : List ℕ) → IsAscii text → IsOfCells at text (map cell_of (placed at text)) (known_of text)
ascii_is at text ascii = record {
  fit = ascii_fits at text ascii;
  letters = refl;
  word = ascii_words at text ascii;
  mark = ascii_marks at text ascii;
}

pub ascii_tokens_are : (rules : LineRules) (after_blank : Bool) (at : ℕ) (text : List ℕ) → IsAscii text
    → span_tokens after_blank at at (known_of text).letters (text_spans rules.separators at text (known_of text)) ≡ tokens_after rules after_blank (placed at text)
ascii_tokens_are rules after_blank at text ascii =
    tokens_of_cells at text (map cell_of (placed at text)) (known_of text) (ascii_is at text ascii) rules after_blank
