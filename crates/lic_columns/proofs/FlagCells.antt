-- Cells by flags are the cells of lic_lines, where they are one byte after another.
use Rattle.std.proofs.Common.{◌≡◌, ℕ, zero, suc, ◌+◌, ◌<◌, Bool, true, false, not, ◌&&◌, ◌||◌, ◌==◌, if◌then◌else◌, List, [], ◌∷◌, length, drop, map, get_or, refl, sym, ap, ap₂, ◌∙◌, ⊎_elim, inl, inr, arith, subst, eqb-true, eq-eqb}
use Rattle.std.proofs.lemmas.Bool.{cases_Bool, cases_lt, cases_eq}
use Rattle.std.proofs.lemmas.List.{get_or-map, get_or_past, length-map, ext_get_or}
use Rattle.std.proofs.lemmas.List.FromFn.{get_or-map-range_with_len, length-map-range_with_len}
use Rattle.lic_kind.specs.Kinds.{is_dash, is_quote}
use Rattle.lic_lines.specs.declared.cell.Cell.{Cell}
use Rattle.lic_lines.specs.declared.cell.Cell.TheVariants.{Blank, Mark, Word}
use Rattle.lic_lines.specs.Streaks.{same_mark, same_family}
use Rattle.lic_lines.proofs.Gaps.{is_word, is_mark}
use Rattle.lic_columns.specs.Cells as columns
use Rattle.lic_columns.specs.Cells.{cell_of, cells_of}
use Rattle.lic_letters.specs.Bytes.{letter}
use Rattle.lic_columns.specs.Masks.{flag_at, flag_before}
use Rattle.lic_columns.specs.Marks.{is_same_as_next, same_as_next, middles, is_in_separator, is_joining, is_joined, joined_marks, without_separators}
use Rattle.lic_columns.proofs.FlagLemmas.{length-listed, flag_at-listed}
use Rattle.lic_columns.proofs.MarkLemmas.{joined_at, same_at, middle_at}
use Rattle.lic_columns.proofs.SpanLemmas.{column_cell, column_cells, CellFits, Fit, MarkFits, MarksFit}
use Rattle.lic_columns.proofs.Separators.{same_first, unmarked, is_gone, parted, one_before, two_before, parted-at}

-- ---- lists of flags of cells

abbrev pub words : List Cell → List Bool
words = map is_word

abbrev pub marks : List Cell → List Bool
marks = map is_mark

pub flag_at-cells : (p : Cell → Bool) → p Blank ≡ false → (cells : List Cell) (k : ℕ) → flag_at (map p cells) k ≡ p (get_or cells k Blank)
flag_at-cells p none [] k = sym none
flag_at-cells p none (x ∷ cells) zero = refl
flag_at-cells p none (x ∷ cells) (suc k) = flag_at-cells p none cells k

word_at : (cells : List Cell) (k : ℕ) → flag_at (words cells) k ≡ is_word (get_or cells k Blank)
word_at = flag_at-cells is_word refl

pub mark_at : (cells : List Cell) (k : ℕ) → flag_at (marks cells) k ≡ is_mark (get_or cells k Blank)
mark_at = flag_at-cells is_mark refl

length-Fit : (at : ℕ) (bytes : List ℕ) (cells : List Cell) → Fit at bytes cells → length bytes ≡ length cells
length-Fit at [] [] fit = refl
length-Fit at [] (x ∷ cells) fit = absurd fit
length-Fit at (b ∷ bytes) [] fit = absurd fit
length-Fit at (b ∷ bytes) (x ∷ cells) fit = ap suc (length-Fit (suc at) bytes cells fit.1)

Fit-at : (at : ℕ) (bytes : List ℕ) (cells : List Cell) → Fit at bytes cells → (k : ℕ) → k < length cells
    → CellFits (at + k) (get_or bytes k 0) (get_or cells k Blank)
Fit-at at [] [] fit k lt = absurd (omega arith)
Fit-at at [] (x ∷ cells) fit k lt = absurd fit
Fit-at at (b ∷ bytes) [] fit k lt = absurd fit
Fit-at at (b ∷ bytes) (x ∷ cells) fit zero lt = let e : at ≡ at + zero = omega arith in subst (λ n. CellFits n b x) e fit.0
Fit-at at (b ∷ bytes) (x ∷ cells) fit (suc k) lt =
    let e : suc at + k ≡ at + suc k = omega arith in
    subst (λ n. CellFits n (get_or bytes k 0) (get_or cells k Blank)) e (Fit-at (suc at) bytes cells fit.1 k (omega arith))

-- ---- cells without separators

unmarked-fits : (at b : ℕ) (gone : Bool) (x : Cell) → CellFits at b x → CellFits at b (unmarked gone x)
unmarked-fits at b gone Blank fits = fits
unmarked-fits at b gone (Word s) fits = fits
unmarked-fits at b true (Mark s) fits = tt
unmarked-fits at b false (Mark s) fits = fits

pub Fit-parted : (two one : Bool) (at : ℕ) (bytes : List ℕ) (cells : List Cell) → Fit at bytes cells → Fit at bytes (parted two one cells)
Fit-parted two one at [] [] fit = fit
Fit-parted two one at [] (x ∷ cells) fit = absurd fit
Fit-parted two one at (b ∷ bytes) [] fit = absurd fit
Fit-parted two one at (b ∷ bytes) (x ∷ cells) fit = (
  unmarked-fits at b (is_gone two one (same_first (x ∷ cells)) (same_first cells)) x fit.0,
  Fit-parted one (same_first (x ∷ cells)) (suc at) bytes cells fit.1,
)

unmarked-word : (gone : Bool) (x : Cell) → is_word (unmarked gone x) ≡ is_word x
unmarked-word gone Blank = refl
unmarked-word gone (Word s) = refl
unmarked-word true (Mark s) = refl
unmarked-word false (Mark s) = refl

unmarked-mark : (gone : Bool) (x : Cell) → is_mark (unmarked gone x) ≡ (is_mark x && not gone)
unmarked-mark gone Blank = refl
unmarked-mark gone (Word s) = refl
unmarked-mark true (Mark s) = refl
unmarked-mark false (Mark s) = refl

pub words-parted : (two one : Bool) (cells : List Cell) → words (parted two one cells) ≡ words cells
words-parted two one [] = refl
words-parted two one (x ∷ cells) =
    ap₂ (λ w l. w ∷ l) (unmarked-word (is_gone two one (same_first (x ∷ cells)) (same_first cells)) x)
    (words-parted one (same_first (x ∷ cells)) cells)

length-parted : (two one : Bool) (cells : List Cell) → length (parted two one cells) ≡ length cells
length-parted two one [] = refl
length-parted two one (x ∷ cells) = ap suc (length-parted one (same_first (x ∷ cells)) cells)

same_cells : (x y : Cell) (a c b d : ℕ) → CellFits a b x → CellFits c d y → ((is_mark x && is_mark y) && (b == d)) ≡ same_mark x y
same_cells (Mark s) (Mark t) a c b d f g = ap₂ (λ m n. m == n) (sym f.char) (sym g.char)
same_cells (Mark s) Blank a c b d f g = refl
same_cells (Mark s) (Word t) a c b d f g = refl
same_cells Blank y a c b d f g = refl
same_cells (Word s) y a c b d f g = refl

module _ (at : ℕ) (bytes : List ℕ) (cells : List Cell) (fit : Fit at bytes cells) where
  pub same_here : (k : ℕ) → is_same_as_next bytes (marks cells) k ≡ same_mark (get_or cells k Blank) (get_or cells (suc k) Blank)
  same_here k =
      ap₂ (λ t u. (t && u) && (get_or bytes k 0 == get_or bytes (suc k) 0)) (mark_at cells k) (mark_at cells (suc k))
      ∙ elim (cases_lt (suc k) (length cells)) [
        | inl inside ↦
            same_cells (get_or cells k Blank) (get_or cells (suc k) Blank) (at + k) (at + suc k) (get_or bytes k 0) (get_or bytes (suc k) 0)
            (Fit-at at bytes cells fit k (omega arith)) (Fit-at at bytes cells fit (suc k) inside)
        | inr past ↦
            let none : get_or cells (suc k) Blank ≡ Blank = get_or_past cells (suc k) Blank past in
            ap (λ y. (is_mark (get_or cells k Blank) && is_mark y) && (get_or bytes k 0 == get_or bytes (suc k) 0)) none
            ∙ no_next (get_or cells k Blank) (get_or bytes k 0 == get_or bytes (suc k) 0)
            ∙ sym (ap (same_mark (get_or cells k Blank)) none)
      ]
    where
      no_next : (x : Cell) (t : Bool) → ((is_mark x && false) && t) ≡ same_mark x Blank
      no_next Blank t = refl
      no_next (Mark s) t = refl
      no_next (Word s) t = refl

same_first-at : (cells : List Cell) (k : ℕ) → same_first (drop k cells) ≡ same_mark (get_or cells k Blank) (get_or cells (suc k) Blank)
same_first-at [] zero = refl
same_first-at [] (suc k) = refl
same_first-at (x ∷ []) zero = refl
same_first-at (x ∷ y ∷ cells) zero = refl
same_first-at (x ∷ cells) (suc k) = same_first-at cells k

-- bytes side by side are one same byte exactly if their cells are one same mark, where both are marks
abbrev pub AreSame : List ℕ → List Cell → Type 0
AreSame bytes cells = (k : ℕ) → is_same_as_next bytes (marks cells) k ≡ same_mark (get_or cells k Blank) (get_or cells (suc k) Blank)

module _ (bytes : List ℕ) (cells : List Cell) (same : AreSame bytes cells) where
  same_flag : (k : ℕ) → flag_at (same_as_next bytes (marks cells)) k ≡ same_first (drop k cells)
  same_flag k = same_at bytes (marks cells) k ∙ same k ∙ sym (same_first-at cells k)

  before_flag : (k : ℕ) → flag_before (same_as_next bytes (marks cells)) k ≡ one_before false cells k
  before_flag zero = refl
  before_flag (suc k) = same_flag k

  middle_flag : (k : ℕ) → flag_at (middles (same_as_next bytes (marks cells))) k ≡ (one_before false cells k && same_first (drop k cells))
  middle_flag k = middle_at (same_as_next bytes (marks cells)) k ∙ ap₂ (λ t u. t && u) (before_flag k) (same_flag k)

  before_middle : (k : ℕ) → flag_before (middles (same_as_next bytes (marks cells))) k ≡ (two_before false false cells k && one_before false cells k)
  before_middle zero = refl
  before_middle (suc zero) = middle_flag zero
  before_middle (suc (suc k)) = middle_flag (suc k)

  gone_flag : (k : ℕ) → is_in_separator (middles (same_as_next bytes (marks cells))) k
      ≡ is_gone (two_before false false cells k) (one_before false cells k) (same_first (drop k cells)) (same_first (drop (suc k) cells))
  gone_flag k =
      ap (λ t. t || (flag_before (middles (same_as_next bytes (marks cells))) k || flag_at (middles (same_as_next bytes (marks cells))) (suc k))) (middle_flag k)
      ∙ ap₂ (λ t u. (one_before false cells k && same_first (drop k cells)) || (t || u)) (before_middle k) (middle_flag (suc k))

  -- the marks that are kept
  pub kept_are : without_separators bytes (marks cells) ≡ marks (parted false false cells)
  kept_are =
      let listed : ℕ → Bool = λ k. flag_at (marks cells) k && not (is_in_separator (middles (same_as_next bytes (marks cells))) k) in
      let long : length (marks cells) ≡ length cells = length-map cells is_mark in
      ext_get_or false (without_separators bytes (marks cells)) (marks (parted false false cells))
      (length-listed listed (length (marks cells)) ∙ long ∙ sym (length-map (parted false false cells) is_mark ∙ length-parted false false cells))
      (λ k within.
      let inside : k < length (marks cells) = omega (arith, length-listed listed (length (marks cells))) in
      flag_at-listed listed (length (marks cells)) k inside
      ∙ ap₂ (λ t u. t && not u) (mark_at cells k) (gone_flag k)
      ∙ sym (mark_at (parted false false cells) k ∙ ap is_mark (parted-at false false cells k)
      ∙ unmarked-mark (is_gone (two_before false false cells k) (one_before false cells k) (same_first (drop k cells)) (same_first (drop (suc k) cells)))
      (get_or cells k Blank)))

-- ---- cells by flags

column_cells-first : (before : Cell) (cells : List Cell) → get_or (column_cells before cells) 0 columns.Blank ≡ column_cell before (get_or cells 0 Blank)
column_cells-first before [] = refl
column_cells-first before (x ∷ cells) = refl

column_cells-at : (before : Cell) (cells : List Cell) (k : ℕ)
    → get_or (column_cells before cells) (suc k) columns.Blank ≡ column_cell (get_or cells k Blank) (get_or cells (suc k) Blank)
column_cells-at before [] k = refl
column_cells-at before (x ∷ cells) zero = column_cells-first x cells
column_cells-at before (x ∷ cells) (suc k) = column_cells-at x cells k

length-column_cells : (before : Cell) (cells : List Cell) → length (column_cells before cells) ≡ length cells
length-column_cells before [] = refl
length-column_cells before (x ∷ cells) = ap suc (length-column_cells x cells)

-- a letter of a family beside one of the same family
families : (a b : ℕ) → (((a == 0x27) && (b == 0x27)) || ((a == 0x2D) && (b == 0x2D))) ≡ ((a == b) && is_joining b)
families a b = elim (cases_eq a b) [
  | inl same ↦
      ap (λ n. ((n == 0x27) && (b == 0x27)) || ((n == 0x2D) && (b == 0x2D))) same ∙ twice (b == 0x27) (b == 0x2D)
      ∙ ap (λ t. t && is_joining b) (sym (eq-eqb a b same))
  | inr other ↦
      apart (a == 0x27) (b == 0x27) (a == 0x2D) (b == 0x2D)
      (λ e f. other (eqb-true a 0x27 e ∙ sym (eqb-true b 0x27 f)))
      (λ e f. other (eqb-true a 0x2D e ∙ sym (eqb-true b 0x2D f)))
      ∙ ap (λ t. t && is_joining b) (sym (differ a b other))
]
  where
    twice : (t u : Bool) → ((t && t) || (u && u)) ≡ (true && (t || u))
    twice true u = refl
    twice false true = refl
    twice false false = refl

    apart : (t u v w : Bool) → (t ≡ true → u ≡ true → ⊥) → (v ≡ true → w ≡ true → ⊥) → ((t && u) || (v && w)) ≡ false
    apart true true v w h k = absurd (h refl refl)
    apart true false true true h k = absurd (k refl refl)
    apart true false true false h k = refl
    apart true false false w h k = refl
    apart false u true true h k = absurd (k refl refl)
    apart false u true false h k = refl
    apart false u false w h k = refl

    differ : (m n : ℕ) → (m ≡ n → ⊥) → (m == n) ≡ false
    differ m n h = ⊎_elim (λ hit. absurd (h (eqb-true m n hit))) (λ miss. miss) (cases_Bool (m == n))

-- whether a mark is joined to the cell before it
joined_cell : (x y : Cell) (b d : ℕ) → MarkFits b x → MarkFits d y → is_mark y ≡ true
    → ((is_mark y && ((is_mark x && is_mark y) && (letter b == letter d))) && is_joining (letter d)) ≡ same_family x y
joined_cell x Blank b d f g h = absurd cc
joined_cell x (Word t) b d f g h = absurd cc
joined_cell Blank (Mark t) b d f g h = refl
joined_cell (Word s) (Mark t) b d f g h = refl
joined_cell (Mark s) (Mark t) b d f g h =
    sym (families (letter b) (letter d))
    ∙ ap₂ (λ p q. (p && (letter d == 0x27)) || (q && (letter d == 0x2D))) (sym f.quote) (sym f.dash)
    ∙ ap₂ (λ p q. (is_quote s.char && p) || (is_dash s.char && q)) (sym g.quote) (sym g.dash)

cell_by_flags : (x before : Cell) (joined : Bool) → (is_mark x ≡ true → joined ≡ same_family before x)
    → cell_of (is_word x) (is_mark x) joined ≡ column_cell before x
cell_by_flags Blank before joined h = refl
cell_by_flags (Word s) before joined h = refl
cell_by_flags (Mark s) before joined h = go joined ∙ ap (λ t. if t then columns.Joined else columns.Mark) (h refl)
  where
    go : (t : Bool) → cell_of false true t ≡ (if t then columns.Joined else columns.Mark)
    go true = refl
    go false = refl

apart_cell : (x : Cell) → (is_word x && is_mark x) ≡ false
apart_cell Blank = refl
apart_cell (Word s) = refl
apart_cell (Mark s) = refl

-- no mark is joined to a blank
no_family : (x : Cell) → same_family Blank x ≡ false
no_family x = refl

length-MarksFit : (bytes : List ℕ) (cells : List Cell) → MarksFit bytes cells → length bytes ≡ length cells
length-MarksFit [] [] fit = refl
length-MarksFit [] (x ∷ cells) fit = absurd fit
length-MarksFit (b ∷ bytes) [] fit = absurd fit
length-MarksFit (b ∷ bytes) (x ∷ cells) fit = ap suc (length-MarksFit bytes cells fit.1)

MarksFit-at : (bytes : List ℕ) (cells : List Cell) → MarksFit bytes cells → (k : ℕ) → k < length cells → MarkFits (get_or bytes k 0) (get_or cells k Blank)
MarksFit-at [] [] fit k lt = absurd (omega arith)
MarksFit-at [] (x ∷ cells) fit k lt = absurd fit
MarksFit-at (b ∷ bytes) [] fit k lt = absurd fit
MarksFit-at (b ∷ bytes) (x ∷ cells) fit zero lt = fit.0
MarksFit-at (b ∷ bytes) (x ∷ cells) fit (suc k) lt = MarksFit-at bytes cells fit.1 k (omega arith)

module _ (bytes : List ℕ) (cells : List Cell) (fit : MarksFit bytes cells) where
  abbrev letters : List ℕ
  letters = map letter bytes

  long : length (marks cells) ≡ length (words cells)
  long = length-map cells is_mark ∙ sym (length-map cells is_word)

  apart : (k : ℕ) → (flag_at (words cells) k && flag_at (marks cells) k) ≡ false
  apart k = ap₂ (λ t u. t && u) (word_at cells k) (mark_at cells k) ∙ apart_cell (get_or cells k Blank)

  joined_here : (k : ℕ) → flag_at (joined_marks letters (marks cells)) k ≡ is_joined letters (same_as_next letters (marks cells)) (marks cells) k
  joined_here = joined_at letters (marks cells)

  same_letters : (k : ℕ) → flag_at (same_as_next letters (marks cells)) k ≡ is_same_as_next letters (marks cells) k
  same_letters = same_at letters (marks cells)

  letter_at : (k : ℕ) → k < length cells → get_or letters k 0 ≡ letter (get_or bytes k 0)
  letter_at k lt = get_or-map letter bytes k 0 0 (omega (arith, length-MarksFit bytes cells fit))

  inside_mark : (k : ℕ) → is_mark (get_or cells k Blank) ≡ true → k < length cells
  inside_mark k h = elim (cases_lt k (length cells)) [
    | inl inside ↦ inside
    | inr past ↦ absurd (let e : false ≡ true = sym (ap is_mark (get_or_past cells k Blank past)) ∙ h in cc)
  ]

  joined_next : (k : ℕ) → is_mark (get_or cells (suc k) Blank) ≡ true
      → flag_at (joined_marks letters (marks cells)) (suc k) ≡ same_family (get_or cells k Blank) (get_or cells (suc k) Blank)
  joined_next k h =
      let inside : suc k < length cells = inside_mark (suc k) h in
      let before : k < length cells = omega arith in
      let x = get_or cells k Blank in
      let y = get_or cells (suc k) Blank in
      joined_here (suc k)
      ∙ ap₂ (λ t u. (t && u) && is_joining (get_or letters (suc k) 0)) (mark_at cells (suc k))
      (same_letters k ∙ ap₂ (λ t u. (t && u) && (get_or letters k 0 == get_or letters (suc k) 0)) (mark_at cells k) (mark_at cells (suc k)))
      ∙ ap₂ (λ a b. (is_mark y && ((is_mark x && is_mark y) && (a == b))) && is_joining b) (letter_at k before) (letter_at (suc k) inside)
      ∙ joined_cell x y (get_or bytes k 0) (get_or bytes (suc k) 0)
      (MarksFit-at bytes cells fit k before) (MarksFit-at bytes cells fit (suc k) inside) h

  joined_first : flag_at (joined_marks letters (marks cells)) 0 ≡ false
  joined_first = joined_here 0 ∙ none (flag_at (marks cells) 0) (is_joining (get_or letters 0 0))
    where
      none : (t u : Bool) → ((t && false) && u) ≡ false
      none true u = refl
      none false u = refl

  abbrev flag_cell : ℕ → columns.Cell
  flag_cell k = cell_of (flag_at (words cells) k) (flag_at (marks cells) k) (flag_at (joined_marks letters (marks cells)) k)

  flag_cell-is : (k : ℕ) → flag_cell k ≡ get_or (column_cells Blank cells) k columns.Blank
  flag_cell-is zero =
      ap₂ (λ w m. cell_of w m (flag_at (joined_marks letters (marks cells)) 0)) (word_at cells 0) (mark_at cells 0)
      ∙ cell_by_flags (get_or cells 0 Blank) Blank (flag_at (joined_marks letters (marks cells)) 0)
      (λ h. joined_first ∙ sym (no_family (get_or cells 0 Blank)))
      ∙ sym (column_cells-first Blank cells)
  flag_cell-is (suc k) =
      ap₂ (λ w m. cell_of w m (flag_at (joined_marks letters (marks cells)) (suc k))) (word_at cells (suc k)) (mark_at cells (suc k))
      ∙ cell_by_flags (get_or cells (suc k) Blank) (get_or cells k Blank) (flag_at (joined_marks letters (marks cells)) (suc k)) (joined_next k)
      ∙ sym (column_cells-at Blank cells k)

  pub cells_are : cells_of (words cells) (marks cells) (joined_marks letters (marks cells)) ≡ column_cells Blank cells
  cells_are =
      let size : length (words cells) ≡ length cells = length-map cells is_word in
      ext_get_or columns.Blank (cells_of (words cells) (marks cells) (joined_marks letters (marks cells))) (column_cells Blank cells)
      (length-map-range_with_len flag_cell 0 (length (words cells)) ∙ size ∙ sym (length-column_cells Blank cells))
      (λ k within.
      let inside : k < length (words cells) = omega (arith, length-map-range_with_len flag_cell 0 (length (words cells))) in
      get_or-map-range_with_len flag_cell 0 (length (words cells)) k k columns.Blank inside (omega arith) ∙ flag_cell-is k)
