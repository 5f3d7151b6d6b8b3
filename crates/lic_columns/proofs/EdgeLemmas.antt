-- What the line rules take away, cell by cell.
use Rattle.std.proofs.Common.{◌≡◌, ℕ, zero, suc, ◌+◌, ◌-◌, ◌≤◌, Bool, true, false, not, ◌&&◌, List, [], ◌∷◌, ◌++◌, length, take, drop, map, get_or, replicate, refl, sym, ap, ap₂, ◌∙◌, inl, inr, arith, subst, append_assoc, length-append}
use Rattle.std.specs.Prelude.{IsAscii}
use Rattle.std.specs.List.{flat_map}
use Rattle.std.proofs.lemmas.Bool.{cases_lt}
use Rattle.std.proofs.lemmas.List.{append-nil, map-append, length-map, length-take-le, length-drop, length-replicate, get_or-replicate, get_or_append_left, get_or-append_right, ext_get_or, take-append-drop}
use Rattle.lic_trim.specs.declared.source.SourceChar.{SourceChar}
use Rattle.lic_trim.specs.Sources.{placed, chars_of}
use Rattle.lic_kind.specs.LineRules.{LineRules}
use Rattle.lic_lines.specs.declared.cell.Cell.{Cell}
use Rattle.lic_lines.specs.declared.cell.Cell.TheVariants.{Blank}
use Rattle.lic_trim.specs.declared.cut.LineCut.{LineCut}
use Rattle.lic_trim.specs.Lines.{whole_line, cut_of}
use Rattle.lic_lines.specs.Cells.{cell_of, blank_for, left_of, cells_of_cut, line_cells}
use Rattle.lic_lines.specs.Streaks.{streaks_joined}
use Rattle.lic_lines.specs.Tokens.{Token, first_tokens}
use Rattle.lic_trim.proofs.AsciiLemmas.{chars_of-placed, length-placed}
use Rattle.lic_lines.proofs.Gaps.{is_word, is_mark, no_streaks, streaks_joined-gap, first_tokens-gap}
use Rattle.lic_columns.specs.Flags.{cleared, is_within}
use Rattle.lic_columns.specs.Known.{Known, blanked, known_of}
use Rattle.lic_columns.specs.Edges.{edges_blanked}
use Rattle.lic_columns.specs.SpanTokens.{span_tokens}
use Rattle.lic_columns.specs.Tokens.{text_spans}
use Rattle.lic_columns.proofs.BitLemmas.{within_is, within_before, within_after}
use Rattle.lic_columns.proofs.FlagLemmas.{length-cleared, flag_at-cleared}
use Rattle.lic_columns.proofs.SpanLemmas.{Fit}
use Rattle.lic_columns.proofs.FlagCells.{flag_at-cells}
use Rattle.lic_columns.proofs.LineTokens.{IsOfCells, tokens_of_cells, ascii_is}

-- n blanks
abbrev pub spaces : ℕ → List Cell
spaces n = replicate n Blank

and-true : (t : Bool) → (t && true) ≡ t
and-true true = refl
and-true false = refl

and-false : (t : Bool) → (t && false) ≡ false
and-false true = refl
and-false false = refl

-- ---- cells of a range as blanks

module _ (p : Cell → Bool) (none : p Blank ≡ false) (xs ys zs : List Cell) where
  abbrev all : List Cell
  all = xs ++ (ys ++ zs)

  abbrev left : List Cell
  left = xs ++ (spaces (length ys) ++ zs)

  abbrev from : ℕ
  from = length xs

  abbrev to : ℕ
  to = length xs + length ys

  left_at : (k : ℕ) → (p (get_or all k Blank) && not (is_within from to k)) ≡ p (get_or left k Blank)
  left_at k = elim (cases_lt k from) [
    | inl low ↦
        ap (λ t. p (get_or all k Blank) && not t) (within_before from to k low) ∙ and-true (p (get_or all k Blank))
        ∙ ap p (get_or_append_left xs (ys ++ zs) Blank k low ∙ sym (get_or_append_left xs (spaces (length ys) ++ zs) Blank k low))
    | inr high ↦ elim (cases_lt k to) [
      | inl inside ↦
          ap (λ t. p (get_or all k Blank) && not t) (within_is from to k high inside) ∙ and-false (p (get_or all k Blank))
          ∙ sym (ap p (get_or-append_right xs (spaces (length ys) ++ zs) from k Blank refl high
          ∙ get_or_append_left (spaces (length ys)) zs Blank (k - from) (omega (arith, length-replicate (length ys) Blank))
          ∙ get_or-replicate (length ys) (k - from) Blank Blank (omega arith)) ∙ none)
      | inr past ↦
          ap (λ t. p (get_or all k Blank) && not t) (within_after from to k past) ∙ and-true (p (get_or all k Blank))
          ∙ ap p (get_or-append_right xs (ys ++ zs) from k Blank refl high
          ∙ get_or-append_right ys zs (length ys) (k - from) Blank refl (omega arith)
          ∙ sym (get_or-append_right xs (spaces (length ys) ++ zs) from k Blank refl high
          ∙ get_or-append_right (spaces (length ys)) zs (length ys) (k - from) Blank (length-replicate (length ys) Blank) (omega arith)))
    ]
  ]

  pub cleared_middle : cleared from to (map p all) ≡ map p left
  cleared_middle =
      let size : length all ≡ length left =
      omega (
        arith,
        length-append xs (ys ++ zs),
        length-append ys zs,
        length-append xs (spaces (length ys) ++ zs),
        length-append (spaces (length ys)) zs,
        length-replicate (length ys) Blank,
      ) in
      ext_get_or false (cleared from to (map p all)) (map p left)
      (length-cleared from to (map p all) ∙ length-map all p ∙ size ∙ sym (length-map left p))
      (λ k within. flag_at-cleared from to (map p all) k ∙ ap (λ t. t && not (is_within from to k)) (flag_at-cells p none all k)
      ∙ left_at k ∙ sym (flag_at-cells p none left k))

fit_middle : (at : ℕ) (text : List ℕ) (xs ys zs : List Cell) → Fit at text (xs ++ (ys ++ zs)) → Fit at text (xs ++ (spaces (length ys) ++ zs))
fit_middle at [] [] [] zs fit = fit
fit_middle at [] [] (y ∷ ys) zs fit = absurd fit
fit_middle at [] (x ∷ xs) ys zs fit = absurd fit
fit_middle at (b ∷ text) [] [] zs fit = fit
fit_middle at (b ∷ text) [] (y ∷ ys) zs fit = (tt, fit_middle (suc at) text [] ys zs fit.1)
fit_middle at (b ∷ text) (x ∷ xs) ys zs fit = (fit.0, fit_middle (suc at) text xs ys zs fit.1)

pub blank_middle : (at : ℕ) (text : List ℕ) (xs ys zs : List Cell) (known : Known) (begin end : ℕ) → begin ≡ length xs → end ≡ length xs + length ys
    → IsOfCells at text (xs ++ (ys ++ zs)) known → IsOfCells at text (xs ++ (spaces (length ys) ++ zs)) (blanked begin end known)
blank_middle at text xs ys zs known begin end first last is = record {
  fit = fit_middle at text xs ys zs is.fit;
  letters = is.letters;
  word = ap₂ (λ m n. cleared m n known.word) first last ∙ ap (cleared (length xs) (length xs + length ys)) is.word ∙ cleared_middle is_word refl xs ys zs;
  mark = ap₂ (λ m n. cleared m n known.mark) first last ∙ ap (cleared (length xs) (length xs + length ys)) is.mark ∙ cleared_middle is_mark refl xs ys zs;
}

-- ---- the edges of a line as blanks

abbrev pub standing : LineCut → List SourceChar → List Cell
standing cut line = ((spaces cut.lead ++ spaces cut.item) ++ map cell_of (left_of cut line)) ++ spaces cut.tail

spaces-add : (m n : ℕ) → spaces m ++ spaces n ≡ spaces (m + n)
spaces-add zero n = let e : n ≡ 0 + n = omega arith in ap spaces e
spaces-add (suc m) n = let e : suc (m + n) ≡ suc m + n = omega arith in ap (λ l. Blank ∷ l) (spaces-add m n) ∙ ap spaces e

module _ (cut : LineCut) (line : List SourceChar) (within : cut.lead + cut.item + cut.tail ≤ length line) where
  abbrev first : ℕ
  first = cut.lead + cut.item

  abbrev rest : List SourceChar
  rest = drop first line

  abbrev kept : ℕ
  kept = length rest - cut.tail

  abbrev taken_first : List Cell
  taken_first = map cell_of (take first line)

  abbrev middle : List Cell
  middle = map cell_of (left_of cut line)

  abbrev taken_last : List Cell
  taken_last = map cell_of (drop kept rest)

  pub in_three : map cell_of line ≡ taken_first ++ (middle ++ taken_last)
  in_three =
      ap (map cell_of) (sym (take-append-drop first line) ∙ ap (λ l. take first line ++ l) (sym (take-append-drop kept rest)))
      ∙ map-append cell_of (take first line) (take kept rest ++ drop kept rest)
      ∙ ap (λ l. taken_first ++ l) (map-append cell_of (take kept rest) (drop kept rest))

  pub length_first : length taken_first ≡ first
  length_first = length-map (take first line) cell_of ∙ length-take-le first line (omega arith)

  length_middle : length middle ≡ kept
  length_middle = length-map (take kept rest) cell_of ∙ length-take-le kept rest (omega arith)

  pub length_last : length taken_last ≡ cut.tail
  length_last = length-map (drop kept rest) cell_of ∙ length-drop kept rest ∙ (let e : length rest - kept ≡ cut.tail = omega (arith, length-drop first line) in e)

  pub length-standing : length (standing cut line) ≡ length line
  length-standing =
      omega (
        arith,
        length-append ((spaces cut.lead ++ spaces cut.item) ++ middle) (spaces cut.tail),
        length-append (spaces cut.lead ++ spaces cut.item) middle,
        length-append (spaces cut.lead) (spaces cut.item),
        length-replicate cut.lead Blank,
        length-replicate cut.item Blank,
        length-replicate cut.tail Blank,
        length_middle,
        length-drop first line,
      )

  -- the line between others
  pub edges_are : (at : ℕ) (text : List ℕ) (front following : List Cell) (known : Known) (offset end : ℕ) → offset ≡ length front → end ≡ length front + length line
      → IsOfCells at text (front ++ (map cell_of line ++ following)) known
      → IsOfCells at text (front ++ (standing cut line ++ following)) (edges_blanked cut offset end known)
  edges_are at text front following known offset end is_offset is_end is =
      let whole : front ++ (map cell_of line ++ following) ≡ front ++ (taken_first ++ (middle ++ (taken_last ++ following))) =
      ap (λ l. front ++ (l ++ following)) in_three
      ∙ ap (λ l. front ++ l) (append_assoc taken_first (middle ++ taken_last) following ∙ ap (λ l. taken_first ++ l) (append_assoc middle taken_last following)) in
      let once : IsOfCells at text (front ++ (spaces (length taken_first) ++ (middle ++ (taken_last ++ following)))) (blanked offset (offset + first) known) =
      blank_middle at text front taken_first (middle ++ (taken_last ++ following)) known offset (offset + first) is_offset (omega (arith, is_offset, length_first))
      (subst (λ l. IsOfCells at text l known) whole is) in
      let before = front ++ (spaces (length taken_first) ++ middle) in
      let parted : front ++ (spaces (length taken_first) ++ (middle ++ (taken_last ++ following))) ≡ before ++ (taken_last ++ following) =
      ap (λ l. front ++ l) (sym (append_assoc (spaces (length taken_first)) middle (taken_last ++ following)))
      ∙ sym (append_assoc front (spaces (length taken_first) ++ middle) (taken_last ++ following)) in
      let size : length before ≡ length front + (first + kept) =
      omega (
        arith,
        length-append front (spaces (length taken_first) ++ middle),
        length-append (spaces (length taken_first)) middle,
        length-replicate (length taken_first) Blank,
        length_first,
        length_middle,
      ) in
      let twice : IsOfCells at text (before ++ (spaces (length taken_last) ++ following)) (edges_blanked cut offset end known) =
      blank_middle at text before taken_last following (blanked offset (offset + first) known) (end - cut.tail) end
      (omega (arith, size, is_offset, is_end, length-drop first line)) (omega (arith, size, is_offset, is_end, length-drop first line, length_last))
      (subst (λ l. IsOfCells at text l (blanked offset (offset + first) known)) parted once) in
      let whole_again : before ++ (spaces (length taken_last) ++ following) ≡ front ++ (standing cut line ++ following) =
      ap₂ (λ m l. (front ++ (spaces m ++ middle)) ++ (spaces l ++ following)) length_first length_last
      ∙ ap (λ l. (front ++ (l ++ middle)) ++ (spaces cut.tail ++ following)) (sym (spaces-add cut.lead cut.item))
      ∙ append_assoc front ((spaces cut.lead ++ spaces cut.item) ++ middle) (spaces cut.tail ++ following)
      ∙ ap (λ l. front ++ l) (sym (append_assoc ((spaces cut.lead ++ spaces cut.item) ++ middle) (spaces cut.tail) following)) in
      subst (λ l. IsOfCells at text l (edges_blanked cut offset end known)) whole_again twice

-- ---- as many blanks as bytes are as good as one

abbrev pub found : LineRules → List Cell → List Token
found rules cells = first_tokens (streaks_joined rules cells)

-- the one list gives what the other gives, wherever they are
pub record SameIn (rules : LineRules) (one two : List Cell) : Type 0 where
  pub same : (xs ys : List Cell) → found rules (xs ++ (one ++ ys)) ≡ found rules (xs ++ (two ++ ys))

module _ (rules : LineRules) where
  gap : (xs ys : List Cell) → found rules (xs ++ Blank ∷ ys) ≡ found rules xs ++ found rules ys
  gap xs ys = ap first_tokens (streaks_joined-gap rules xs ys) ∙ first_tokens-gap (streaks_joined rules xs) (streaks_joined rules ys)

  none_found : found rules [] ≡ []
  none_found = ap first_tokens (no_streaks rules)

  blank_twice : (xs ys : List Cell) → found rules (xs ++ Blank ∷ Blank ∷ ys) ≡ found rules (xs ++ Blank ∷ ys)
  blank_twice xs ys =
      gap xs (Blank ∷ ys) ∙ ap (λ l. found rules xs ++ l) (gap [] ys ∙ ap (λ l. l ++ found rules ys) none_found) ∙ sym (gap xs ys)

  blanks_same : (n : ℕ) (xs ys : List Cell) → found rules (xs ++ (Blank ∷ (spaces n ++ ys))) ≡ found rules (xs ++ Blank ∷ ys)
  blanks_same zero xs ys = refl
  blanks_same (suc n) xs ys = blank_twice xs (spaces n ++ ys) ∙ blanks_same n xs ys

  spaces_same : (n : ℕ) → SameIn rules (spaces n) (blank_for n)
  spaces_same zero = record { same = λ xs ys. refl }
  spaces_same (suc n) = record { same = blanks_same n }

  itself : (cells : List Cell) → SameIn rules cells cells
  itself cells = record { same = λ xs ys. refl }

  append_same : (a b c d : List Cell) → SameIn rules a c → SameIn rules b d → SameIn rules (a ++ b) (c ++ d)
  append_same a b c d h k = record {
    same = λ xs ys.
        ap (λ l. found rules (xs ++ l)) (append_assoc a b ys) ∙ h.same xs (b ++ ys)
        ∙ ap (found rules) (sym (append_assoc xs c (b ++ ys))) ∙ k.same (xs ++ c) ys
        ∙ ap (found rules) (append_assoc xs c (d ++ ys)) ∙ ap (λ l. found rules (xs ++ l)) (sym (append_assoc c d ys));
  }

  standing_same : (cut : LineCut) (line : List SourceChar) → SameIn rules (standing cut line) (cells_of_cut cut line)
  standing_same cut line =
      append_same _ _ _ _
      (append_same _ _ _ _ (append_same _ _ _ _ (spaces_same cut.lead) (spaces_same cut.item)) (itself (map cell_of (left_of cut line))))
      (spaces_same cut.tail)

  abbrev pub standing_line : List SourceChar → List Cell
  standing_line line = standing (cut_of rules whole_line (chars_of line)) line

  lines_same : (lines : List (List SourceChar)) → SameIn rules (flat_map standing_line lines) (flat_map (line_cells rules whole_line) lines)
  lines_same [] = itself []
  lines_same (line ∷ lines) = append_same _ _ _ _ (standing_same (cut_of rules whole_line (chars_of line)) line) (lines_same lines)

  pub lines_found : (lines : List (List SourceChar))
      → found rules (flat_map standing_line lines) ≡ found rules (flat_map (line_cells rules whole_line) lines)
  lines_found lines =
      ap (found rules) (sym (append-nil (flat_map standing_line lines))) ∙ (lines_same lines).same [] []
      ∙ ap (found rules) (append-nil (flat_map (line_cells rules whole_line) lines))

-- ---- one line

pub line_tokens_are : (rules : LineRules) (at : ℕ) (line : List ℕ) (cut : LineCut) → IsAscii line → cut ≡ cut_of rules whole_line line
    → cut.lead + cut.item + cut.tail ≤ length line
    → span_tokens true at at (known_of line).letters (text_spans rules.separators at line (edges_blanked cut 0 (length line) (known_of line)))
    ≡ first_tokens (streaks_joined rules (line_cells rules whole_line (placed at line)))
line_tokens_are rules at line cut ascii is_cut within =
    let source = placed at line in
    let long : length source ≡ length line = length-placed at line in
    let fit : cut.lead + cut.item + cut.tail ≤ length source = omega (arith, long, within) in
    let known : Known = edges_blanked cut 0 (length line) (known_of line) in
    let here : IsOfCells at line ([] ++ (map cell_of source ++ [])) (known_of line) =
    subst (λ l. IsOfCells at line l (known_of line)) (sym (append-nil (map cell_of source))) (ascii_is at line ascii) in
    let is : IsOfCells at line (standing cut source) known =
    subst (λ l. IsOfCells at line l known) (append-nil (standing cut source))
    (edges_are cut source fit at line [] [] (known_of line) 0 (length line) refl (omega (arith, long)) here) in
    tokens_of_cells at line (standing cut source) known is rules true
    ∙ ap (found rules) (sym (append-nil (standing cut source))) ∙ (standing_same rules cut source).same [] []
    ∙ ap (found rules) (append-nil (cells_of_cut cut source))
    ∙ ap (λ k. found rules (cells_of_cut k source)) (is_cut ∙ ap (cut_of rules whole_line) (sym (chars_of-placed at line)))
