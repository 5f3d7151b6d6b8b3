-- The source characters of an input lie in it one after the other, and so do those of its cells.
use Rattle.std.proofs.Common.{◌≡◌, ℕ, zero, suc, ◌+◌, ◌-◌, ◌≤◌, Bool, List, [], ◌∷◌, ◌++◌, map, length, take, drop, refl, sym, ap, subst, ◌∙◌, arith, inl, inr, length-append, append-nil}
use Rattle.std.specs.Prelude.{nat_le, if◌then◌else◌, Contains}
use Rattle.std.specs.List.{flat_map, onto_first}
use Rattle.std.specs.Char.{len_utf8, encode_utf8}
use Rattle.std.proofs.lemmas.Bool.{cases_Bool, cond-true, cond-false}
use Rattle.std.proofs.lemmas.Str.{length-encode, len_utf8_bounds}
use Rattle.std.proofs.lemmas.List.Elements.{Contains-append_left, Contains-append_right}
use Rattle.lic_kind.specs.Kinds.{kind_of, is_word_kind, is_mark_kind}
use Rattle.lic_trim.specs.Texts.{cut_after, groups}
use Rattle.lic_trim.specs.Sources.{chars_of, without_dropped, lines_of}
use Rattle.lic_trim.specs.declared.source.SourceChar.{SourceChar}
use Rattle.lic_lines.specs.declared.cell.Cell.{Cell}
use Rattle.lic_lines.specs.declared.cell.Cell.TheVariants.{Blank, Mark, Word}
use Rattle.lic_trim.specs.declared.line_part.LinePart.{LinePart}
use Rattle.lic_kind.specs.LineRules.{LineRules}
use Rattle.lic_trim.specs.Lines.{whole_line, cut_of}
use Rattle.lic_lines.specs.Cells.{blank_for, cell_of, line_cells, cells_of}
use Rattle.lic_lines.specs.Streaks.{same_mark, same_family, end_after, without_separator, without_separators, joined, streaks_joined}
use Rattle.lic_norm.specs.Sources.{AreSourceChars, source_of}
use Rattle.lic_norm.specs.Spans.{EndsAt}
use Rattle.lic_rewriting.proofs.GroupLemmas.{parts_of_groups}
use Rattle.lic_norm.proofs.AnyBytes.{source_of-AreSourceChars}
use Rattle.lic_norm.proofs.Lying.{Lie, Lie-order, Lie-append, Lie-split, Lie-rest, Lie-take, Lie-drop, Lie-filter}

-- source characters lie from one byte up to another
abbrev pub CharsLie : List ℕ → ℕ → List SourceChar → ℕ → Type 0
CharsLie source = Lie {A = SourceChar} source (λ s. s.start) (λ s. s.end)

-- the marks and word characters among cells
abbrev pub solid : List Cell → List SourceChar
solid [] = []
solid (Blank ∷ cells) = solid cells
solid (Mark s ∷ cells) = s ∷ solid cells
solid (Word s ∷ cells) = s ∷ solid cells

-- those of cells lie there
abbrev pub CellsLie : List ℕ → ℕ → List Cell → ℕ → Type 0
CellsLie source from cells to = CharsLie source from (solid cells) to

pub solid-append : (xs ys : List Cell) → solid (xs ++ ys) ≡ solid xs ++ solid ys
solid-append [] ys = refl
solid-append (Blank ∷ xs) ys = solid-append xs ys
solid-append (Mark s ∷ xs) ys = ap (λ l. s ∷ l) (solid-append xs ys)
solid-append (Word s ∷ xs) ys = ap (λ l. s ∷ l) (solid-append xs ys)

-- ---- parts of a list, and the list

pub parts_of_cut : {A : Type 0} (ends : A → Bool) (xs : List A) → flat_map (λ part. part) (cut_after ends xs) ≡ xs
parts_of_cut ends [] = refl
parts_of_cut {A} ends (x ∷ xs) =
    elim (cases_Bool (ends x)) [
      | inl yes_end ↦ ap (flat_map (λ part. part))
          (cond-true (ends x) ((x ∷ []) ∷ cut_after ends xs) (onto_first x (cut_after ends xs)) yes_end)
          ∙ ap (λ l. x ∷ l) (parts_of_cut ends xs)
      | inr no_end ↦ ap (flat_map (λ part. part))
          (cond-false (ends x) ((x ∷ []) ∷ cut_after ends xs) (onto_first x (cut_after ends xs)) no_end)
          ∙ onto (cut_after ends xs) ∙ ap (λ l. x ∷ l) (parts_of_cut ends xs)
    ]
  where
    onto : (parts : List (List A)) → flat_map (λ part. part) (onto_first x parts) ≡ x ∷ flat_map (λ part. part) parts
    onto [] = refl
    onto (part ∷ parts) = refl

-- ---- characters

-- source characters that are read lie in the source, if it has them
read-Lie : (source : List ℕ) {at : ℕ} {bytes : List ℕ} {cs : List SourceChar} → AreSourceChars at bytes cs
    → ((s : SourceChar) → Contains cs s → Contains (source_of 0 source) s) → CharsLie source at cs (at + length bytes)
read-Lie source (AreSourceChars.no_bytes at) has = omega arith
read-Lie source (AreSourceChars.a_char at bytes c rest cs scalar came read) has =
    let s : SourceChar = record { char = c; start = at; end = at + len_utf8 c } in
    let known = has s (Contains-append_left (s ∷ []) cs s (0, omega arith, refl)) in
    let to : at + len_utf8 c + length rest ≡ at + length bytes = omega (arith, ap length came, length-append (encode_utf8 c) rest, length-encode c) in (
      omega arith,
      omega (arith, len_utf8_bounds c),
      (s, known, refl),
      (s, known, refl),
      subst (CharsLie source (at + len_utf8 c) cs) to (read-Lie source read (λ t among. has t (Contains-append_right (s ∷ []) cs t among))),
    )
read-Lie source (AreSourceChars.a_byte at b rest cs nothing read) has =
    let s : SourceChar = record { char = 0xFFFD; start = at; end = at + 1 } in
    let known = has s (Contains-append_left (s ∷ []) cs s (0, omega arith, refl)) in
    let to : at + 1 + length rest ≡ at + length (b ∷ rest) = omega arith in (
      omega arith,
      omega arith,
      (s, known, refl),
      (s, known, refl),
      subst (CharsLie source (at + 1) cs) to (read-Lie source read (λ t among. has t (Contains-append_right (s ∷ []) cs t among))),
    )

module _ (source : List ℕ) where
  pub source-Lie : CharsLie source 0 (source_of 0 source) (length source)
  source-Lie = subst (CharsLie source 0 (source_of 0 source))
      (let e : 0 + length source ≡ length source = omega arith in e)
      (read-Lie source (source_of-AreSourceChars 0 source) (λ s among. among))

  -- ---- cells of lines

  cell_of-cases : (s : SourceChar) (P : Cell → Type 0) → P (Word s) → P (Mark s) → P Blank → P (cell_of s)
  cell_of-cases s P word mark blank =
      let other = if is_mark_kind (kind_of s.char) then Mark s else Blank in
      elim (cases_Bool (is_word_kind (kind_of s.char))) [
        | inl is_word ↦ subst P (sym (cond-true (is_word_kind (kind_of s.char)) (Word s) other is_word)) word
        | inr no_word ↦
            subst P (sym (cond-false (is_word_kind (kind_of s.char)) (Word s) other no_word))
            (elim (cases_Bool (is_mark_kind (kind_of s.char))) [
              | inl is_mark ↦ subst P (sym (cond-true (is_mark_kind (kind_of s.char)) (Mark s) Blank is_mark)) mark
              | inr no_mark ↦ subst P (sym (cond-false (is_mark_kind (kind_of s.char)) (Mark s) Blank no_mark)) blank
            ])
      ]

  cells-Lie : (from : ℕ) (text : List SourceChar) (to : ℕ) → CharsLie source from text to → CellsLie source from (map cell_of text) to
  cells-Lie from [] to l = l
  cells-Lie from (s ∷ text) to l =
      let solid_one : CellsLie source from (Mark s ∷ map cell_of text) to = (l.0, l.1, l.2, l.3, cells-Lie s.end text to l.4) in
      cell_of-cases s (λ cell. CellsLie source from (cell ∷ map cell_of text) to) solid_one solid_one
      (cells-Lie from text to (Lie-rest source (λ (r : SourceChar). r.start) (λ r. r.end) from s text to l))

  solid_blank : (n : ℕ) → solid (blank_for n) ≡ []
  solid_blank zero = refl
  solid_blank (suc n) = refl

  pub line-Lie : (rules : LineRules) (part : LinePart) (from : ℕ) (line : List SourceChar) (to : ℕ)
      → CharsLie source from line to → CellsLie source from (line_cells rules part line) to
  line-Lie rules part from line to l =
      let cut = cut_of rules part (chars_of line) in
      let rest = drop (cut.lead + cut.item) line in
      let kept = take (length rest - cut.tail) rest in
      let lies : CellsLie source from (map cell_of kept) to =
      cells-Lie from kept to
      (Lie-take source (λ (r : SourceChar). r.start) (λ r. r.end) (length rest - cut.tail) from rest to
      (Lie-drop source (λ (r : SourceChar). r.start) (λ r. r.end) (cut.lead + cut.item) from line to l)) in
      let same : solid (line_cells rules part line) ≡ solid (map cell_of kept) =
      solid-append (blank_for cut.lead ++ blank_for cut.item ++ map cell_of kept) (blank_for cut.tail)
      ∙ ap (λ x. solid (blank_for cut.lead ++ blank_for cut.item ++ map cell_of kept) ++ x) (solid_blank cut.tail)
      ∙ append-nil (solid (blank_for cut.lead ++ blank_for cut.item ++ map cell_of kept))
      ∙ solid-append (blank_for cut.lead ++ blank_for cut.item) (map cell_of kept)
      ∙ ap (λ x. x ++ solid (map cell_of kept))
      (solid-append (blank_for cut.lead) (blank_for cut.item)
      ∙ ap (λ x. x ++ solid (blank_for cut.item)) (solid_blank cut.lead) ∙ solid_blank cut.item) in
      subst (λ x. CharsLie source from x to) (sym same) lies

  lines-Lie : (f : List SourceChar → List Cell)
      → ((from : ℕ) (line : List SourceChar) (to : ℕ) → CharsLie source from line to → CellsLie source from (f line) to)
      → (from : ℕ) (lines : List (List SourceChar)) (to : ℕ) → CharsLie source from (flat_map (λ line. line) lines) to
      → CellsLie source from (flat_map f lines) to
  lines-Lie f each from [] to l = l
  lines-Lie f each from (line ∷ lines) to l =
      let two = Lie-split source (λ (r : SourceChar). r.start) (λ r. r.end) from line (flat_map (λ line. line) lines) to l in
      subst (λ x. CharsLie source from x to) (sym (solid-append (f line) (flat_map f lines)))
      (Lie-append source (λ (r : SourceChar). r.start) (λ r. r.end) from (solid (f line)) two.0
      (solid (flat_map f lines)) to (each from line two.0 two.1) (lines-Lie f each two.0 lines to two.2))

  pub cells_of-Lie : (rules : LineRules) (from : ℕ) (text : List SourceChar) (to : ℕ) → CharsLie source from text to
      → CellsLie source from (cells_of rules text) to
  cells_of-Lie rules from text to l =
      let kept = without_dropped text in
      let lies : CharsLie source from kept to = Lie-filter source (λ (r : SourceChar). r.start) (λ r. r.end) _ from text to l in
      lines-Lie (line_cells rules whole_line) (line-Lie rules whole_line) from (lines_of kept) to
      (subst (λ x. CharsLie source from x to) (sym (parts_of_cut _ kept)) lies)

  -- ---- streaks

  streaks-Lie : (f : List Cell → List Cell) → ((from : ℕ) (streak : List Cell) (to : ℕ) → CellsLie source from streak to → CellsLie source from (f streak) to)
      → (from : ℕ) (streaks : List (List Cell)) (to : ℕ) → CellsLie source from (flat_map (λ streak. streak) streaks) to → CellsLie source from (flat_map f streaks) to
  streaks-Lie f each from [] to l = l
  streaks-Lie f each from (streak ∷ streaks) to l =
      let two = Lie-split source (λ (r : SourceChar). r.start) (λ r. r.end) from (solid streak) (solid (flat_map (λ streak. streak) streaks)) to
      (subst (λ x. CharsLie source from x to) (solid-append streak (flat_map (λ streak. streak) streaks)) l) in
      subst (λ x. CharsLie source from x to) (sym (solid-append (f streak) (flat_map f streaks)))
      (Lie-append source (λ (r : SourceChar). r.start) (λ r. r.end) from (solid (f streak)) two.0
      (solid (flat_map f streaks)) to (each from streak two.0 two.1) (streaks-Lie f each two.0 streaks to two.2))

  separator-Lie : (from : ℕ) (streak : List Cell) (to : ℕ) → CellsLie source from streak to → CellsLie source from (without_separator streak) to
  separator-Lie from [] to l = l
  separator-Lie from (Blank ∷ streak) to l = l
  separator-Lie from (Word s ∷ streak) to l = l
  separator-Lie from (Mark s ∷ streak) to l =
      let P : List Cell → Type 0 = λ cells. CellsLie source from cells to in
      elim (cases_Bool (nat_le 2 (length streak))) [
        | inl many ↦ subst P (sym (cond-true (nat_le 2 (length streak)) (Blank ∷ []) (Mark s ∷ streak) many))
            (Lie-order source (λ (r : SourceChar). r.start) (λ r. r.end) from (s ∷ solid streak) to l)
        | inr few ↦ subst P (sym (cond-false (nat_le 2 (length streak)) (Blank ∷ []) (Mark s ∷ streak) few)) l
      ]

  -- where the last of these ends lies between, and a source character ends there
  pub end_after-lies : (at : ℕ) (cells : List Cell) (to : ℕ) → EndsAt source at → CellsLie source at cells to
      → (at ≤ end_after at cells) × (end_after at cells ≤ to) × EndsAt source (end_after at cells)
  end_after-lies at [] to here l = (omega arith, l, here)
  end_after-lies at (Blank ∷ cells) to here l = end_after-lies at cells to here l
  end_after-lies at (Mark s ∷ cells) to here l = let rest = end_after-lies s.end cells to l.3 l.4 in (omega (arith, l.0, l.1, rest.0), rest.1, rest.2)
  end_after-lies at (Word s ∷ cells) to here l = let rest = end_after-lies s.end cells to l.3 l.4 in (omega (arith, l.0, l.1, rest.0), rest.1, rest.2)

  joined-Lie : (from : ℕ) (streak : List Cell) (to : ℕ) → CellsLie source from streak to → CellsLie source from (joined streak) to
  joined-Lie from [] to l = l
  joined-Lie from (Blank ∷ streak) to l = l
  joined-Lie from (Word s ∷ streak) to l = l
  joined-Lie from (Mark s ∷ streak) to l = let last = end_after-lies s.end streak to l.3 l.4 in (l.0, omega (arith, l.1, last.0), l.2, last.2, last.1)

  pub streaks_joined-Lie : (rules : LineRules) (from : ℕ) (cells : List Cell) (to : ℕ) → CellsLie source from cells to
      → CellsLie source from (streaks_joined rules cells) to
  streaks_joined-Lie rules from cells to l =
      let P : List Cell → Type 0 = λ cells. CellsLie source from cells to in
      let parted : P (without_separators cells) =
      streaks-Lie without_separator separator-Lie from (groups same_mark cells) to
      (subst P (sym (parts_of_groups same_mark cells)) l) in
      let first : P (if rules.separators then without_separators cells else cells) =
      elim (cases_Bool rules.separators) [
        | inl on ↦ subst P (sym (cond-true rules.separators (without_separators cells) cells on)) parted
        | inr off ↦ subst P (sym (cond-false rules.separators (without_separators cells) cells off)) l
      ] in
      streaks-Lie joined joined-Lie from
      (groups same_family (if rules.separators then without_separators cells else cells)) to
      (subst P (sym (parts_of_groups same_family
      (if rules.separators then without_separators cells else cells))) first)
