-- Lines of which nothing but white space is taken have the tokens of all their characters.
use Rattle.std.proofs.Common.{◌≡◌, ℕ, zero, suc, ◌+◌, ◌-◌, ◌<◌, ◌≤◌, Bool, true, false, not, ◌==◌, if◌then◌else◌, List, [], ◌∷◌, ◌++◌, length, take, drop, map, get_or, inl, inr, refl, sym, ap, ap₂, ◌∙◌, arith, append_assoc}
use Rattle.std.specs.Prelude.{chars, IsUtf8}
use Rattle.std.specs.Char.{is_whitespace, len_utf8}
use Rattle.std.specs.List.{flat_map, onto_first, AllByRecursion}
use Rattle.std.proofs.lemmas.Bool.{cond-true}
use Rattle.std.proofs.lemmas.List.{append-nil, map-append, drop-drop, length-drop, length-map, get_or-take, get_or-drop, take-map, drop-map}
use Rattle.lic_kind.specs.declared.Kind.TheVariants as kind
use Rattle.lic_kind.specs.Kinds.{kind_of, is_word_kind, is_mark_kind, is_dropped}
use Rattle.lic_kind.specs.LineRules.{LineRules}
use Rattle.lic_kind.proofs.KindLemmas.{kind_of-white, kind_of-dropped}
use Rattle.lic_trim.specs.declared.cut.LineCut.{LineCut}
use Rattle.lic_trim.specs.declared.source.SourceChar.{SourceChar}
use Rattle.lic_trim.specs.Lines.{cut_of, whole_line}
use Rattle.lic_trim.specs.Sources.{chars_of, lines_of, placed, without_dropped}
use Rattle.lic_trim.specs.Spaces.{TakesSpaces}
use Rattle.lic_lines.specs.declared.cell.Cell.TheVariants.{Blank, Mark, Word}
use Rattle.lic_lines.specs.Cells.{cell_of, cells_of, left_of, line_cells}
use Rattle.lic_lines.specs.Streaks.{streaks_joined}
use Rattle.lic_lines.specs.Tokens.{first_tokens}
use Rattle.lic_columns.specs.Known.{known_of}
use Rattle.lic_letters.specs.Simple.{IsSimple, AreSimple, TakeSpaces, all_in_place}
use Rattle.lic_columns.specs.SpanTokens.{span_tokens}
use Rattle.lic_columns.specs.Tokens.{text_spans}
use Rattle.lic_columns.proofs.EdgeLemmas.{spaces, standing, in_three, length_first, length_last, found, standing_line, lines_found}
use Rattle.lic_letters.proofs.Lanes.{every_below}
use Rattle.lic_columns.proofs.WideMarks.{simple_tokens_are}
use Rattle.lic_columns.proofs.WideTexts.{joined_mark}

-- ---- white space

white_cell : (s : SourceChar) → is_whitespace s.char ≡ true → cell_of s ≡ Blank
white_cell s white = ap (λ k. if is_word_kind k then Word s else (if is_mark_kind k then Mark s else Blank)) (kind_of-white s.char white)

white_cells : (l : List SourceChar) → ((i : ℕ) → i < length l → is_whitespace (get_or (chars_of l) i 0) ≡ true) → map cell_of l ≡ spaces (length l)
white_cells [] white = refl
white_cells (s ∷ l) white =
    ap₂ (λ x r. x ∷ r) (white_cell s (white zero (omega arith))) (white_cells l (λ i lt. white (suc i) (omega (arith, lt))))

-- ---- a line

module _ (cut : LineCut) (line : List SourceChar) (takes : TakesSpaces cut (chars_of line)) where
  abbrev text : List ℕ
  text = chars_of line

  size : length text ≡ length line
  size = length-map line (λ s. s.char)

  within : cut.lead + cut.item + cut.tail ≤ length line
  within = omega (arith, takes.within, size)

  abbrev first : ℕ
  first = cut.lead + cut.item

  abbrev rest : List SourceChar
  rest = drop first line

  abbrev kept : ℕ
  kept = length rest - cut.tail

  kept_is : first + kept ≡ length line - cut.tail
  kept_is = omega (arith, length-drop first line, within)

  front_is_white : (i : ℕ) → i < length (take first line) → is_whitespace (get_or (chars_of (take first line)) i 0) ≡ true
  front_is_white i lt =
      let inside : i < first = omega (arith, lt, length_first cut line within, length-map (take first line) cell_of) in
      ap (λ l. is_whitespace (get_or l i 0)) (sym (take-map (λ (s : SourceChar). s.char) first line))
      ∙ ap is_whitespace (get_or-take first text i 0 inside)
      ∙ takes.lead i (omega (arith, inside, takes.no_item))

  end_is_white : (i : ℕ) → i < length (drop kept rest) → is_whitespace (get_or (chars_of (drop kept rest)) i 0) ≡ true
  end_is_white i lt =
      let same : chars_of (drop kept rest) ≡ drop (first + kept) text =
      sym (drop-map (λ (s : SourceChar). s.char) kept rest) ∙ ap (drop kept) (sym (drop-map (λ (s : SourceChar). s.char) first line)) ∙ drop-drop kept first text in
      let inside : i < cut.tail = omega (arith, lt, length_last cut line within, length-map (drop kept rest) cell_of) in
      ap (λ l. is_whitespace (get_or l i 0)) same ∙ ap is_whitespace (get_or-drop (first + kept) text i 0)
      ∙ takes.tail (first + kept + i) (omega (arith, kept_is, size)) (omega (arith, kept_is, size, inside, within))

  standing_is : standing cut line ≡ map cell_of line
  standing_is =
      let none : spaces cut.item ≡ [] = ap spaces takes.no_item in
      let front : map cell_of (take first line) ≡ spaces cut.lead =
      white_cells (take first line) front_is_white
      ∙ ap spaces (sym (length-map (take first line) cell_of) ∙ length_first cut line within ∙ (let e : first ≡ cut.lead = omega (arith, takes.no_item) in e)) in
      let end : map cell_of (drop kept rest) ≡ spaces cut.tail =
      white_cells (drop kept rest) end_is_white ∙ ap spaces (sym (length-map (drop kept rest) cell_of) ∙ length_last cut line within) in
      ap (λ l. ((spaces cut.lead ++ l) ++ map cell_of (left_of cut line)) ++ spaces cut.tail) none
      ∙ ap (λ l. (l ++ map cell_of (left_of cut line)) ++ spaces cut.tail) (append-nil (spaces cut.lead))
      ∙ append_assoc (spaces cut.lead) (map cell_of (left_of cut line)) (spaces cut.tail)
      ∙ sym (in_three cut line within ∙ ap₂ (λ k l. k ++ (map cell_of (left_of cut line) ++ l)) front end)

-- ---- lines

-- lines in one
abbrev joined : List (List SourceChar) → List SourceChar
joined = flat_map (λ line. line)

onto_joined : (s : SourceChar) (lines : List (List SourceChar)) → joined (onto_first s lines) ≡ s ∷ joined lines
onto_joined s [] = refl
onto_joined s (line ∷ lines) = refl

joined_again : (source : List SourceChar) → joined (lines_of source) ≡ source
joined_again [] = refl
joined_again (s ∷ source) = go (joined_again source) (s.char == 0x0A)
  where
    go : joined (lines_of source) ≡ source → (t : Bool) → joined (if t then (s ∷ []) ∷ lines_of source else onto_first s (lines_of source)) ≡ s ∷ source
    go after true = ap (λ l. s ∷ l) after
    go after false = onto_joined s (lines_of source) ∙ ap (λ l. s ∷ l) after

module _ (rules : LineRules) where
  abbrev Takes : List SourceChar → Type 0
  Takes line = TakesSpaces (cut_of rules whole_line (chars_of line)) (chars_of line)

  all_standing : (lines : List (List SourceChar)) → AllByRecursion Takes lines → flat_map (standing_line rules) lines ≡ map cell_of (joined lines)
  all_standing [] takes = refl
  all_standing (line ∷ lines) takes =
      ap₂ (λ k l. k ++ l) (standing_is (cut_of rules whole_line (chars_of line)) line takes.0) (all_standing lines takes.1)
      ∙ sym (map-append cell_of line (joined lines))

  lines_tokens : (source : List SourceChar) → TakeSpaces rules source
      → found rules (map cell_of source) ≡ found rules (flat_map (line_cells rules whole_line) (lines_of source))
  lines_tokens source takes =
      ap (λ l. found rules (map cell_of l)) (sym (joined_again source))
      ∙ ap (found rules) (sym (all_standing (lines_of source) takes))
      ∙ lines_found rules (lines_of source)

-- ---- texts of simple characters

not_dropped : (c : ℕ) → IsSimple c → is_dropped c ≡ false
not_dropped c simple = go (is_dropped c) refl
  where
    word_is_none : kind_of c ≡ kind.Word → is_dropped c ≡ true → ⊥
    word_is_none is e = let clash : kind.Word ≡ kind.Dropped = sym is ∙ kind_of-dropped c e in cc

    blank_is_none : kind_of c ≡ kind.Blank → is_dropped c ≡ true → ⊥
    blank_is_none is e = let clash : kind.Blank ≡ kind.Dropped = sym is ∙ kind_of-dropped c e in cc

    mark_is_none : kind_of c ≡ kind.Mark → is_dropped c ≡ true → ⊥
    mark_is_none is e = let clash : kind.Mark ≡ kind.Dropped = sym is ∙ kind_of-dropped c e in cc

    off : (t : Bool) → not t ≡ true → t ≡ false
    off false h = refl
    off true h = absurd cc

    go : (t : Bool) → is_dropped c ≡ t → t ≡ false
    go false e = refl
    go true e = elim simple [
      | inl small ↦ sym e ∙ off (is_dropped c) (every_below (λ d. not (is_dropped d)) 128 refl c small)
      | inr other ↦ elim other [
        | inl is ↦ absurd (word_is_none is.word e)
        | inr more ↦ elim more [
          | inl is ↦ absurd (blank_is_none is e)
          | inr is ↦ absurd (mark_is_none (joined_mark 0 c is).kind e)
        ]
      ]
    ]

none_dropped : (at : ℕ) (cs : List ℕ) → AreSimple cs → without_dropped (placed at cs) ≡ placed at cs
none_dropped at [] are = refl
none_dropped at (c ∷ cs) are =
    let here : SourceChar = record { char = c; start = at; end = at + len_utf8 c } in
    cond-true (not (is_dropped c)) _ _ (ap not (not_dropped c are.0))
    ∙ ap (λ l. here ∷ l) (none_dropped (at + len_utf8 c) cs are.2)

pub simple_lines_are : (rules : LineRules) (at : ℕ) (text : List ℕ) → IsUtf8 text → AreSimple (chars text) → TakeSpaces rules (placed at (chars text))
    → span_tokens true at at (known_of (all_in_place (chars text))).letters
    (text_spans rules.separators at text (known_of (all_in_place (chars text))))
    ≡ first_tokens (streaks_joined rules (cells_of rules (placed at (chars text))))
simple_lines_are rules at text utf8 are takes =
    let source = placed at (chars text) in
    simple_tokens_are rules true at text utf8 are
    ∙ lines_tokens rules source takes
    ∙ ap (λ l. found rules (flat_map (line_cells rules whole_line) (lines_of l))) (sym (none_dropped at (chars text) are))
