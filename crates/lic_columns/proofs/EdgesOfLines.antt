-- The edges of each line of a text as blanks.
use Rattle.std.proofs.Common.{◌≡◌, ℕ, zero, suc, ◌+◌, ◌-◌, ◌<◌, ◌≤◌, Bool, true, false, not, ◌&&◌, ◌==◌, if◌then◌else◌, List, [], ◌∷◌, ◌++◌, length, take, drop, map, get_or, refl, sym, ap, ap₂, ◌∙◌, ⊎_elim, inl, inr, arith, subst, append_assoc, length-append}
use Rattle.std.specs.Prelude.{IsAscii, slice_range}
use Rattle.std.specs.Char.{len_utf8, is_whitespace}
use Rattle.std.specs.List.{flat_map, onto_first, before_first, position_or_len}
use Rattle.std.proofs.lemmas.Bool.{cases_Bool, cases_lt, cond-true, cond-false}
use Rattle.std.proofs.lemmas.List.{append-nil, map-append, length-map, length-take, length-take-le, length-drop, drop-drop, drop_all, get_or-drop, get_or-map, get_or-take, get_or_past}
use Rattle.std.proofs.lemmas.Str.{len_utf8_ascii}
use Rattle.lic_kind.specs.Kinds.{is_dropped}
use Rattle.lic_kind.specs.LineRules.{LineRules}
use Rattle.lic_trim.specs.Lines.{whole_line, is_lead_piece, is_tail_piece, is_item_form, lets_item, item_length, lead_length, item_after_lead, tail_length, cut_of}
use Rattle.lic_lines.specs.Cells.{cell_of, line_cells, cells_of}
use Rattle.lic_lines.specs.Streaks.{streaks_joined}
use Rattle.lic_trim.specs.Sources.{placed, lines_of, without_dropped}
use Rattle.lic_trim.specs.Texts.{is_sequence, cut_after}
use Rattle.lic_lines.specs.Tokens.{first_tokens}
use Rattle.lic_lines.specs.declared.cell.Cell.{Cell}
use Rattle.lic_trim.specs.declared.cut.LineCut.{LineCut}
use Rattle.lic_trim.specs.declared.source.SourceChar.{SourceChar}
use Rattle.lic_trim.proofs.AsciiLemmas.{chars_of-placed, length-placed}
use Rattle.lic_trim.proofs.TailSequences.{greatest_le}
use Rattle.lic_letters.specs.Bytes.{is_word, is_mark, is_feed}
use Rattle.lic_columns.specs.Edges.{AreBlank, byte_lines, edges_blanked, lines_blanked, AreCleared}
use Rattle.lic_columns.specs.Flags.{cleared}
use Rattle.lic_columns.specs.Known.{Known, IsText, known_of, is_dark}
use Rattle.lic_columns.specs.Masks.{flag_at}
use Rattle.lic_columns.specs.SpanTokens.{span_tokens}
use Rattle.lic_columns.specs.Tokens.{text_spans}
use Rattle.lic_columns.proofs.BlankEdges.{white_is_blank, still_blank}
use Rattle.lic_columns.proofs.EdgeLemmas.{standing, length-standing, edges_are, found, standing_line, lines_found}
use Rattle.lic_columns.proofs.FlagLemmas.{length-cleared}
use Rattle.lic_letters.proofs.Lanes.{every_below}
use Rattle.lic_columns.proofs.LineTokens.{IsOfCells, tokens_of_cells, ascii_is}
use Rattle.lic_columns.proofs.TextLemmas.{IsText-blanked}

-- ---- lines one after another

-- lines in one
abbrev joined : List (List ℕ) → List ℕ
joined = flat_map (λ line. line)

-- the characters of lines, of which the first occurs at this byte
abbrev placed_lines : ℕ → List (List ℕ) → List (List SourceChar)
placed_lines at [] = []
placed_lines at (line ∷ lines) = placed at line ∷ placed_lines (at + length line) lines

abbrev byte_char : ℕ → ℕ → SourceChar
byte_char at b = record { char = b; start = at; end = at + len_utf8 b }

ascii_rest : (xs ys : List ℕ) → IsAscii (xs ++ ys) → IsAscii ys
ascii_rest [] ys h = h
ascii_rest (x ∷ xs) ys h = ascii_rest xs ys (λ i. h (suc i))

placed-append : (at : ℕ) (xs ys : List ℕ) → IsAscii (xs ++ ys) → placed at (xs ++ ys) ≡ placed at xs ++ placed (at + length xs) ys
placed-append at [] ys h = let e : at ≡ at + 0 = omega arith in ap (λ n. placed n ys) e
placed-append at (x ∷ xs) ys h =
    let e : at + len_utf8 x + length xs ≡ at + suc (length xs) = omega (arith, len_utf8_ascii x (h 0)) in
    ap (λ l. byte_char at x ∷ l)
    (placed-append (at + len_utf8 x) xs ys (λ i. h (suc i)) ∙ ap (λ n. placed (at + len_utf8 x) xs ++ placed n ys) e)

onto_joined : (x : ℕ) (lines : List (List ℕ)) → joined (onto_first x lines) ≡ x ∷ joined lines
onto_joined x [] = refl
onto_joined x (line ∷ lines) = refl

pub joined_again : (text : List ℕ) → joined (byte_lines text) ≡ text
joined_again [] = refl
joined_again (b ∷ text) = go (joined_again text) (b == 0x0A)
  where
    go : joined (byte_lines text) ≡ text → (t : Bool) → joined (if t then (b ∷ []) ∷ byte_lines text else onto_first b (byte_lines text)) ≡ b ∷ text
    go after true = ap (λ l. b ∷ l) after
    go after false = onto_joined b (byte_lines text) ∙ ap (λ l. b ∷ l) after

onto_placed : (at b : ℕ) (lines : List (List ℕ)) → b < 128
    → placed_lines at (onto_first b lines) ≡ onto_first (byte_char at b) (placed_lines (at + len_utf8 b) lines)
onto_placed at b [] small = refl
onto_placed at b (line ∷ lines) small =
    let e : at + suc (length line) ≡ at + len_utf8 b + length line = omega (arith, len_utf8_ascii b small) in
    ap (λ n. (byte_char at b ∷ placed (at + len_utf8 b) line) ∷ placed_lines n lines) e

lines_placed : (at : ℕ) (text : List ℕ) → IsAscii text → lines_of (placed at text) ≡ placed_lines at (byte_lines text)
lines_placed at [] ascii = refl
lines_placed at (b ∷ text) ascii = go (lines_placed (at + len_utf8 b) text (λ i. ascii (suc i))) (b == 0x0A)
  where
    go : lines_of (placed (at + len_utf8 b) text) ≡ placed_lines (at + len_utf8 b) (byte_lines text) → (t : Bool)
        → (if t then (byte_char at b ∷ []) ∷ lines_of (placed (at + len_utf8 b) text) else onto_first (byte_char at b) (lines_of (placed (at + len_utf8 b) text)))
        ≡ placed_lines at (if t then (b ∷ []) ∷ byte_lines text else onto_first b (byte_lines text))
    go after true =
        let e : at + len_utf8 b ≡ at + 1 = omega (arith, len_utf8_ascii b (ascii 0)) in
        ap (λ l. (byte_char at b ∷ []) ∷ l) (after ∙ ap (λ n. placed_lines n (byte_lines text)) e)
    go after false = ap (onto_first (byte_char at b)) after ∙ sym (onto_placed at b (byte_lines text) (ascii 0))

without_dropped-ascii : (at : ℕ) (text : List ℕ) → IsAscii text → without_dropped (placed at text) ≡ placed at text
without_dropped-ascii at [] ascii = refl
without_dropped-ascii at (b ∷ text) ascii =
    cond-true (not (is_dropped b)) _ _ (every_below (λ d. not (is_dropped d)) 128 refl b (ascii 0))
    ∙ ap (λ l. byte_char at b ∷ l) (without_dropped-ascii (at + len_utf8 b) text (λ i. ascii (suc i)))

-- ---- a cut is no longer than its line

item_within : (rules : LineRules) (text : List ℕ) → item_length rules text ≤ length text
item_within rules text =
    let form = before_first is_whitespace text in
    let test = rules.items && is_item_form form && lets_item form (drop (length form) text) in
    ⊎_elim
    (λ yes. omega (arith, cond-true test (length form) 0 yes, length-take (position_or_len is_whitespace text) text))
    (λ none. omega (arith, cond-false test (length form) 0 none))
    (cases_Bool test)

cut_within : (rules : LineRules) (line : List ℕ) (cut : LineCut) → cut ≡ cut_of rules whole_line line → cut.lead + cut.item + cut.tail ≤ length line
cut_within rules line cut is =
    let lead = lead_length rules whole_line line in
    let rest = drop lead line in
    let item = item_after_lead rules whole_line rest in
    let left = drop item rest in
    let first : lead ≤ length line = greatest_le (λ n. is_sequence (is_lead_piece rules) (take n line)) (length line) in
    let second : item ≤ length rest = subst (λ l. item_length rules (rest ++ []) ≤ length l) (append-nil rest) (item_within rules (rest ++ [])) in
    let third : tail_length rules whole_line left ≤ length left =
    greatest_le (λ n. is_sequence (is_tail_piece rules) (drop (length left - n) left)) (length left) in
    omega (
      arith,
      ap (λ (c : LineCut). c.lead) is,
      ap (λ (c : LineCut). c.item) is,
      ap (λ (c : LineCut). c.tail) is,
      first,
      second,
      third,
      length-drop lead line,
      length-drop item rest,
    )

-- ---- line by line

module _ (rules : LineRules) (at : ℕ) (text : List ℕ) where
  lines_are : (lines : List (List ℕ)) (front : List Cell) (offset : ℕ) (known : Known) → offset ≡ length front → IsAscii (joined lines)
      → IsOfCells at text (front ++ map cell_of (placed (at + offset) (joined lines))) known
      → IsOfCells at text (front ++ flat_map (standing_line rules) (placed_lines (at + offset) lines)) (lines_blanked rules offset lines known)
  lines_are [] front offset known here ascii is = is
  lines_are (line ∷ lines) front offset known here ascii is =
      let rest = joined lines in
      let source = placed (at + offset) line in
      let following = placed (at + offset + length line) rest in
      let cut = cut_of rules whole_line line in
      let blanked_here : Known = edges_blanked cut offset (offset + length line) known in
      let long : length source ≡ length line = length-placed (at + offset) line in
      let fit : cut.lead + cut.item + cut.tail ≤ length source = omega (arith, long, cut_within rules line cut refl) in
      let parts : map cell_of (placed (at + offset) (line ++ rest)) ≡ map cell_of source ++ map cell_of following =
      ap (map cell_of) (placed-append (at + offset) line rest ascii) ∙ map-append cell_of source following in
      let next = front ++ standing cut source in
      let end : offset + length line ≡ length next =
      omega (arith, here, long, length-append front (standing cut source), length-standing cut source fit) in
      let sum : at + offset + length line ≡ at + (offset + length line) = omega arith in
      let this : IsOfCells at text (front ++ (standing cut source ++ map cell_of following)) blanked_here =
      edges_are cut source fit at text front (map cell_of following) known offset (offset + length line) here (omega (arith, here, long))
      (subst (λ l. IsOfCells at text (front ++ l) known) parts is) in
      let those : IsOfCells at text (next ++ map cell_of (placed (at + (offset + length line)) rest)) blanked_here =
      subst (λ l. IsOfCells at text l blanked_here)
      (sym (append_assoc front (standing cut source) (map cell_of following)) ∙ ap (λ n. next ++ map cell_of (placed n rest)) sum) this in
      let same : next ++ flat_map (standing_line rules) (placed_lines (at + (offset + length line)) lines)
      ≡ front ++ (standing_line rules source ++ flat_map (standing_line rules) (placed_lines (at + offset + length line) lines)) =
      append_assoc front (standing cut source) (flat_map (standing_line rules) (placed_lines (at + (offset + length line)) lines))
      ∙ ap (λ l. front ++ (standing (cut_of rules whole_line l) source ++ flat_map (standing_line rules) (placed_lines (at + (offset + length line)) lines)))
      (sym (chars_of-placed (at + offset) line))
      ∙ ap (λ n. front ++ (standing_line rules source ++ flat_map (standing_line rules) (placed_lines n lines))) (sym sum) in
      subst (λ l. IsOfCells at text l (lines_blanked rules (offset + length line) lines blanked_here)) same
      (lines_are lines next (offset + length line) blanked_here end (ascii_rest line rest ascii) those)

pub lines_tokens_are : (rules : LineRules) (at : ℕ) (text : List ℕ) → IsAscii text
    → span_tokens true at at (known_of text).letters (text_spans rules.separators at text (lines_blanked rules 0 (byte_lines text) (known_of text)))
    ≡ first_tokens (streaks_joined rules (cells_of rules (placed at text)))
lines_tokens_are rules at text ascii =
    let lines = byte_lines text in
    let known : Known = lines_blanked rules 0 lines (known_of text) in
    let whole : joined lines ≡ text = joined_again text in
    let here : at ≡ at + 0 = omega arith in
    let cells = flat_map (standing_line rules) (lines_of (placed at text)) in
    let each : IsOfCells at text (flat_map (standing_line rules) (placed_lines (at + 0) lines)) known =
    lines_are rules at text lines [] 0 (known_of text) refl (subst IsAscii (sym whole) ascii)
    (subst (λ l. IsOfCells at text l (known_of text)) (ap₂ (λ n l. map cell_of (placed n l)) here (sym whole)) (ascii_is at text ascii)) in
    let all : IsOfCells at text cells known =
    subst (λ l. IsOfCells at text l known)
    (ap (λ n. flat_map (standing_line rules) (placed_lines n lines)) (sym here)
    ∙ ap (flat_map (standing_line rules)) (sym (lines_placed at text ascii))) each in
    ap (λ l. span_tokens true at at l (text_spans rules.separators at text known)) (sym all.letters)
    ∙ tokens_of_cells at text cells known all rules true
    ∙ lines_found rules (lines_of (placed at text))
    ∙ ap (λ l. found rules (flat_map (line_cells rules whole_line) (lines_of l))) (sym (without_dropped-ascii at text ascii))

-- nothing of it makes a word character a mark
pub IsText-lines : (rules : LineRules) (n at : ℕ) (lines : List (List ℕ)) (known : Known) → IsText n known → IsText n (lines_blanked rules at lines known)
IsText-lines rules n at [] known is = is
IsText-lines rules n at (line ∷ lines) known is =
    let cut = cut_of rules whole_line line in
    let end = at + length line in
    IsText-lines rules n end lines (edges_blanked cut at end known)
    (IsText-blanked (end - cut.tail) end n _ (IsText-blanked at (at + (cut.lead + cut.item)) n known is))

pub letters-lines : (rules : LineRules) (at : ℕ) (lines : List (List ℕ)) (known : Known) → (lines_blanked rules at lines known).letters ≡ known.letters
letters-lines rules at [] known = refl
letters-lines rules at (line ∷ lines) known =
    letters-lines rules (at + length line) lines (edges_blanked (cut_of rules whole_line line) at (at + length line) known)

-- ---- the next line

module _ {A : Type 0} (ends : A → Bool) where
  first_part : (xs : List A) (m : ℕ) (d : A) → suc m ≤ length xs → ((i : ℕ) → i < m → ends (get_or xs i d) ≡ false)
      → (suc m < length xs → ends (get_or xs m d) ≡ true) → cut_after ends xs ≡ take (suc m) xs ∷ cut_after ends (drop (suc m) xs)
  first_part [] m d within inside last = absurd (omega arith)
  first_part (x ∷ []) (suc m) d within inside last = absurd (omega arith)
  first_part (x ∷ []) zero d within inside last = one (ends x)
    where
      one : (t : Bool) → (if t then (x ∷ []) ∷ [] else onto_first x []) ≡ (x ∷ []) ∷ []
      one true = refl
      one false = refl
  first_part (x ∷ y ∷ xs) zero d within inside last = cond-true (ends x) _ _ (last (omega arith))
  first_part (x ∷ y ∷ xs) (suc m) d within inside last =
      cond-false (ends x) _ _ (inside 0 (omega arith))
      ∙ ap (onto_first x) (first_part (y ∷ xs) m d (omega arith) (λ i lt. inside (suc i) (omega arith)) (λ lt. last (omega arith)))

-- from this offset to that is one line of the text
pub record IsNextLine (text : List ℕ) (at end : ℕ) : Type 0 where
  pub some : at < end
  pub within : end ≤ length text
  pub long : length (slice_range text at end) ≡ end - at
  pub line : byte_lines (drop at text) ≡ slice_range text at end ∷ byte_lines (drop end text)

module _ (text : List ℕ) (feed : List Bool) (at end : ℕ) (is : feed ≡ map is_feed text) (more : at < length text) (after : at ≤ end) (within : end ≤ length feed)
    (one : (k : ℕ) → at ≤ k → k + 1 < end → flag_at feed k ≡ false)
    (ended : end < length feed → (at < end) × (flag_at feed (end - 1) ≡ true)) where
  as_long : length feed ≡ length text
  as_long = ap length is ∙ length-map text is_feed

  some : at < end
  some = ⊎_elim (λ before. (ended before).0) (λ past. let p : length feed ≤ end = past in omega (arith, as_long)) (cases_lt end (length feed))

  abbrev count : ℕ
  count = end - at - 1

  size : suc count ≡ end - at
  size = omega (arith, some)

  feed_at : (i : ℕ) → i < length (drop at text) → is_feed (get_or (drop at text) i 0) ≡ flag_at feed (at + i)
  feed_at i lt =
      ap is_feed (get_or-drop at text i 0)
      ∙ sym (ap (λ f. flag_at f (at + i)) is ∙ get_or-map is_feed text (at + i) 0 false (omega (arith, length-drop at text)))

  pub next_line : IsNextLine text at end
  next_line =
      let rest = length-drop at text in
      let sum : at + suc count ≡ end = omega (arith, size, some) in
      record {
        some = some;
        within = omega (arith, as_long);
        long = length-take-le (end - at) (drop at text) (omega (arith, rest, as_long));
        line =
            first_part is_feed (drop at text) count 0 (omega (arith, rest, size, as_long))
            (λ i lt. feed_at i (omega (arith, rest, as_long)) ∙ one (at + i) (omega arith) (omega arith))
            (λ lt. let e : at + count ≡ end - 1 = omega (arith, some) in
            feed_at count (omega (arith, rest)) ∙ ap (flag_at feed) e ∙ (ended (omega (arith, rest, as_long, size))).1)
            ∙ ap₂ (λ n l. take n (drop at text) ∷ byte_lines l) size (drop-drop (suc count) at text ∙ ap (λ n. drop n text) sum);
      }

pub start_cleared : (rules : LineRules) (text : List ℕ) (known : Known) → IsAscii text → known ≡ known_of text → AreCleared rules text 0 known
start_cleared rules text known ascii is = record {
  within = omega arith;
  feed = ap (λ (k : Known). k.feed) is;
  word = ap (λ (k : Known). length k.word) is ∙ length-map text is_word;
  mark = ap (λ (k : Known). length k.mark) is ∙ length-map text is_mark;
  blank = λ k white. ap (λ known. is_dark known k) is ∙ white_is_blank text ascii k white;
  left = ap (lines_blanked rules 0 (byte_lines text)) is;
}

pub line_cleared : (rules : LineRules) (text : List ℕ) (at end : ℕ) (known new : Known) (cut : LineCut) → AreCleared rules text at known
    → IsNextLine text at end → cut ≡ cut_of rules whole_line (slice_range text at end) → new ≡ edges_blanked cut at end known
    → AreCleared rules text end new
line_cleared rules text at end known new cut are next is_cut is =
    let first = at + (cut.lead + cut.item) in
    let long : at + length (slice_range text at end) ≡ end = omega (arith, next.some, next.long) in
    record {
      within = next.within;
      feed = ap (λ (k : Known). k.feed) is ∙ are.feed;
      word = ap (λ (k : Known). length k.word) is ∙ length-cleared (end - cut.tail) end (cleared at first known.word)
          ∙ length-cleared at first known.word ∙ are.word;
      mark = ap (λ (k : Known). length k.mark) is ∙ length-cleared (end - cut.tail) end (cleared at first known.mark)
          ∙ length-cleared at first known.mark ∙ are.mark;
      blank = λ k white. ap (λ known. is_dark known k) is ∙ still_blank cut at end known k (are.blank k white);
      left = ap (lines_blanked rules end (byte_lines (drop end text))) (is ∙ ap (λ k. edges_blanked k at end known) is_cut)
          ∙ ap (λ n. lines_blanked rules n (byte_lines (drop end text)) (edges_blanked (cut_of rules whole_line (slice_range text at end)) at n known)) (sym long)
          ∙ ap (λ l. lines_blanked rules at l known) (sym next.line)
          ∙ are.left;
    }

pub all_cleared : (rules : LineRules) (text : List ℕ) (at : ℕ) (known : Known) → AreCleared rules text at known → length text ≤ at
    → known ≡ lines_blanked rules 0 (byte_lines text) (known_of text)
all_cleared rules text at known are past =
    ap (λ l. lines_blanked rules at (byte_lines l) known) (sym (drop_all at text past)) ∙ are.left

-- the white space of a line counts as blanks
pub line_blank : (rules : LineRules) (text : List ℕ) (at end : ℕ) (known : Known) → AreCleared rules text at known → IsNextLine text at end
    → AreBlank (slice_range text at end) at known
line_blank rules text at end known are next = record {
  spaces = λ i white. elim (cases_lt i (end - at)) [
    | inl inside ↦ are.blank (at + i)
        (ap is_whitespace (sym (get_or-take (end - at) (drop at text) i 0 inside ∙ get_or-drop at text i 0)) ∙ white)
    | inr past ↦ absurd (
        let none : get_or (slice_range text at end) i 0 ≡ 0 = get_or_past (slice_range text at end) i 0 (omega (arith, next.long)) in
        let e : false ≡ true = sym (ap is_whitespace none) ∙ white in
        cc)
  ];
}

-- the line is within what is known
pub line_within : (rules : LineRules) (text : List ℕ) (at end : ℕ) (known : Known) → AreCleared rules text at known → IsNextLine text at end
    → (at + length (slice_range text at end) ≤ length known.word) × (at + length (slice_range text at end) ≤ length known.mark)
line_within rules text at end known are next =
    (omega (arith, next.some, next.within, next.long, are.word), omega (arith, next.some, next.within, next.long, are.mark))
