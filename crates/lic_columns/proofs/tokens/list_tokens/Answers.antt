use Rattle.std.proofs.Common.{◌≡◌, ℕ, ◌+◌, ◌*◌, ◌≤◌, ◌++◌, ◌∷◌, false, length, refl, ap, ◌∙◌, arith, rules}
use Rattle.lic_columns.specs.Cells.{cells_of, firsts, lasts, spans, starts_of, ends_of}
use Rattle.lic_columns.specs.Cells.{Blank}
use Rattle.lic_columns.specs.Flags.{bits_of}
use Rattle.lic_columns.specs.Marks.{joined_marks, kept_in}
use Rattle.lic_columns.specs.Masks.{IsColumn}
use Rattle.lic_columns.specs.Offsets.{offsets}
use Rattle.lic_letters.proofs.BitLemmas.{has_bit_zero}
use Rattle.lic_columns.proofs.CellLemmas.{length-cells, length-firsts, length-lasts}
use Rattle.lic_columns.proofs.ColumnLemmas.{ends_before}
use Rattle.lic_columns.proofs.Listed.{one_column_more, starts_listed, ends_listed}
use Rattle.lic_columns.proofs.TextLemmas.{text_is, text_has_cells}
use Rattle.lic_columns.proofs.tokens.list_tokens.Goals as goal

pub loop-k-init : goal.loop-k-init
loop-k-init c = record {
  cells = text_has_cells (length c.args.bytes.now) c.args.columns.now c.requires.text c.args.separators c.args.bytes.now c.word-words.result.now c.mark-marks.result.now
      c.letters-letters.result.now c.word-words.ensures c.mark-marks.ensures c.letters-letters.ensures;
  starts = c.start.ensures;
  ends = c.start-2.ensures;
  carried = c.start-carried.ensures c.args.separators c.args.bytes.now c.letters-letters.result.now c.mark-marks.result.now;
  mark = record { bit = c.column-mark.ensures };
  before = record { last = has_bit_zero 63 };
  kept = record { last = has_bit_zero 63 };
}

pub loop-k-preserved : goal.loop-k-preserved
loop-k-preserved c =
    let is = c.loop-k.invariant in
    let words = c.word-words.result.now in
    let kept = kept_in c.args.separators c.args.bytes.now c.mark-marks.result.now in
    let joined = joined_marks c.letters-letters.result.now kept in
    let at : ℕ = c.args.at in
    let k : ℕ = c.loop-k.k in
    let cells = cells_of words kept joined in
    let here = c.next-here.ensures in
    let word : IsColumn c.column-word.result words k = record { bit = c.column-word.ensures } in
    let first = c.first_offsets.ensures words kept joined k is.cells is.before word here.kept here.joined in
    let end = c.end_offsets.ensures words kept joined k is.cells is.before word is.kept here.kept here.joined in
    let long : length words ≡ length c.args.bytes.now = ap length c.word-words.ensures ∙ c.requires.text.whole.word in
    let bounded : k * 64 ≤ length cells = omega (arith, length-cells words kept joined is.cells, long, c.loop-k-test.true) in
    let start_more : c.put.new.self ≡ c.loop-k.starts ++ offsets (at + k * 64) (bits_of 64 c.first_offsets.result) = search rules in
    let end_more : c.put-in-loop-k.new.self ≡ c.loop-k.ends ++ offsets (at + k * 64) (bits_of 64 c.end_offsets.result) = search rules in
    record {
      cells = is.cells;
      starts = one_column_more _ _ at k (at + k * 64) c.first_offsets.result (firsts Blank cells) is.starts refl start_more (omega (arith, bounded, length-firsts Blank cells)) first;
      ends = one_column_more _ _ at k (at + k * 64) c.end_offsets.result (false ∷ lasts cells) is.ends refl end_more (omega (arith, bounded, length-lasts cells)) end;
      carried = here.carried;
      mark = record { bit = c.column-after.ensures };
      before = ends_before c.column-word.result k words word;
      kept = ends_before c.next-here.result.kept k kept here.kept;
    }

pub returns-clause-starts : goal.returns-clause-starts
returns-clause-starts c =
    let is = c.loop-k.invariant in
    let words = c.word-words.result.now in
    let kept = kept_in c.args.separators c.args.bytes.now c.mark-marks.result.now in
    let joined = joined_marks c.letters-letters.result.now kept in
    let at : ℕ = c.args.at in
    let k : ℕ = c.loop-k.k in
    let long : length words ≡ length c.args.bytes.now = ap length c.word-words.ensures ∙ c.requires.text.whole.word in
    is.starts ∙ starts_listed at words kept joined is.cells (k * 64) (omega (arith, long, c.loop-k-test.false))
    ∙ ap (λ l. starts_of (spans at l))
    (text_is (length c.args.bytes.now) c.args.columns.now c.requires.text c.args.separators c.args.bytes.now words c.mark-marks.result.now
    c.letters-letters.result.now c.word-words.ensures c.mark-marks.ensures c.letters-letters.ensures)

pub returns-clause-ends : goal.returns-clause-ends
returns-clause-ends c =
    let is = c.loop-k.invariant in
    let words = c.word-words.result.now in
    let kept = kept_in c.args.separators c.args.bytes.now c.mark-marks.result.now in
    let joined = joined_marks c.letters-letters.result.now kept in
    let at : ℕ = c.args.at in
    let k : ℕ = c.loop-k.k in
    let long : length words ≡ length c.args.bytes.now = ap length c.word-words.ensures ∙ c.requires.text.whole.word in
    is.ends ∙ ends_listed at words kept joined is.cells (k * 64) (omega (arith, long, c.loop-k-test.false))
    ∙ ap (λ l. ends_of (spans at l))
    (text_is (length c.args.bytes.now) c.args.columns.now c.requires.text c.args.separators c.args.bytes.now words c.mark-marks.result.now
    c.letters-letters.result.now c.word-words.ensures c.mark-marks.ensures c.letters-letters.ensures)
