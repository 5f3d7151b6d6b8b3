use Rattle.std.proofs.Common.{◌≡◌, ℕ, ◌+◌, ◌≤◌, ◌<◌, false, [], length, get_or}
use Rattle.std.specs.Prelude.{reverse, slice_index_or}
use Rattle.lic_trim.specs.Sources.{chars_of}
use Rattle.lic_kind.specs.LineRules.{texts_of}
use Rattle.lic_trim.specs.Walks.{repeat_ends}
use Rattle.lic_trim.proofs.sequences.step_texts.Given as goal

abbrev pub invariant-loop-i : goal.invariant-loop-i
invariant-loop-i l = record {
  count : length l.repeating ≡ length (texts_of l.texts);
  moved : (j : ℕ) → j < l.i → get_or l.repeating j false ≡ repeat_ends l.flags (reverse (chars_of l.line)) (l.k + 1) (slice_index_or (texts_of l.texts) j []);
  still : (j : ℕ) → l.i ≤ j → j < length (texts_of l.texts)
      → get_or l.repeating j false
      ≡ repeat_ends l.flags (reverse (chars_of l.line)) l.k (slice_index_or (texts_of l.texts) j []);
}
