use Rattle.std.proofs.Common.{ℕ, ◌<◌, []}
use Rattle.std.specs.Prelude.{slice_index_or}
use Rattle.lic_kind.specs.Beginnings.{IsKnown, Grows, bit_of}
use Rattle.lic_kind.specs.TextLists.{texts_of}
use Rattle.lic_kind.proofs.rules.beginnings.Beginnings.add_fronts.Given as goal

abbrev pub invariant-loop-i : goal.invariant-loop-i
invariant-loop-i l = record {
  known : (k : ℕ) → k < l.i → IsKnown l.self (bit_of l.from k) (slice_index_or (texts_of l.texts) k []);
  grows : Grows l.fn.self l.self;
}
