use Rattle.std.proofs.Common.{◌≡◌, length, take}
use Rattle.lic_kind.specs.RuleFiles.{AreSound, lines_of, rules_in, texts_before}
use Rattle.lic_kind.specs.RuleReading.{rules_read}
use Rattle.lic_kind.proofs.rules.Rules.read.Given as goal

abbrev pub invariant-loop-line : goal.invariant-loop-line
invariant-loop-line l = record {
  can_next : goal.iterator-loop-line.can_next l.line-iterator;
  finite : goal.iterator-loop-line.is_finite l.line-iterator;
  number : l.number ≡ length l.yielded;
  count : l.reader.count ≡ texts_before (take (length l.yielded) (lines_of l.text));
  rules : rules_read l.reader ≡ rules_in (take (length l.yielded) (lines_of l.text));
  sound : AreSound (lines_of l.text) (length l.yielded);
}
