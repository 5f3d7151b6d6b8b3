use Rattle.std.proofs.Common.{◌≡◌, ◌+◌, [], length, take, drop}
use Rattle.lic_phrases.specs.Listed.{AreListed, phrases_in}
use Rattle.lic_phrases.specs.WordLists.{fault_from, first_fault, located, phrase_lines}
use Rattle.lic_phrases.specs.WordReading.{HasRead}
use Rattle.lic_phrases.proofs.words.reader.WordsReader.read_lines.Given as goal

abbrev pub invariant-loop-line : goal.invariant-loop-line
invariant-loop-line l = record {
  can_next : goal.iterator-loop-line.can_next l.line-iterator;
  finite : goal.iterator-loop-line.is_finite l.line-iterator;
  number : l.number ≡ length l.yielded;
  listed : AreListed l.self.keys.keys l.self.phrases.items l.self.heads.items;
  read : HasRead [] (take (length l.yielded) (phrase_lines l.text)) [] (phrases_in l.self.phrases.items) l.self.heads.items [];
  sound : first_fault l.text ≡ fault_from l.self.count (located (length l.yielded + 1) (drop (length l.yielded) (phrase_lines l.text)));
}
