-- The letters so far and those that are left.
use Rattle.std.proofs.Common.{◌≡◌, ◌+◌, ◌≤◌, drop, length}
use Rattle.std.specs.Str.{chars}
use Rattle.lic_words.specs.Letters.{letters_in}
use Rattle.lic_vars.proofs.letters.letter_count.Given as goal

abbrev pub invariant-loop-c : goal.invariant-loop-c
invariant-loop-c l = record {
  counts : l.count + letters_in (drop (length l.yielded) (chars l.text)) ≡ letters_in (chars l.text);
  small : l.count ≤ length l.yielded;
}
