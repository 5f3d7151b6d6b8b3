use Rattle.std.proofs.Common.{◌≡◌, length, take}
use Rattle.lic_phrases.specs.Listed.{phrases_in, spellings_in, with_representatives}
use Rattle.lic_phrases.proofs.words.with_representatives.Given as goal

abbrev pub invariant-loop-phrase : goal.invariant-loop-phrase
invariant-loop-phrase l = record {
  classes : l.phrases.spellings ≡ take (length l.yielded) (spellings_in l.fn.listed.items);
  words : l.phrases.phrases ≡ take (length l.yielded) (with_representatives (phrases_in l.fn.listed.items) (spellings_in l.fn.listed.items) l.heads);
}
