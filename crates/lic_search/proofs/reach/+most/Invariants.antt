-- The most bytes that a word of the parts so far takes.
use Rattle.std.proofs.Common.{◌<◌, map, take}
use Rattle.lic_markup.specs.Meaning.{parts_words}
use Rattle.lic_markup.specs.Parts.{part_of}
use Rattle.lic_search.specs.Ends.{TakesAtMost}
use Rattle.lic_search.proofs.reach.+most.Given as goal

abbrev pub invariant-most_bytes-loop-part : goal.invariant-most_bytes-loop-part
invariant-most_bytes-loop-part l = l.most < 18446744073709551615 → TakesAtMost (parts_words (map part_of (take l.part-index l.parts))) l.most
