-- The key of the texts so far.
use Rattle.std.proofs.Common.{◌≡◌, map, take, string_bytes}
use Rattle.lic_phrases.specs.PhraseLists.{key_of}
use Rattle.lic_phrases.proofs.phrases.key_of.Given as goal

abbrev pub invariant-loop-text : goal.invariant-loop-text
invariant-loop-text l = l.key.items ≡ key_of (map string_bytes (take l.text-index l.texts))
