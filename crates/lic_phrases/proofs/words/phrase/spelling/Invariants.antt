use Rattle.std.proofs.Common.{◌≡◌, take, string_bytes}
use Rattle.lic_phrases.specs.Keys.{texts_in}
use Rattle.lic_phrases.specs.Spelling.{spelled}
use Rattle.lic_phrases.proofs.words.phrase.spelling.Given as goal

abbrev pub invariant-loop-index : goal.invariant-loop-index
invariant-loop-index l = string_bytes l.spelling ≡ spelled (take l.index (texts_in l.texts))
