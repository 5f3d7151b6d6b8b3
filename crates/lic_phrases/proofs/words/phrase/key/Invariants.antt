use Rattle.std.proofs.Common.{◌≡◌, take, string_bytes}
use Rattle.lic_phrases.specs.Keys.{key_of, texts_in}
use Rattle.lic_phrases.proofs.words.phrase.key.Given as goal

abbrev pub invariant-loop-text : goal.invariant-loop-text
invariant-loop-text l = string_bytes l.key ≡ key_of (take l.text-index (texts_in l.texts))
