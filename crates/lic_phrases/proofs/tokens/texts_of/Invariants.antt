-- The texts of the tokens so far.
use Rattle.std.proofs.Common.{◌≡◌, map, take}
use Rattle.lic_phrases.specs.Keys.{texts_in}
use Rattle.lic_phrases.specs.Waiting.{spanned_in}
use Rattle.lic_phrases.proofs.tokens.texts_of.Given as goal

abbrev pub invariant-loop-token : goal.invariant-loop-token
invariant-loop-token l = texts_in l.texts.items ≡ map (λ t. (spanned_in l.phrases.spellings t).text) (take l.token-index l.tokens)
