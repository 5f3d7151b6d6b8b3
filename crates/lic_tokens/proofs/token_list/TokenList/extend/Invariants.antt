use Rattle.std.proofs.Common.{◌≡◌, ◌++◌, map, take}
use Rattle.lic_phrases.specs.Waiting.{spanned_in}
use Rattle.lic_tokens.specs.Tokens.{reported}
use Rattle.lic_tokens.proofs.token_list.TokenList.extend.Given as goal

abbrev pub invariant-loop-token : goal.invariant-loop-token
invariant-loop-token l = l.self ≡ l.fn.self ++ map reported (map (spanned_in l.phrases.spellings) (take l.token-index l.settled))
