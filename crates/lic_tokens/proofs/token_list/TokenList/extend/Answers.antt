use Rattle.std.proofs.Common.{sym, subst}
use Rattle.lic_phrases.specs.TokenTexts.{IsTokenText}
use Rattle.lic_tokens.proofs.ListedTokens.{given_text}
use Rattle.lic_tokens.proofs.token_list.TokenList.extend.Goals as goal

pub push-requires : goal.push-requires
push-requires c =
    subst IsTokenText (sym c.text_of.ensures)
    (given_text c.args.phrases.now.spellings c.args.settled.now c.loop-token.token-index c.token-item.result
    c.token-item.is c.loop-token-test.true c.requires.texts)
