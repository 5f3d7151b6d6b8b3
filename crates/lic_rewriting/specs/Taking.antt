-- What a rewriting has taken, and what it has listed of it.
use Rattle.std.specs.Prelude.{◌≡◌, ◌++◌, ℕ, List, drop, map}
use Rattle.lic_lines.specs.Tokens.{Token, single_signs}
use Rattle.lic_phrases.specs.PhraseLists.{PhraseList}
use Rattle.lic_phrases.specs.Rewriting.{SpannedText}
use Rattle.lic_phrases.specs.Settling.{Settles}
use Rattle.lic_phrases.specs.TokenTexts.{HaveTokenTexts}
use Rattle.lic_tokens.specs.Tokens.{HaveTexts, TokenValue, reported}
use Rattle.lic_rewriting.specs.declared.rewriting.Rewriting.{Rewriting}

-- the phrases by which it rewrites
abbrev pub phrases_of : Rewriting → PhraseList
phrases_of rewriting = rewriting.phrases.now

-- the tokens that it has listed
abbrev pub listed_by : Rewriting → List TokenValue
listed_by rewriting = rewriting.tokens

-- These tokens have been taken: those that are settled are listed, and the rewriter keeps the others. The texts of all are such as
-- tokens have.
pub record HasTaken (rewriting : Rewriting) (taken : List Token) : Type 0 where
  pub settled : List SpannedText
  pub settles : Settles rewriting.phrases.now.phrases taken settled rewriting.rewriter
  pub listed : rewriting.tokens ≡ map reported settled
  pub known : HaveTokenTexts rewriting.phrases.now.phrases
  pub texts : HaveTexts taken

-- Of these tokens those from the number `i` on and before the number `next` have been taken, each copyright sign as one.
abbrev pub HasTakenUpTo : List Token → ℕ → ℕ → Rewriting → Rewriting → Type 0
HasTakenUpTo tokens i next before after =
    (taken : List Token) → HasTaken before taken → (front : List Token) × HasTaken after (taken ++ front)
    × (front ++ single_signs (drop next tokens) ≡ single_signs (drop i tokens))

-- some tokens have been taken, or none yet
pub record HasTakenSome (rewriting : Rewriting) : Type 0 where
  pub taken : List Token
  pub has : HasTaken rewriting taken
