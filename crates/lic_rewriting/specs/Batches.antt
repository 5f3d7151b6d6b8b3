-- Tokens that are spelled together before they are added to a list.
use Rattle.std.specs.Prelude.{◌≡◌, ℕ, ◌+◌, ◌*◌, ◌≤◌, List, ◌++◌, take, IsUtf8}
use Rattle.lic_lines.specs.Tokens.{Token}
use Rattle.lic_phrases.specs.Spelling.{ends_in_word, spelled}
use Rattle.lic_tokens.specs.Places.{texts_of}
use Rattle.lic_rewriting.specs.Taking.{HasTakenUpTo}
use Rattle.lic_tokens.specs.Tokens.{TokenValue}
use Rattle.lic_tokens.specs.Entries.{AreSpelledAfter, Entry, entries_by}
use Rattle.lic_rewriting.specs.declared.rewriting.Rewriting.{Rewriting}
use Rattle.lic_rewriting.specs.declared.rewriting.batch.Batch.{Batch}
use Rattle.lic_rewriting.specs.declared.rewriting.batch.Spelled.{Spelled}

-- Of these tokens those from the number `i` on and before the number `next` are; once they are in its list, the rewriting has taken them.
pub record HasSpelledUpTo (tokens : List Token) (i next : ℕ) (rewriting : Rewriting) (bytes : List ℕ) (entries : List Entry) : Type 0 where
  pub added : List TokenValue
  pub spelled : AreSpelledAfter rewriting.tokens added bytes entries
  pub taken : HasTakenUpTo tokens i next rewriting (record rewriting { tokens = rewriting.tokens ++ added })

-- the tokens from the number `i` on are in a batch, as far as they are spelled there, each in at most 33 bytes
pub record AreInBatch (tokens : List Token) (i : ℕ) (rewriting : Rewriting) (batch : Batch) (state : Spelled) : Type 0 where
  pub short : state.offset ≤ 33 * state.count
  pub utf8 : IsUtf8 (spelled (texts_of rewriting.tokens))
  pub holds : HasSpelledUpTo tokens i (i + state.count) rewriting (take state.offset batch.bytes)
      (entries_by (take state.count batch.ends) (take state.count batch.sources))
  pub word : state.after_word ≡ ends_in_word (spelled (texts_of rewriting.tokens) ++ take state.offset batch.bytes)
