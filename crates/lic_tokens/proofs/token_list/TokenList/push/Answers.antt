use Rattle.std.proofs.Common.{◌≡◌, ℕ, ◌++◌, ◌∷◌, [], List, ap, sym, subst, ◌∙◌}
use Rattle.std.specs.Prelude.{OnOk, IsUtf8}
use Rattle.lic_phrases.specs.Spelling.{begins_in_word, ends_in_word}
use Rattle.lic_phrases.specs.TokenTexts.{IsTokenText}
use Rattle.lic_tokens.proofs.token_list.TokenList.push.Goals as goal

pub push_bytes-requires-clause-text : goal.push_bytes-requires-clause-text
push_bytes-requires-clause-text c = subst IsTokenText (sym c.as_bytes.ensures.value) c.requires

pub push_bytes-requires-clause-utf8 : goal.push_bytes-requires-clause-utf8
push_bytes-requires-clause-utf8 c = subst IsUtf8 (sym c.as_bytes.ensures.value) c.utf8.text

pub push_bytes-requires-clause-begins : goal.push_bytes-requires-clause-begins
push_bytes-requires-clause-begins c = c.begins_word.ensures ∙ ap begins_in_word (sym c.as_bytes.ensures.value)

pub push_bytes-requires-clause-ends : goal.push_bytes-requires-clause-ends
push_bytes-requires-clause-ends c = c.ends_word.ensures ∙ ap ends_in_word (sym c.as_bytes.ensures.value)

pub returns : goal.returns
returns c =
    subst (λ (l : List ℕ). OnOk c.push_bytes.result (c.push_bytes.new.self
    ≡ c.args.self.now ++ (record { text = l; span = record { start = c.args.start; end = c.args.end } }) ∷ []))
    c.as_bytes.ensures.value c.push_bytes.ensures
