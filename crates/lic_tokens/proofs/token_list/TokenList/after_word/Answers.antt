use Rattle.std.proofs.Common.{ap, subst, ◌∙◌}
use Rattle.std.specs.Str.{IsUtf8}
use Rattle.lic_phrases.specs.Spelling.{ends_in_word, spelled}
use Rattle.lic_tokens.specs.Places.{texts_of}
use Rattle.lic_tokens.proofs.EntryLemmas.{kept_utf8}
use Rattle.lic_tokens.proofs.token_list.TokenList.after_word.Goals as goal

pub returns-clause-word : goal.returns-clause-word
returns-clause-word c =
    c.self.invariant.1 ∙ ap ends_in_word (c.self.invariant.0.spells ∙ ap (λ ts. spelled (texts_of ts)) c.self.view_is)

pub returns-clause-utf8 : goal.returns-clause-utf8
returns-clause-utf8 c =
    subst IsUtf8 (c.self.invariant.0.spells ∙ ap (λ ts. spelled (texts_of ts)) c.self.view_is)
    (kept_utf8 c.self.inside.spelling.items c.self.inside.entries _ c.self.invariant.0)
