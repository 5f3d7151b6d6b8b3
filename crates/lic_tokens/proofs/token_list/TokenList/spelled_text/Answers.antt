use Rattle.std.proofs.Common.{sym, subst}
use Rattle.std.specs.Str.{IsUtf8}
use Rattle.lic_tokens.proofs.EntryLemmas.{kept_utf8}
use Rattle.lic_tokens.proofs.token_list.TokenList.spelled_text.Goals as goal

pub utf8_text-requires : goal.utf8_text-requires
utf8_text-requires c =
    subst IsUtf8 (sym c.deref.ensures.value) (kept_utf8 c.self.inside.spelling.items c.self.inside.entries _ c.self.invariant.0)
