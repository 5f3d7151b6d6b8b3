use Rattle.lic_tokens.proofs.EntryLemmas.{none_kept}
use Rattle.lic_tokens.proofs.token_list.TokenList.clear.Goals as goal

pub invariant_of-self : goal.invariant_of-self
invariant_of-self c = none_kept c.clear.new.self.items c.clear-2.new.self c.clear.ensures.items c.clear-2.ensures
