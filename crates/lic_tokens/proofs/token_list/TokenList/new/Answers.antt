use Rattle.lic_tokens.proofs.EntryLemmas.{none_kept}
use Rattle.lic_tokens.proofs.token_list.TokenList.new.Goals as goal

pub invariant_of-result : goal.invariant_of-result
invariant_of-result c = none_kept c.new.result.items c.new-2.result c.new.ensures.items c.new-2.ensures
