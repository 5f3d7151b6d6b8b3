use Rattle.lic_tokens.proofs.EntryLemmas.{none_kept}
use Rattle.lic_tokens.proofs.token_list.TokenList.with_capacity.Goals as goal

pub invariant_of-result : goal.invariant_of-result
invariant_of-result c = none_kept c.in_ok-spelling.spelling.items c.in_ok-entries.entries c.in_ok-spelling.ensures.items c.in_ok-entries.ensures
