use Rattle.std.proofs.Common.{length, ap, arith}
use Rattle.lic_tokens.proofs.EntryLemmas.{AreEntries-length}
use Rattle.lic_tokens.proofs.token_list.TokenList.len.Goals as goal

pub returns : goal.returns
returns c = omega (arith, c.len.ensures, AreEntries-length _ _ _ c.self.invariant.0.each, ap length c.self.view_is)
