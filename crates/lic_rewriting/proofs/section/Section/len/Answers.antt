use Rattle.lic_rewriting.proofs.SectionTokens.{count}
use Rattle.lic_rewriting.proofs.section.Section.len.Goals as goal

pub returns : goal.returns
returns c = let s = c.self.inside in count s.at s.letters.now s.starts.now s.ends.now c.args.self.now c.self.invariant.are.paired c.self.view_is
