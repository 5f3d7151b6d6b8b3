use Rattle.std.proofs.Common.{◌++◌, length, ap, arith}
use Rattle.lic_tokens.proofs.EntriesBy.{length-entries_by}
use Rattle.lic_tokens.proofs.entries.Entries.len.Goals as goal

pub returns : goal.returns
returns c =
    omega (
      arith,
      c.len.ensures,
      c.self.inside.sources.ok,
      length-entries_by (c.self.inside.near.items ++ c.self.inside.far.items) c.self.inside.sources.items c.self.invariant.0,
      ap length c.self.view_is,
    )
