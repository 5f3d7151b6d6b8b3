use Rattle.std.proofs.Common.{◌<◌, ◌≤◌, ◌+◌, ◌*◌, length, ap, ◌∙◌, rules}
use Rattle.std.proofs.lemmas.List.{get_or_read}
use Rattle.lic_columns.specs.Masks.{flag_at}
use Rattle.lic_columns.proofs.FlagLemmas.{column_is, no_column}
use Rattle.lic_columns.proofs.flags.Flags.column.Goals as goal
use Rattle.lic_trim.specs.PieceLengths.{has_bit}

pub returns-then-k-len : goal.returns-then-k-len
returns-then-k-len c = λ i small.
    let columns = c.self.inside.columns.items in
    let inside : c.args.k < length columns = search rules in
    ap (λ m. has_bit m i) (get_or_read columns c.args.k c.index.result.now inside c.index.ensures 0)
    ∙ column_is c.self.inside.len columns c.self.invariant.1 c.args.k i small
    ∙ ap (λ l. flag_at l (c.args.k * 64 + i)) c.self.view_is

pub returns-else-k-len : goal.returns-else-k-len
returns-else-k-len c = λ i small.
    let columns = c.self.inside.columns.items in
    let past : length columns ≤ c.args.k = search rules in
    no_column c.self.inside.len columns c.self.invariant.1 c.args.k i small past
    ∙ ap (λ l. flag_at l (c.args.k * 64 + i)) c.self.view_is
