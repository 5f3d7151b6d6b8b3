use Rattle.std.proofs.Common.{refl}
use Rattle.lic_reverse.proofs.KnownStreaks.{longest-joined}
use Rattle.lic_reverse.proofs.letters.streak.joined.Goals as goal

pub returns-clause-longest : goal.returns-clause-longest
returns-clause-longest c = λ passes longest back meets.
    longest-joined c.args.bytes.now passes c.args.count c.saturating_sub-many.result c.args.first c.args.second _ longest back meets
    c.saturating_sub-many.ensures (c.shortened.ensures passes) refl refl
