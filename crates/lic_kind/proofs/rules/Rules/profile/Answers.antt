use Rattle.std.proofs.Common.{refl}
use Rattle.std.specs.Str.{chars}
use Rattle.lic_kind.proofs.rules.Rules.profile.Goals as goal

pub fixed-requires : goal.fixed-requires
unfolding chars
fixed-requires c = refl

pub fixed-requires-2 : goal.fixed-requires-2
unfolding chars
fixed-requires-2 c = refl

pub fixed-requires-3 : goal.fixed-requires-3
unfolding chars
fixed-requires-3 c = refl

pub fixed-requires-4 : goal.fixed-requires-4
unfolding chars
fixed-requires-4 c = refl

pub fixed-requires-5 : goal.fixed-requires-5
unfolding chars
fixed-requires-5 c = refl
