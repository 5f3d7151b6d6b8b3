use Rattle.std.proofs.Common.{◌≡◌, Bool, filter, subst}
use Rattle.lic_set.specs.declared.triple.Triple.{Triple}
use Rattle.lic_filters.specs.Filters.{SameMembers, is_tight}
use Rattle.lic_filters.proofs.filters.tight.Goals as goal

pub returns : goal.returns
returns c =
    subst (λ list. (p : Triple → Bool) → SameMembers c.in_ok-tight_members.field-0.items (filter p list) → c.keep_members.new.triples.items ≡ filter p list)
    c.in_ok-found.ensures.items c.keep_members.ensures (is_tight c.args.triples.now) c.in_ok-tight_members.ensures
