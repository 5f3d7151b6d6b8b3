use Rattle.std.proofs.Common.{◌≡◌, subst}
use Rattle.lic_filters.specs.Filters.{SameMembers, is_outer, outermost_of}
use Rattle.lic_filters.proofs.filters.outermost.Goals as goal

pub returns : goal.returns
returns c =
    let members = subst (λ list. SameMembers c.in_ok-members.members.items (outermost_of list)) c.deref.ensures.value c.in_ok-members.ensures in
    c.keep_members.ensures (is_outer c.args.tight.items) members
