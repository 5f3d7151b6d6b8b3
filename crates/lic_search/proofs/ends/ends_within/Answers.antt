-- One place more, and then all.
use Rattle.std.proofs.Common.{◌≤◌, length, ap, arith, subst, sym}
use Rattle.lic_places.specs.Places.{spelling_of}
use Rattle.lic_view.proofs.ViewPlaces.{end-within}
use Rattle.lic_search.proofs.ReachBounds.{most_number}
use Rattle.lic_search.proofs.EndLists.{ListsEndsAfter, listed-all, listed-more, listed-none}
use Rattle.lic_search.proofs.ends.ends_within.Goals as goal

pub loop-place-init : goal.loop-place-init
loop-place-init c =
    subst (ListsEndsAfter c.args.view.now c.args.places.now c.args.most 0 0) (sym c.new-ends.ensures.items)
    (listed-none c.args.view.now c.args.places.now c.args.most)

pub loop-place-preserved : goal.loop-place-preserved
loop-place-preserved c =
    let tokens = c.args.view.now in
    let size : length (spelling_of tokens) ≤ most_number =
    omega (arith, ap length c.bytes-length.ensures, c.bytes-length.type_inv.0, c.bytes-length.type_inv.1) in
    listed-more tokens c.args.places.now c.args.most c.loop-place.place-index c.loop-place.next c.first_from-first.result c.in_ok-next.next
    c.saturating_add.result most_number c.loop-place.ends.items c.add_ends.new.ends.items c.requires c.loop-place-test.true c.loop-place.invariant
    c.first_from-first.ensures.from (λ last within. omega (arith, end-within tokens last within)) c.saturating_add.ensures c.in_ok-next.ensures.added c.in_ok-next.ensures.after

pub returns-clause-all : goal.returns-clause-all
returns-clause-all c =
    listed-all c.args.view.now c.args.places.now c.args.most c.loop-place.place-index c.loop-place.next c.loop-place.ends.items c.loop-place-test.false c.loop-place.invariant
