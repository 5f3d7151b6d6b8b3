-- One list more without an entry.
use Rattle.std.proofs.Common.{◌≡◌, ◌∙◌, ap, arith, length}
use Rattle.std.proofs.lemmas.List.{length_push}
use Rattle.lic_reverse.proofs.LetterGroupLemmas.{empty-first, empty-more, empty-none}
use Rattle.lic_reverse.proofs.ways.groups.empty_lists.Goals as goal

pub loop-init : goal.loop-init
loop-init c = record { count = ap length c.in_ok-lists.ensures.items; none = empty-first c.in_ok-lists.lists.items c.in_ok-lists.ensures.items }

pub loop-preserved : goal.loop-preserved
loop-preserved c =
    let size = ap length c.in_ok-push.ensures.items ∙ length_push c.loop.lists.items c.new.result in
    let count : length c.loop.lists.items ≡ c.loop.counter = c.loop.invariant.count in
    record {
      count = omega (arith, size, count);
      none = empty-more c.loop.lists.items c.push.new.self.items c.new.result c.new.ensures.items c.in_ok-push.ensures.items c.loop.invariant.none;
    }

pub returns-clause-none : goal.returns-clause-none
returns-clause-none c = empty-none c.loop.lists.items c.loop.invariant.none
