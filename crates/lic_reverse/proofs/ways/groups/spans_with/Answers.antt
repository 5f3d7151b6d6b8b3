-- One entry more, and then all of them.
use Rattle.std.proofs.Common.{◌+◌, ◌∙◌, ap, subst, sym}
use Rattle.lic_reverse.proofs.LetterGroupLemmas.{AreWith, with-all, with-more, with-none, with-skip}
use Rattle.lic_reverse.proofs.ways.groups.spans_with.Goals as goal
use Rattle.lic_reverse.proofs.ways.groups.spans_with.Goals.{then-entry-hash+in_ok-push, else-entry-hash}

pub loop-entry-init : goal.loop-entry-init
loop-entry-init c = with-none c.args.hash c.args.entries.now c.new-found.result.items c.new-found.ensures.items

pub loop-entry-preserved : goal.loop-entry-preserved
loop-entry-preserved c =
    let entries = c.args.entries.now in
    let i = c.loop-entry.entry-index in
    elim c.if-entry-hash.branch [
      | then-entry-hash+in_ok-push w ↦
          with-more c.args.hash entries i _ c.loop-entry.found.items c.if-entry-hash.found.items c.loop-entry-test.true c.loop-entry.invariant
          w.if-entry-hash.true (ap (λ v. v.items) w.found-is ∙ w.in_ok-push.ensures.items)
      | else-entry-hash w ↦
          subst (λ v. AreWith c.args.hash entries (i + 1) v.items) (sym w.found-is)
          (with-skip c.args.hash entries i _ c.loop-entry.found.items c.loop-entry-test.true c.loop-entry.invariant w.if-entry-hash.false)
    ]

pub returns : goal.returns
returns c = with-all c.args.hash c.args.entries.now c.loop-entry.entry-index c.loop-entry.found.items c.loop-entry-test.false c.loop-entry.invariant
