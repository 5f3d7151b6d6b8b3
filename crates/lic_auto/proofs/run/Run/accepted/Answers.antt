use Rattle.std.proofs.Common.{◌≡◌, Some, None, length, refl, sym, ap, ◌∙◌, arith}
use Rattle.std.specs.List.{slice_get}
use Rattle.std.proofs.lemmas.Bool.{false≢true}
use Rattle.std.proofs.lemmas.Option.{slice_get_read}
use Rattle.lic_auto.proofs.PickedLemmas.{IsLeastDescribing-of}
use Rattle.lic_auto.proofs.Accepting.{FailBefore-more, accepts_first, none_accepts}
use Rattle.lic_auto.proofs.run.Run.accepted.Goals as goal
use Rattle.lic_auto.proofs.run.Run.accepted.Goals.{else-run-from-via-then-run-from+else-accepts, else-run-from-via-else-run-from}

pub returns-then-accepts-clause-among : goal.returns-then-accepts-clause-among
returns-then-accepts-clause-among c = λ numbers ts s.
    let self = c.args.self.now in
    let i = c.loop-run.run-index in
    let run = c.run-item.result in
    let here : slice_get self.runs.items i ≡ Some run = ap (λ rs. slice_get rs i) (sym c.deref-run-items.ensures.value)
    ∙ slice_get_read c.deref-run-items.result.now _ i run refl c.loop-run-test.true c.run-item.is in
    accepts_first self.set.now self.runs.items numbers ts s.some s.runs self.rising c.args.from i run here c.if-run-from.true c.loop-run.invariant
    (c.accepts.ensures.live c.if-accepts.true) (λ e us follows. (c.accepts.ensures.described e us follows).0 c.if-accepts.true)

pub returns-then-accepts-clause-least : goal.returns-then-accepts-clause-least
returns-then-accepts-clause-least c = λ ts s. returns-then-accepts-clause-among c _ ts s

pub returns-then-accepts-clause-all : goal.returns-then-accepts-clause-all
returns-then-accepts-clause-all c = λ ts s others.
    IsLeastDescribing-of c.args.self.now.set.now _ ts c.args.from (Some c.run-item.result.number) (returns-then-accepts-clause-least c ts s) others

pub loop-run-preserved : goal.loop-run-preserved
loop-run-preserved c =
    let runs = c.args.self.now.runs.items in
    let i = c.loop-run.run-index in
    let here : slice_get runs i ≡ Some c.run-item.result = ap (λ rs. slice_get rs i) (sym c.deref-run-items.ensures.value)
    ∙ slice_get_read c.deref-run-items.result.now _ i c.run-item.result refl c.loop-run-test.true c.run-item.is in
    FailBefore-more runs c.args.from i c.run-item.result here c.loop-run.invariant
    (elim c.else-run-from.branch [
      | else-run-from-via-then-run-from+else-accepts w ↦ λ from e ts follows described.
          false≢true (sym w.if-accepts.false ∙ (w.accepts.ensures.described e ts follows).1 described)
      | else-run-from-via-else-run-from w ↦ λ from e ts follows described. omega (arith, w.if-run-from.false, from)
    ])

pub returns-clause-among : goal.returns-clause-among
returns-clause-among c = λ numbers ts s.
    let self = c.args.self.now in
    none_accepts self.set.now self.runs.items numbers ts s.some s.runs self.rising c.args.from c.loop-run.run-index
    (omega (arith, c.loop-run-test.false, ap length c.deref-run-items.ensures.value)) c.loop-run.invariant

pub returns-clause-least : goal.returns-clause-least
returns-clause-least c = λ ts s. returns-clause-among c _ ts s

pub returns-clause-all : goal.returns-clause-all
returns-clause-all c = λ ts s others.
    IsLeastDescribing-of c.args.self.now.set.now _ ts c.args.from None (returns-clause-least c ts s) others
