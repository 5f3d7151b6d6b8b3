use Rattle.std.proofs.Common.{◌≡◌, ◌<◌, ◌++◌, ◌∷◌, ◌+◌, ◌↔◌, [], Some, length, take, refl, sym, ap, ◌∙◌, subst, arith}
use Rattle.std.specs.List.{slice_get, Contains}
use Rattle.std.proofs.lemmas.List.{take_more_set, length-set}
use Rattle.std.proofs.lemmas.Option.{slice_get_read}
use Rattle.lic_auto.specs.TemplateBacks.{IsFoundBefore}
use Rattle.lic_auto.proofs.Gathered.{AreGathered, Gathered-skip, Gathered-add}
use Rattle.lic_auto.proofs.template_backs.gather_live.Goals as goal
use Rattle.lic_auto.proofs.template_backs.gather_live.Goals.{then-accepts, else-accepts}

pub loop-one-preserved : goal.loop-one-preserved
loop-one-preserved c =
    let backs = c.args.backs.now in
    let i = c.loop-one.one-index in
    let live = c.loop-one.live in
    let count = c.loop-one.count in
    let s = c.one-item.result in
    let here : slice_get backs i ≡ Some s = slice_get_read backs _ i s refl (omega (arith, c.loop-one-test.true)) c.one-item.is in
    let invariant = c.loop-one.invariant in
    elim c.if-accepts.branch [
      | then-accepts w ↦
          let fits : count < length live = omega (arith, invariant.few, invariant.size, c.requires, c.loop-one-test.true) in
          let first : take c.if-accepts.count c.if-accepts.live ≡ take count live ++ s.number ∷ [] =
          rw (w.live-is, w.count-is) (take_more_set live count s.number fits) in
          record {
            few = omega (arith, w.count-is, invariant.few);
            size = ap length w.live-is ∙ length-set live count s.number ∙ invariant.size;
            gathered = subst (λ xs. AreGathered backs xs (i + 1)) (sym first)
                (Gathered-add backs (take count live) i s here c.accepts.result c.accepts.ensures invariant.gathered w.if-accepts.true);
          }
      | else-accepts w ↦
          record {
            few = omega (arith, w.count-is, invariant.few);
            size = ap length w.live-is ∙ invariant.size;
            gathered = rw (w.live-is, w.count-is)
                (Gathered-skip backs (take count live) i s here c.accepts.result c.accepts.ensures invariant.gathered w.if-accepts.false);
          }
    ]

pub returns-clause-exactly : goal.returns-clause-exactly
returns-clause-exactly c = λ set ts up sought n.
    let done : c.loop-one.one-index ≡ length c.args.backs.now = omega (arith, c.loop-one-test.false, c.loop-one.auto) in
    subst (λ end. Contains (take c.loop-one.count c.loop-one.live) n ↔ IsFoundBefore set c.args.backs.now end ts n) done
    (c.loop-one.invariant.gathered.exactly set ts up sought n)
