use Rattle.std.proofs.Common.{map, ap, ◌∙◌, subst, arith}
use Rattle.std.specs.List.{list_all}
use Rattle.std.proofs.lemmas.List.{with_items_is}
use Rattle.std.specs.Result.{IfOk}
use Rattle.lic_marks.specs.Cores.{WordsOf, cat_all}
use Rattle.lic_marks.specs.Nodes.{core_of, is_measured}
use Rattle.lic_auto.specs.Compiling.{HasWords}
use Rattle.lic_auto.specs.Directions.{ordered}
use Rattle.lic_auto.proofs.Ordered.{list_all-ordered, map-ordered}
use Rattle.lic_auto.proofs.compile.ordered_sequence.Goals as goal

pub sequence-requires : goal.sequence-requires
sequence-requires c =
    let old = c.args.children in
    let is = with_items_is old c.order.new.sequence (omega (arith, c.order.auto, c.deref_mut.ensures.len)) ∙ c.order.ensures
    ∙ ap (ordered c.args.direction) c.deref_mut.ensures.value in
    ap (list_all is_measured) is ∙ list_all-ordered c.args.direction is_measured old.items c.requires

pub returns : goal.returns
returns c =
    let old = c.args.children in
    let is = with_items_is old c.order.new.sequence (omega (arith, c.order.auto, c.deref_mut.ensures.len)) ∙ c.order.ensures
    ∙ ap (ordered c.args.direction) c.deref_mut.ensures.value in
    subst (λ rs. IfOk c.sequence.result (HasWords (WordsOf (cat_all rs)))) (ap (map core_of) is ∙ map-ordered c.args.direction core_of old.items) c.sequence.ensures
