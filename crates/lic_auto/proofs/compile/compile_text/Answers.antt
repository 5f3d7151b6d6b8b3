use Rattle.std.proofs.Common.{Ok, ap, ◌∙◌, arith}
use Rattle.std.proofs.lemmas.Iterator.{YieldsList-from_chars, items_from_collect}
use Rattle.std.proofs.lemmas.List.{with_items_is}
use Rattle.std.specs.declared.alloc.AllocError.{AllocError}
use Rattle.lic_auto.specs.Directions.{ordered}
use Rattle.lic_auto.proofs.Trees.{letters_compiled}
use Rattle.lic_auto.proofs.compile.compile_text.Goals as goal

pub returns : goal.returns
returns c =
    let text = c.in_ok-text.text in
    let made = items_from_collect {E = AllocError} (Ok text) c.in_ok-text.ensures.ran
    (YieldsList-from_chars c.args.text.now c.utf8.text c.chars.ensures.rest) in
    let is = with_items_is text c.order.new.sequence (omega (arith, c.order.auto, c.deref_mut.ensures.len)) ∙ c.order.ensures
    ∙ ap (ordered c.args.direction) (c.deref_mut.ensures.value ∙ made) in
    letters_compiled c.args.direction _ _ _ is c.letters.ensures
