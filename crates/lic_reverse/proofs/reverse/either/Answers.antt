-- Two sets of places together.
use Rattle.std.proofs.Common.{◌++◌, ◌∙◌, ap, sym, subst}
use Rattle.lic_view.specs.PlaceSets.{ArePlaced}
use Rattle.lic_view.specs.declared.sets.keep.Keep.TheVariants.{Least}
use Rattle.lic_view.proofs.Placed.{ArePlaced-append}
use Rattle.lic_reverse.proofs.ReverseLemmas.{either-kept}
use Rattle.lic_reverse.proofs.reverse.either.Goals as goal

pub kept-requires : goal.kept-requires
kept-requires c =
    subst (ArePlaced c.args.view.now)
    (sym (c.in_ok-extend_from_slice.ensures.items ∙ ap (λ l. l ++ c.args.others.now) c.in_ok-all.ensures.items))
    (ArePlaced-append c.args.view.now c.args.spans.now c.args.others.now c.requires.spans c.requires.others)

pub returns : goal.returns
returns c =
    either-kept Least c.args.view.now c.args.spans.now c.args.others.now c.extend_from_slice.new.self.items c.in_ok-kept.field-0.items
    c.tokens_have_texts.ensures c.requires.spans c.requires.others
    (c.in_ok-extend_from_slice.ensures.items ∙ ap (λ l. l ++ c.args.others.now) c.in_ok-all.ensures.items) c.in_ok-kept.ensures
