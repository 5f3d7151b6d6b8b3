use Rattle.std.proofs.Common.{◌-◌, sym, subst, arith}
use Rattle.lic_markup.specs.Parts.{part_of}
use Rattle.lic_markup.specs.PartTexts.{HasPieceTexts}
use Rattle.lic_keys.proofs.LongestLemmas.{texts-at}
use Rattle.lic_search.proofs.copies.last_copies.Goals as goal

pub copied_text-requires : goal.copied_text-requires
copied_text-requires c =
    subst (λ p. HasPieceTexts (part_of p)) (sym c.index-parts-end.is)
    (texts-at c.args.parts.now (c.args.end - 1) c.index-parts-end.result (omega (arith, c.requires.some, c.requires.within)) c.requires.texts)
