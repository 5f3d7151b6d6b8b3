use Rattle.std.proofs.Common.{◌≡◌, ◌==◌, nat_le, map, ap, ◌∙◌, subst}
use Rattle.lic_letters.specs.Bytes.{is_word, is_mark}
use Rattle.lic_columns.specs.Masks.{IsMask}
use Rattle.lic_columns.proofs.ByteLemmas.{word_classes, mark_classes}
use Rattle.lic_columns.proofs.block.read_block.Goals as goal

pub returns-clause-word : goal.returns-clause-word
returns-clause-word c =
    let flags : map (λ d. d == 0) c.classes-classes.result ≡ map is_word c.args.bytes =
    ap (map (λ d. d == 0)) c.classes-classes.ensures ∙ word_classes c.args.bytes c.fits-bytes.1 in
    subst (IsMask c.offsets_of.result) flags c.offsets_of.ensures

pub returns-clause-mark : goal.returns-clause-mark
returns-clause-mark c =
    let flags : map (λ d. nat_le 3 d) c.classes-classes.result ≡ map is_mark c.args.bytes =
    ap (map (λ d. nat_le 3 d)) c.classes-classes.ensures ∙ mark_classes c.args.bytes c.fits-bytes.1 in
    subst (IsMask c.offsets_from.result) flags c.offsets_from.ensures
