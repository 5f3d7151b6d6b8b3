-- The group of the hash.
use Rattle.std.proofs.Common.{◌≡◌, ◌<◌, length, ap, arith, sym, subst, ◌∙◌}
use Rattle.std.specs.Prelude.{Contains}
use Rattle.lic_reverse.specs.LetterGroups.{group, number_of}
use Rattle.lic_reverse.proofs.EreLemmas.{ok-changed}
use Rattle.lic_reverse.proofs.LetterGroupLemmas.{entry_of, group-read}
use Rattle.lic_reverse.proofs.ways.groups.Groups.with.Goals as goal

pub returns : goal.returns
returns c =
    let lists = c.args.self.now.lists.items in
    let size : c.len.result ≡ length lists = omega (arith, c.len.ensures, c.args.self.now.lists.ok) in
    let number : c.number_of-number.result ≡ number_of c.args.hash (length lists) = c.number_of-number.ensures.value ∙ ap (number_of c.args.hash) size in
    let within : c.number_of-number.result < length lists = omega (arith, c.number_of-number.ensures.below, size) in
    let same : c.deref.result.now ≡ group lists (number_of c.args.hash (length lists)) =
    c.deref.ensures.value ∙ (sym (group-read lists c.number_of-number.result c.index.result.now within c.index.ensures) ∙ ap (group lists) number) in
    ok-changed _ _ c.spans_with.result
    (λ found exact s. (
      λ has. subst (λ xs. Contains xs (entry_of c.args.hash s)) same ((exact s).0 has),
      λ has. (exact s).1 (subst (λ xs. Contains xs (entry_of c.args.hash s)) (sym same) has),
    ))
    c.spans_with.ensures
