use Rattle.std.proofs.Common.{rules, ◌≡◌, ℕ, ◌<◌, [], ◌∷◌, length, sym, ◌∙◌}
use Rattle.std.specs.Char.{len_utf8, to_ascii_lowercase}
use Rattle.lic_kind.specs.Kinds.{spell}
use Rattle.lic_letters.proofs.WideBytes.{pair_is, pair_simple}
use Rattle.lic_letters.proofs.wide.put_pair.Goals as goal

pub returns-clause-simple : goal.returns-clause-simple
returns-clause-simple c = λ yes.
    let one : ℕ = c.one-item.result in
    let two : ℕ = c.two-item.result in
    let are : c.as_slice.result.now ≡ one ∷ two ∷ [] =
    pair_is c.as_slice.result.now one two c.in-len2.len_at_least c.in-len2.len_below c.one-item.is c.two-item.is in
    let spelled : spell c.args.c ≡ one ∷ two ∷ [] = sym c.in_ok-letters.ensures.letters ∙ sym c.as_slice.ensures ∙ are in
    let long : length c.args.slot.now ≡ 2 = search rules in
    let width : len_utf8 c.args.c ≡ 2 = sym c.requires.width ∙ long in
    let one_small : one < 128 = search rules in
    let two_small : two < 128 = search rules in
    let one_own : to_ascii_lowercase one ≡ one = search rules in
    let two_own : to_ascii_lowercase two ≡ two = search rules in
    pair_simple c.args.c one two width c.requires.word spelled one_small two_small one_own two_own
