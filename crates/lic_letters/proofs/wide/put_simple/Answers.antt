use Rattle.std.proofs.Common.{rules, ◌≡◌, [], length, replicate, true}
use Rattle.lic_kind.specs.Kinds.{is_quote}
use Rattle.lic_letters.proofs.WideBytes.{quote_added}
use Rattle.lic_letters.proofs.wide.put_simple.Goals as goal

pub returns-in-Mark-2-clause-put : goal.returns-in-Mark-2-clause-put
returns-in-Mark-2-clause-put c = λ yes.
    let is : is_quote c.args.c ≡ true = search rules in
    let filled : c.fill-in-Mark-2.new.self ≡ replicate (length c.args.slot.now) 0x27 = search rules in
    quote_added c.args.c (length c.args.slot.now) [] c.fill-in-Mark-2.new.self c.requires.beyond c.requires.width is filled
