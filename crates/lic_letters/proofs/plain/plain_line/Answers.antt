use Rattle.std.proofs.Common.{ℕ, List}
use Rattle.lic_kind.specs.LineRules.{rules_of}
use Rattle.lic_letters.proofs.PlainLines.{plain_found}
use Rattle.lic_letters.proofs.plain.plain_line.Goals as goal

pub returns-then-is_plain-clause-plain : goal.returns-then-is_plain-clause-plain
returns-then-is_plain-clause-plain c = λ utf8.
    let bytes : List ℕ = c.args.bytes.now in
    plain_found (rules_of c.args.rules.now) bytes c.in_ok-slot.slot c.in_ok-slot.ensures utf8 (c.is_plain.ensures c.if-is_plain.true utf8)
