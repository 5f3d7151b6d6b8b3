use Rattle.lic_kind.specs.LineRules.{rules_of}
use Rattle.lic_trim.proofs.PlainEdges.{keeps_all}
use Rattle.lic_trim.proofs.plain_edges.keeps_all.Goals as goal

pub returns : goal.returns
returns c = λ yes.
    keeps_all (rules_of c.args.rules.now) c.args.first c.args.second c.args.before c.args.last
    (c.are_apart.ensures c.if-not-are_apart.false) (c.are_apart-2.ensures c.if-not-are_apart-2.false)
    (c.is_plain.ensures c.if-not-is_plain.false) (c.is_plain-2.ensures yes)
    (c.begins_no_item.ensures c.if-not-begins_no_item.false (rules_of c.args.rules.now))
