use Rattle.std.proofs.Common.{◌-◌, take, drop, length, arith}
use Rattle.std.proofs.lemmas.List.{take_rest}
use Rattle.lic_kind.specs.LineRules.{rules_of}
use Rattle.lic_trim.specs.Walks.{End}
use Rattle.lic_trim.proofs.SpaceCuts.{takes_spaces}
use Rattle.lic_trim.proofs.Walking.{length-walked}
use Rattle.lic_trim.proofs.ascii_cut.takes_spaces.Goals as goal

pub returns : goal.returns
returns c = λ on.
    let rules = rules_of c.args.rules.now in
    let line = c.args.line.now in
    let n = c.spaces-lead.result in
    let rest = take (length line - n) (drop n line) in
    let front = c.spaces-lead.ensures in
    let end = c.spaces-tail.ensures in
    takes_spaces rules line rest n c.spaces-tail.result (take_rest line n) (c.is_alone.ensures c.if-not-is_alone.false) front.within
    (c.has_no_item.ensures c.if-not-has_no_item.false rules) (c.is_alone-2.ensures on) (omega (arith, end.within, length-walked End rest)) front.all end.all
