use Rattle.std.proofs.Common.{◌≡◌, ◌∙◌, ◌<◌, inl, sym, drop, length, subst, arith}
use Rattle.std.proofs.lemmas.Bool.{eqb-true}
use Rattle.lic_kind.specs.LineRules.{rules_of}
use Rattle.lic_trim.specs.Beginnings.{HasBegun}
use Rattle.lic_trim.specs.Walks.{walked}
use Rattle.lic_trim.proofs.SpaceSequences.{longest_standing, longest_of_spaces}
use Rattle.lic_trim.proofs.Walking.{length-walked}
use Rattle.lic_trim.proofs.ascii_cut.is_alone.Goals as goal

pub returns-then-spaces-line : goal.returns-then-spaces-line
returns-then-spaces-line c = λ _.
    let way = walked c.args.side c.args.line.now in
    let many = length-walked c.args.side c.args.line.now in
    let all : c.args.spaces ≡ length way = omega (arith, many, c.requires.within, c.if-spaces-line.true) in
    all ∙ longest_of_spaces (rules_of c.args.rules.now) c.args.side way (λ i lt. c.requires.all i (omega (arith, all)))

pub returns-in-Some : goal.returns-in-Some
returns-in-Some c = λ none.
    let rules = rules_of c.args.rules.now in
    let side = c.args.side in
    let way = walked side c.args.line.now in
    let n = c.args.spaces in
    let many = length-walked side c.args.line.now in
    let inside : n < length way = omega (arith, many, c.if-spaces-line.false) in
    longest_standing rules side way n inside c.requires.all (c.requires.stop inside)
    ((subst (HasBegun rules side (drop n way)) (eqb-true c.in-Some.begun 0 none) c.in-Some.ensures).closed (omega arith))
    (inl (λ lt same. absurd (c.if-byte_after-byte_at.false (c.byte_after.ensures (omega (arith, many)) ∙ same ∙ sym c.byte_at.ensures))))
