use Rattle.std.proofs.Common.{◌≡◌, inl, ◌+◌, ◌∙◌, length, drop, get_or, sym, ap, length-drop, arith}
use Rattle.std.proofs.lemmas.List.{get_or-drop}
use Rattle.lic_trim.specs.Sources.{chars_of}
use Rattle.lic_kind.specs.LineRules.{rules_of}
use Rattle.lic_trim.specs.Walks.{walked}
use Rattle.lic_trim.proofs.SpaceSequences.{longest_standing, longest_of_spaces}
use Rattle.lic_trim.proofs.Walking.{length-walked_chars}
use Rattle.lic_trim.proofs.space_sequences.space_sequence.Goals as goal

pub returns-clause-sequence : goal.returns-clause-sequence
returns-clause-sequence c =
    let rules = rules_of c.args.rules.now in
    let side = c.args.side in
    let line = walked side (chars_of c.args.line.now) in
    let n = c.spaces-count.result in
    let many = length-walked_chars side c.args.line.now in
    let long = length-drop n line in
    let known = c.spaces-count.ensures in
    let start : n + 0 ≡ n = omega arith in
    let begun = c.in_ok-begun.ensures (drop n line) (record {
      some = omega (arith, many, long);
      first = c.char_at-first.ensures ∙ ap (λ k. get_or line k 0) (sym start) ∙ sym (get_or-drop n line 0 0);
      second = λ more. c.char_after-second.ensures (omega (arith, many, long)) ∙ sym (get_or-drop n line 1 0);
    }) in
    longest_standing rules side line n (omega arith) known.all (known.stop (omega arith))
    (begun.closed (omega (arith, c.if-begun-ne0.false)))
    (inl (λ lt. c.three_alike.ensures c.if-three_alike.false (omega arith)))

pub returns-then-count-line-clause-sequence : goal.returns-then-count-line-clause-sequence
returns-then-count-line-clause-sequence c =
    let line = walked c.args.side (chars_of c.args.line.now) in
    let many = length-walked_chars c.args.side c.args.line.now in
    let all : c.spaces-count.result ≡ length line = omega arith in
    all ∙ longest_of_spaces (rules_of c.args.rules.now) c.args.side line (λ i lt. c.spaces-count.ensures.all i (omega arith))
