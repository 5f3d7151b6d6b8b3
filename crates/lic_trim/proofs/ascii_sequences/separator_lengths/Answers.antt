use Rattle.std.proofs.Common.{◌≡◌, ◌-◌, ◌∙◌, true, false, drop, get_or, sym, ap, arith, length-drop}
use Rattle.lic_kind.specs.Kinds.{kind_of, is_mark_kind}
use Rattle.lic_kind.specs.LineRules.{rules_of}
use Rattle.lic_trim.specs.PieceLengths.{has_bit}
use Rattle.lic_trim.specs.Walks.{walked}
use Rattle.lic_trim.proofs.SeparatorLengths.{bits_of_word, bits_of_few, bits_of_streak, first_at, same_at, stop_at, length_of_streak}
use Rattle.lic_trim.proofs.Walking.{length-walked}
use Rattle.lic_trim.proofs.ascii_sequences.separator_lengths.Goals as goal

pub returns-then-byte_after-byte_at : goal.returns-then-byte_after-byte_at
returns-then-byte_after-byte_at c =
    let line = walked c.args.side c.args.line.now in
    let index = c.args.index in
    let way = drop index line in
    let many = length-walked c.args.side c.args.line.now in
    bits_of_few way 1 (omega (arith, many, length-drop index line))
    (λ i lt. let none : i ≡ 0 = omega arith in ap (λ k. get_or way k 0) none)
    (stop_at line index 1 (λ lt same. c.if-byte_after-byte_at.true (c.byte_after.ensures (omega (arith, many)) ∙ same ∙ sym c.byte_at.ensures)))
    (rules_of c.args.rules.now).separators (omega arith)

pub returns-then-not-is_mark : goal.returns-then-not-is_mark
returns-then-not-is_mark c =
    let line = walked c.args.side c.args.line.now in
    let way = drop c.args.index line in
    let word : is_mark_kind (kind_of (get_or way 0 0)) ≡ false =
    ap (λ d. is_mark_kind (kind_of d)) (first_at line c.args.index ∙ sym c.byte_at-2.ensures) ∙ sym c.is_mark.ensures ∙ c.if-not-is_mark.true in
    bits_of_word way (rules_of c.args.rules.now).separators word

pub returns-then-streak-lt-SHORTEST_SEPARATOR : goal.returns-then-streak-lt-SHORTEST_SEPARATOR
returns-then-streak-lt-SHORTEST_SEPARATOR c =
    let line = walked c.args.side c.args.line.now in
    let index = c.args.index in
    let way = drop index line in
    let streak = c.streak_length-streak.result in
    let many = length-walked c.args.side c.args.line.now in
    bits_of_few way streak (omega (arith, many, length-drop index line)) (same_at line index streak c.streak_length-streak.ensures.same)
    (stop_at line index streak (λ lt. c.streak_length-streak.ensures.stop (omega (arith, many)))) (rules_of c.args.rules.now).separators (omega arith)

pub overflow_sub-result : goal.overflow_sub-result
overflow_sub-result c = (length_of_streak c.streak_length-streak.result (omega arith) (omega arith)).0

pub returns : goal.returns
returns c = λ n.
    let line = walked c.args.side c.args.line.now in
    let index = c.args.index in
    let way = drop index line in
    let streak = c.streak_length-streak.result in
    let many = length-walked c.args.side c.args.line.now in
    let mark : is_mark_kind (kind_of (get_or way 0 0)) ≡ true =
    ap (λ d. is_mark_kind (kind_of d)) (first_at line index ∙ sym c.byte_at-2.ensures) ∙ sym c.is_mark.ensures ∙ c.if-not-is_mark.false in
    ap (λ mask. has_bit (mask - 8) n) (length_of_streak streak (omega arith) (omega arith)).1
    ∙ bits_of_streak way streak (omega (arith, many, length-drop index line)) (same_at line index streak c.streak_length-streak.ensures.same)
    (stop_at line index streak (λ lt. c.streak_length-streak.ensures.stop (omega (arith, many)))) (rules_of c.args.rules.now).separators
    (sym c.separators.ensures ∙ c.if-not-separators.false) mark n
