use Rattle.std.proofs.Common.{◌∙◌, ap, arith}
use Rattle.lic_kind.specs.LineRules.{rules_of}
use Rattle.lic_trim.specs.Sources.{chars_of}
use Rattle.lic_trim.specs.Texts.{is_sequence, longest_front}
use Rattle.lic_trim.specs.Walks.{walked, is_walked_piece}
use Rattle.lic_trim.proofs.AsciiLemmas.{chars_of-placed}
use Rattle.lic_trim.proofs.SpaceSequences.{has_spaces}
use Rattle.lic_trim.proofs.Walking.{length-walked}
use Rattle.lic_trim.proofs.ascii_cut.edge_of_ascii.Goals as goal

pub returns-then-is_alone-clause-within : goal.returns-then-is_alone-clause-within
returns-then-is_alone-clause-within c = omega (arith, c.spaces-spaces.ensures.within, length-walked c.args.side c.args.line.now)

pub returns-in-Some-clause-order : goal.returns-in-Some-clause-order
returns-in-Some-clause-order c =
    (has_spaces (rules_of c.args.rules.now) c.args.side (walked c.args.side c.args.line.now) c.spaces-spaces.result c.in-Some.length
    c.spaces-spaces.ensures c.in-Some.ensures).0

pub returns-in-Some-clause-within : goal.returns-in-Some-clause-within
returns-in-Some-clause-within c =
    let fits = (has_spaces (rules_of c.args.rules.now) c.args.side (walked c.args.side c.args.line.now) c.spaces-spaces.result c.in-Some.length
    c.spaces-spaces.ensures c.in-Some.ensures).1 in
    omega (arith, fits, length-walked c.args.side c.args.line.now)

pub returns-clause-sequence : goal.returns-clause-sequence
returns-clause-sequence c =
    let line = c.args.line.now in
    let side = c.args.side in
    let characters = c.deref.ensures.value ∙ c.in_ok-put_source.ensures in
    c.in_ok-length.ensures.sequence
    ∙ ap (λ l. longest_front (is_sequence (is_walked_piece (rules_of c.args.rules.now) side)) (walked side l))
    (ap chars_of characters ∙ chars_of-placed 0 line)

pub returns-clause-order : goal.returns-clause-order
returns-clause-order c =
    let line = c.args.line.now in
    let side = c.args.side in
    let characters = c.deref.ensures.value ∙ c.in_ok-put_source.ensures in
    (has_spaces (rules_of c.args.rules.now) side (walked side line) c.spaces-spaces.result c.in_ok-length.length c.spaces-spaces.ensures
    (c.in_ok-length.ensures.sequence
    ∙ ap (λ l. longest_front (is_sequence (is_walked_piece (rules_of c.args.rules.now) side)) (walked side l))
    (ap chars_of characters ∙ chars_of-placed 0 line))).0

pub returns-clause-within : goal.returns-clause-within
returns-clause-within c =
    let line = c.args.line.now in
    let side = c.args.side in
    let characters = c.deref.ensures.value ∙ c.in_ok-put_source.ensures in
    let fits = (has_spaces (rules_of c.args.rules.now) side (walked side line) c.spaces-spaces.result c.in_ok-length.length c.spaces-spaces.ensures
    (c.in_ok-length.ensures.sequence
    ∙ ap (λ l. longest_front (is_sequence (is_walked_piece (rules_of c.args.rules.now) side)) (walked side l))
    (ap chars_of characters ∙ chars_of-placed 0 line))).1 in
    omega (arith, fits, length-walked side line)
