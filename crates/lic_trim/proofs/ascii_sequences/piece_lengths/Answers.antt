use Rattle.std.proofs.Common.{◌≡◌, ◌+◌, ◌&&◌, ◌||◌, ◌==◌, drop, get_or, ap, ap₂, sym, ◌∙◌, subst, arith, length-drop}
use Rattle.std.specs.Char.{is_whitespace}
use Rattle.std.specs.List.{list_any}
use Rattle.std.specs.Prelude.{bit_or}
use Rattle.std.proofs.lemmas.List.{get_or-drop}
use Rattle.lic_kind.specs.LineRules.{rules_of}
use Rattle.lic_trim.specs.Beginnings.{HasBits, HasBegun}
use Rattle.lic_trim.specs.PieceLengths.{begins_with_length, begins_with_spaced}
use Rattle.lic_trim.specs.Walks.{walked}
use Rattle.lic_trim.proofs.PieceLengths.{all_lengths, space_lengths, has_bit_or}
use Rattle.lic_trim.proofs.Walking.{length-walked}
use Rattle.lic_trim.proofs.ascii_sequences.piece_lengths.Goals as goal

pub text_lengths-requires-clause-begun : goal.text_lengths-requires-clause-begun
text_lengths-requires-clause-begun c =
    let way = drop c.args.index (walked c.args.side c.args.line.now) in
    subst (HasBits c.in_ok-begun.begun c.args.side way) (sym c.side_texts.ensures) c.in_ok-begun.ensures.texts

pub returns-then-begun-eq0 : goal.returns-then-begun-eq0
returns-then-begun-eq0 c =
    let rules = rules_of c.args.rules.now in
    let side = c.args.side in
    let line = walked side c.args.line.now in
    let index = c.args.index in
    let way = drop index line in
    let many = length-walked side c.args.line.now in
    let start : index + 0 ≡ index = omega arith in
    let first : get_or way 0 0 ≡ c.byte_at.result = get_or-drop index line 0 0 ∙ ap (λ k. get_or line k 0) start ∙ sym c.byte_at.ensures in
    let space = c.space_length-space.result in
    let separators = c.in_ok-separators.separators in
    space_lengths rules side way (bit_or space separators) (omega (arith, length-drop index line))
    (subst (HasBegun rules side way) c.if-begun-eq0.true c.in_ok-begun.ensures)
    (λ n. has_bit_or space separators n
    ∙ ap₂ (λ a b. a || b) (c.space_length-space.ensures n ∙ ap (λ b. is_whitespace b && (n == 1)) (sym first)) (c.in_ok-separators.ensures n))

pub returns : goal.returns
returns c =
    let rules = rules_of c.args.rules.now in
    let side = c.args.side in
    let line = walked side c.args.line.now in
    let index = c.args.index in
    let way = drop index line in
    let many = length-walked side c.args.line.now in
    let start : index + 0 ≡ index = omega arith in
    let first : get_or way 0 0 ≡ c.byte_at.result = get_or-drop index line 0 0 ∙ ap (λ k. get_or line k 0) start ∙ sym c.byte_at.ensures in
    let space = c.space_length-space.result in
    let texts = c.in_ok-texts.texts in
    let spaced = c.in_ok-spaced.spaced in
    let repeated = c.in_ok-repeated.repeated in
    let separators = c.in_ok-separators.separators in
    let blank = bit_or space separators in
    all_lengths rules side way (bit_or (bit_or blank texts) (bit_or spaced repeated)) (omega (arith, length-drop index line)) c.in_ok-repeated.ensures.once
    (λ n. has_bit_or (bit_or blank texts) (bit_or spaced repeated) n
    ∙ ap₂ (λ a b. a || b)
    (has_bit_or blank texts n
    ∙ ap₂ (λ a b. a || b)
    (has_bit_or space separators n
    ∙ ap₂ (λ a b. a || b) (c.space_length-space.ensures n ∙ ap (λ b. is_whitespace b && (n == 1)) (sym first)) (c.in_ok-separators.ensures n))
    (c.in_ok-texts.ensures n ∙ ap (list_any (λ t. begins_with_length n way (walked side t))) c.side_texts.ensures))
    (has_bit_or spaced repeated n
    ∙ ap₂ (λ a b. a || b) (c.in_ok-spaced.ensures n ∙ ap (list_any (λ t. begins_with_spaced n way (walked side t))) c.side_spaced.ensures)
    (c.in_ok-repeated.ensures.mask n)))
