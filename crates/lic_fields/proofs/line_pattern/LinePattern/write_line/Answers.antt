use Rattle.std.proofs.Common.{◌≡◌, ◌∙◌, ◌+◌, ◌++◌, List, ℕ, length, take, drop, sym, ap, ap₂, arith, take_all, append_assoc}
use Rattle.std.proofs.lemmas.List.{length-take-le, take-append-drop, take_at}
use Rattle.std.specs.Simd.Lanes.{chunk}
use Rattle.std.specs.Prelude.{decimal}
use Rattle.lic_fields.specs.Fields.{escaped, field}
use Rattle.lic_fields.proofs.LineFronts.{first_changed, fronted, fronted_long, kept_end, second_changed}
use Rattle.lic_fields.proofs.PlainBytes.{plain-stay}
use Rattle.lic_fields.proofs.line_pattern.LinePattern.write_line.Goals as goal

pub overflow_add-at : goal.overflow_add-at
overflow_add-at c =
    let kept = c.self.inside in
    let ends = kept_end kept.bytes.now kept.same kept.first_end kept.len kept.thousand c.self.invariant in
    omega (arith, ends, c.requires.room, c.if-self-gt-LONG.false)

pub write_four-requires : goal.write_four-requires
write_four-requires c =
    let kept = c.self.inside in
    let ends = kept_end kept.bytes.now kept.same kept.first_end kept.len kept.thousand c.self.invariant in
    let same = c.write_block.ensures.len in (
      ap length (take_all 4 c.in-Some.one.now (omega (arith, c.in-Some.ensures.0))) ∙ c.in-Some.ensures.0,
      (omega (arith, c.self.invariant.end_is), omega (arith, ends, same, c.requires.room, c.if-self-gt-LONG.false)),
    )

pub write_four-requires-2 : goal.write_four-requires-2
write_four-requires-2 c =
    let kept = c.self.inside in
    let ends = kept_end kept.bytes.now kept.same kept.first_end kept.len kept.thousand c.self.invariant in
    let same = c.write_block.ensures.len in (
      ap length (take_all 4 c.in-Some-digits_of.two.now (omega (arith, c.in-Some-digits_of.ensures.0))) ∙ c.in-Some-digits_of.ensures.0,
      (omega (arith, ends), omega (arith, same, c.write_four.auto, c.requires.room, c.if-self-gt-LONG.false)),
    )

pub returns-clause-line : goal.returns-clause-line
returns-clause-line c =
    let kept = c.self.inside in
    let known = c.self.invariant in
    let first = kept.thousand in
    let one = chunk 0 4 c.in-Some.one.now in
    let two = chunk 0 4 c.in-Some-digits_of.two.now in
    let one_is : one ≡ c.in-Some.one.now = take_all 4 c.in-Some.one.now (omega (arith, c.in-Some.ensures.0)) in
    let two_is : two ≡ c.in-Some-digits_of.two.now = take_all 4 c.in-Some-digits_of.two.now (omega (arith, c.in-Some-digits_of.ensures.0)) in
    let one_long : length one ≡ 4 = ap length one_is ∙ c.in-Some.ensures.0 in
    let two_long : length two ≡ 4 = ap length two_is ∙ c.in-Some-digits_of.ensures.0 in
    let ends = kept_end kept.bytes.now kept.same kept.first_end kept.len first known in
    let bytes = c.args.bytes.now in
    let at = c.args.at in
    let end = at + kept.len in
    let line = take at bytes in
    let same = take kept.same kept.bytes.now in
    let line_long : length line ≡ at = length-take-le at bytes (omega (arith, c.requires.room)) in
    let long : length same ≡ kept.same = length-take-le kept.same kept.bytes.now (omega (arith, known.enough)) in
    let block = c.write_block.new.bytes in
    let after = drop end block in
    let block_is : block ≡ fronted line same first first known.first_four known.second_four ++ after =
    sym (take-append-drop end block) ∙ ap (λ l. l ++ after) (c.write_block.ensures.written ∙ ap (λ l. line ++ l) known.bytes_are) in
    let first_end : at + kept.first_end ≡ length line + (length same + (length first + 4)) = omega (arith, line_long, long, known.end_is) in
    let first_is : c.write_four.new.bytes ≡ fronted line same first first one known.second_four ++ after =
    c.write_four.ensures
    ∙ first_changed line same first first known.first_four one known.second_four after block (at + kept.first_end) known.first_long block_is first_end in
    let second_end : end ≡ length line + (length same + (length first + 4 + (length first + 4))) = omega (arith, line_long, long, known.end_is, ends) in
    let second_is : c.write_four-2.new.bytes ≡ fronted line same first first one two ++ after =
    c.write_four-2.ensures
    ∙ second_changed line same first first one known.second_four two after c.write_four.new.bytes end one_long known.second_long first_is second_end in
    let whole = fronted_long line same first first one two one_long two_long in
    let one_field : List ℕ = field (decimal c.args.first) 0x09 in
    let two_field : List ℕ = field (decimal c.args.second) 0x09 in
    let text : List ℕ = field (escaped (take c.args.len c.args.text.now)) 0x0A in
    let front : take end c.write_four-2.new.bytes ≡ line ++ (c.args.self.now ++ (one_field ++ two_field)) =
    ap (take end) second_is
    ∙ (take_at (fronted line same first first one two) after end (whole ∙ sym second_end)
    ∙ ap₂ (λ s n. line ++ (s ++ n)) c.self.view_is
    (ap₂ (λ x y. (first ++ x) ++ (first ++ y)) one_is two_is ∙ sym (ap₂ (λ x y. x ++ y) c.in-Some.ensures.1 c.in-Some-digits_of.ensures.1))) in
    c.write_text.ensures.written
    ∙ (ap₂ (λ b t. b ++ field t 0x0A) front (sym (plain-stay (take c.args.len c.args.text.now) c.requires.plain))
    ∙ (append_assoc line (c.args.self.now ++ (one_field ++ two_field)) text
    ∙ ap (λ l. line ++ l)
    (append_assoc c.args.self.now (one_field ++ two_field) text ∙ ap (λ l. c.args.self.now ++ l) (append_assoc one_field two_field text))))
