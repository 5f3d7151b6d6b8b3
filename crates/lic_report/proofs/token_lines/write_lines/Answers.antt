use Rattle.std.proofs.Common.{◌≡◌, ◌<◌, ◌-◌, List, ℕ, length, length-drop, length-take, take, drop, get_or, ap, ap₂, sym, subst, ◌∙◌, arith}
use Rattle.lic_fields.specs.Fields.{ArePlain}
use Rattle.lic_tokens.specs.Slices.{sliced_tokens}
use Rattle.lic_report.specs.Report.{no_token}
use Rattle.lic_report.proofs.LinesBetween.{line_is, lines_more}
use Rattle.lic_report.proofs.PlainLemmas.{plain_text}
use Rattle.lic_report.proofs.TokenLemmas.{start-fits, text-fits, text-long, text-taken}
use Rattle.lic_report.proofs.token_lines.write_lines.Goals as goal

-- the bytes from the token on, by what the calls answered
part_is : (bytes spelling : List ℕ) (start place : ℕ) → bytes ≡ spelling → start ≡ place
    → take (length bytes - start) (drop start bytes) ≡ take (length spelling - place) (drop place spelling)
part_is bytes spelling start place e s = ap₂ (λ b n. take (length b - n) (drop n b)) e s

pub slice_bounds-letters-count : goal.slice_bounds-letters-count
slice_bounds-letters-count c =
    let within : c.loop-i.i < length (sliced_tokens c.args.tokens.now) = omega (arith, c.loop-i-test.true, c.room_to-stop.ensures.order, c.len.ensures) in
    omega (arith, c.place-place.ensures.start, ap length c.spelled-spelled.ensures, start-fits (sliced_tokens c.args.tokens.now) c.loop-i.i no_token within)

pub slice_bounds-letters-start : goal.slice_bounds-letters-start
slice_bounds-letters-start c = slice_bounds-letters-count c

pub overflow_sub-len : goal.overflow_sub-len
overflow_sub-len c =
    let within : c.loop-i.i < length (sliced_tokens c.args.tokens.now) = omega (arith, c.loop-i-test.true, c.room_to-stop.ensures.order, c.len.ensures) in
    omega (arith, c.place-place.ensures.start, c.place-place.ensures.end, text-long (sliced_tokens c.args.tokens.now) c.loop-i.i no_token within)

pub write_line-requires-clause-fits : goal.write_line-requires-clause-fits
write_line-requires-clause-fits c =
    let tokens = sliced_tokens c.args.tokens.now in
    let within : c.loop-i.i < length tokens = omega (arith, c.loop-i-test.true, c.room_to-stop.ensures.order, c.len.ensures) in
    omega (
      arith,
      c.place-place.ensures.start,
      c.place-place.ensures.end,
      text-long tokens c.loop-i.i no_token within,
      text-fits tokens c.loop-i.i no_token within,
      ap length (part_is _ _ _ _ c.spelled-spelled.ensures c.place-place.ensures.start),
    )

pub write_line-requires-clause-wide : goal.write_line-requires-clause-wide
write_line-requires-clause-wide c =
    let tokens = sliced_tokens c.args.tokens.now in
    let spelled = c.spelled-spelled.result.now in
    let start = c.place-place.result.start in
    let within : c.loop-i.i < length tokens = omega (arith, c.loop-i-test.true, c.room_to-stop.ensures.order, c.len.ensures) in
    omega (
      arith,
      c.place-place.ensures.start,
      c.place-place.ensures.end,
      text-long tokens c.loop-i.i no_token within,
      c.if-place-last.false,
      c.min-last.ensures,
      c.if-spelled-lt-TEXT_ROOM.false,
      length-take (length spelled - start) (drop start spelled),
      length-drop start spelled,
    )

pub write_line-requires-clause-plain : goal.write_line-requires-clause-plain
write_line-requires-clause-plain c =
    let tokens = sliced_tokens c.args.tokens.now in
    let i = c.loop-i.i in
    let within : i < length tokens = omega (arith, c.loop-i-test.true, c.room_to-stop.ensures.order, c.len.ensures) in
    let long : c.place-place.result.end - c.place-place.result.start ≡ length (get_or tokens i no_token).text =
    omega (arith, c.place-place.ensures.start, c.place-place.ensures.end, text-long tokens i no_token within) in
    let text = ap₂ take long (part_is _ _ _ _ c.spelled-spelled.ensures c.place-place.ensures.start) ∙ text-taken tokens i no_token within in
    subst ArePlain (sym text)
    (plain_text tokens c.args.from i c.args.plain_to no_token c.requires.plain c.loop-i.invariant.from within
    (omega (arith, c.if-place-last.false, c.min-last.ensures, c.place-place.ensures.end)))

pub loop-i-preserved : goal.loop-i-preserved
loop-i-preserved c =
    let tokens = sliced_tokens c.args.tokens.now in
    let i = c.loop-i.i in
    let within : i < length tokens = omega (arith, c.loop-i-test.true, c.room_to-stop.ensures.order, c.len.ensures) in
    let long : c.place-place.result.end - c.place-place.result.start ≡ length (get_or tokens i no_token).text =
    omega (arith, c.place-place.ensures.start, c.place-place.ensures.end, text-long tokens i no_token within) in
    let text = ap₂ take long (part_is _ _ _ _ c.spelled-spelled.ensures c.place-place.ensures.start) ∙ text-taken tokens i no_token within in
    record {
      len = c.in-Some.ensures.len ∙ c.loop-i.invariant.len;
      end = omega (arith, c.loop-i-test.true, c.loop-i.invariant.room, c.in-Some.ensures.end, c.in-Some.ensures.len);
      from = omega (arith, c.loop-i.invariant.from);
      within = omega (arith, c.loop-i-test.true);
      room = omega (arith, c.loop-i-test.true, c.loop-i.invariant.room, c.in-Some.ensures.end, c.in-Some.ensures.len);
      lines = c.in-Some.ensures.line
          ∙ (line_is _ c.args.pattern.now _ c.span-span.result (get_or tokens i no_token) _ (c.span-span.ensures no_token) text
          ∙ lines_more _ _ c.args.pattern.now tokens c.args.from i no_token c.loop-i.invariant.from within c.loop-i.invariant.lines);
    }
