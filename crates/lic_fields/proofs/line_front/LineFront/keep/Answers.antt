use Rattle.std.proofs.Common.{◌≡◌, length, take, ap, sym, subst, ◌∙◌, arith}
use Rattle.std.proofs.lemmas.List.{with_items_is}
use Rattle.lic_fields.specs.Fronts.{IsKept}
use Rattle.lic_fields.proofs.LineFronts.{kept_of, same_stays}
use Rattle.lic_fields.proofs.line_front.LineFront.keep.Goals as goal

pub invariant_of-self : goal.invariant_of-self
invariant_of-self c =
    let one = c.in-Some.ensures in
    let two = c.in-Some-digits_of.ensures in
    let kept = c.self.inside in
    let len = c.write_numbers-first_end.result.1 in
    let old = c.deref_mut.result.now in
    let bytes = c.write_numbers-first_end.new.bytes in
    let start : length old ≡ length kept.bytes.items = ap length c.deref_mut.ensures.value in
    let enough = c.self.invariant.enough in
    let held = with_items_is kept.bytes bytes (omega (arith, c.write_numbers-first_end.auto, c.deref_mut.ensures.len)) in
    let long : length bytes ≡ length old = c.write_numbers-first_end.ensures.len in
    subst (λ b. IsKept b kept.same c.write_numbers-first_end.result.0 len c.in-Some.thousand) (sym held)
    (kept_of old bytes kept.same len c.args.first c.args.second (omega (arith, start, enough)) (omega (arith, start, enough, long, c.write_numbers-first_end.ensures.end))
    c.write_numbers-first_end.ensures.written c.write_numbers-first_end.result.0 c.in-Some.thousand one.0 c.in-Some-digits_of._digits.now one.1 two
    c.write_numbers-first_end.ensures.first c.write_numbers-first_end.ensures.end (omega (arith, start, enough, long)))

pub returns : goal.returns
returns c =
    let kept = c.self.inside in
    let old = c.deref_mut.result.now in
    let bytes = c.write_numbers-first_end.new.bytes in
    let start : length old ≡ length kept.bytes.items = ap length c.deref_mut.ensures.value in
    let enough = c.self.invariant.enough in
    let held = with_items_is kept.bytes bytes (omega (arith, c.write_numbers-first_end.auto, c.deref_mut.ensures.len)) in
    let long : length bytes ≡ length old = c.write_numbers-first_end.ensures.len in
    ap (take kept.same) held
    ∙ (same_stays old bytes kept.same c.write_numbers-first_end.result.1 c.args.first c.args.second (omega (arith, start, enough))
    (omega (arith, start, enough, long, c.write_numbers-first_end.ensures.end)) c.write_numbers-first_end.ensures.written
    ∙ (ap (take kept.same) c.deref_mut.ensures.value ∙ c.self.view_is))
