use Rattle.std.proofs.Common.{Some, None, ℕ, List, refl, sym, ap, subst, arith, length}
use Rattle.std.proofs.lemmas.List.{length-drop}
use Rattle.std.specs.Str.{IsUtf8}
use Rattle.std.proofs.lemmas.Str.{IsUtf8-from_is_utf8, is_utf8-from_IsUtf8}
use Rattle.memchr.specs.Find.{IsFirstByte, is_byte}
use Rattle.lic_elements.proofs.SignLemmas.{no_sign, here_utf8, here_long, after_seam, after_utf8, next_sign}
use Rattle.lic_elements.proofs.elements.next_sign.Goals as goal

pub returns-in_err-count-clause-none : goal.returns-in_err-count-clause-none
returns-in_err-count-clause-none c =
    rw c.from_residual.ensures (no_sign c.args.rest (IsUtf8-from_is_utf8 c.args.rest.text.now c.args.rest.utf8)
    (subst (λ bytes. IsFirstByte (is_byte 0x3C) bytes None) c.as_bytes.ensures.value c.in_err-count.ensures))

pub invariant_of-here : goal.invariant_of-here
invariant_of-here c =
    let text : List ℕ = c.args.rest.text.now in
    let count = c.in_ok-count.count in
    let utf8 = IsUtf8-from_is_utf8 text c.args.rest.utf8 in
    let found = subst (λ bytes. IsFirstByte (is_byte 0x3C) bytes (Some count)) c.as_bytes.ensures.value c.in_ok-count.ensures in
    let here : List ℕ = c.range_from.result.now in
    record {
      utf8 = is_utf8-from_IsUtf8 here (here_utf8 text count utf8 found here c.range_from.ensures.value);
      fits = omega (arith, c.args.rest.fits, found.0.high, ap length c.range_from.ensures.value, length-drop count text);
    }

pub range_from-requires-2 : goal.range_from-requires-2
range_from-requires-2 c = λ _.
    let text : List ℕ = c.args.rest.text.now in
    let count = c.in_ok-count.count in
    let utf8 = IsUtf8-from_is_utf8 text c.args.rest.utf8 in
    let found = subst (λ bytes. IsFirstByte (is_byte 0x3C) bytes (Some count)) c.as_bytes.ensures.value c.in_ok-count.ensures in
    after_seam text count utf8 found c.range_from.result.now c.range_from.ensures.value

pub invariant_of-after : goal.invariant_of-after
invariant_of-after c =
    let text : List ℕ = c.args.rest.text.now in
    let count = c.in_ok-count.count in
    let utf8 = IsUtf8-from_is_utf8 text c.args.rest.utf8 in
    let found = subst (λ bytes. IsFirstByte (is_byte 0x3C) bytes (Some count)) c.as_bytes.ensures.value c.in_ok-count.ensures in
    let here : List ℕ = c.range_from.result.now in
    let after : List ℕ = c.range_from-2.result.now in
    record {
      utf8 = is_utf8-from_IsUtf8 after
          (subst IsUtf8 (sym c.range_from-2.ensures.value) (after_utf8 text count utf8 found here c.range_from.ensures.value));
      fits = omega (
        arith,
        c.args.rest.fits,
        found.0.high,
        ap length c.range_from.ensures.value,
        length-drop count text,
        ap length c.range_from-2.ensures.value,
        length-drop 1 here,
        here_long text count utf8 found here c.range_from.ensures.value,
      );
    }

pub returns-clause-some : goal.returns-clause-some
returns-clause-some c =
    let text : List ℕ = c.args.rest.text.now in
    let count = c.in_ok-count.count in
    let utf8 = IsUtf8-from_is_utf8 text c.args.rest.utf8 in
    let found = subst (λ bytes. IsFirstByte (is_byte 0x3C) bytes (Some count)) c.as_bytes.ensures.value c.in_ok-count.ensures in
    next_sign c.args.rest _ _ count utf8 found c.range_from.ensures.value refl c.range_from-2.ensures.value refl
