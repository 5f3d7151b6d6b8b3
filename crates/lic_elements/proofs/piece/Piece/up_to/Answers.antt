use Rattle.std.proofs.Common.{refl, arith}
use Rattle.std.proofs.lemmas.Str.{IsUtf8-from_is_utf8, is_utf8-from_IsUtf8}
use Rattle.lic_elements.proofs.LocatedLemmas.{before_within, before_seam, before_utf8, before_fits, before_characters}
use Rattle.lic_elements.proofs.piece.Piece.up_to.Goals as goal

pub overflow_sub-end : goal.overflow_sub-end
overflow_sub-end c =
    before_within c.args.self c.args.rest c.requires (IsUtf8-from_is_utf8 c.args.self.text.now c.args.self.utf8)
    (IsUtf8-from_is_utf8 c.args.rest.text.now c.args.rest.utf8)

pub range-requires-clause-end_boundary : goal.range-requires-clause-end_boundary
range-requires-clause-end_boundary c =
    before_seam c.args.self c.args.rest c.requires (IsUtf8-from_is_utf8 c.args.self.text.now c.args.self.utf8)
    (IsUtf8-from_is_utf8 c.args.rest.text.now c.args.rest.utf8)

pub invariant_of-result : goal.invariant_of-result
invariant_of-result c =
    let one = IsUtf8-from_is_utf8 c.args.self.text.now c.args.self.utf8 in
    let two = IsUtf8-from_is_utf8 c.args.rest.text.now c.args.rest.utf8 in
    record {
      utf8 = is_utf8-from_IsUtf8 c.range.result.now (before_utf8 c.args.self c.args.rest c.requires one two _ c.range.result.now refl c.range.ensures.value);
      fits = omega (arith, c.args.self.fits, before_fits c.args.self c.args.rest c.requires one two _ c.range.result.now refl c.range.ensures.value);
    }

pub returns : goal.returns
returns c =
    before_characters c.args.self c.args.rest c.requires (IsUtf8-from_is_utf8 c.args.self.text.now c.args.self.utf8)
    (IsUtf8-from_is_utf8 c.args.rest.text.now c.args.rest.utf8) _ c.range.result.now refl c.range.ensures.value
