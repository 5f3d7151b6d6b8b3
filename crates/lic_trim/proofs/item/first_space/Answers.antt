use Rattle.std.proofs.Common.{◌≡◌, ◌∙◌, sym, ap, length, arith, below_more}
use Rattle.std.specs.Char.{is_whitespace}
use Rattle.std.proofs.lemmas.List.{length-map, get_or-map}
use Rattle.std.proofs.lemmas.List.Sums.{position_or_len_is}
use Rattle.lic_trim.specs.Sources.{chars_of}
use Rattle.lic_trim.proofs.ItemLemmas.{char_of, none}
use Rattle.lic_trim.proofs.item.first_space.Goals as goal

pub returns-then-is_whitespace : goal.returns-then-is_whitespace
returns-then-is_whitespace c =
    let text = chars_of c.args.text.now in
    let index = c.loop-index.index in
    let many : length text ≡ length c.args.text.now = length-map c.args.text.now char_of in
    record {
      within = omega arith;
      index = sym (position_or_len_is is_whitespace text index 0 (omega arith) c.loop-index.invariant
          (λ lt. ap is_whitespace (get_or-map char_of c.args.text.now index none 0 (omega arith)) ∙ sym c.if-is_whitespace.ensures));
    }

pub loop-index-preserved : goal.loop-index-preserved
loop-index-preserved c =
    below_more _ _ c.loop-index.invariant
    (ap is_whitespace (get_or-map char_of c.args.text.now c.loop-index.index none 0 (omega arith))
    ∙ sym c.if-is_whitespace.ensures)

pub returns : goal.returns
returns c =
    let text = chars_of c.args.text.now in
    let many : length text ≡ length c.args.text.now = length-map c.args.text.now char_of in
    record {
      within = omega arith;
      index = sym (position_or_len_is is_whitespace text (length c.args.text.now) 0
          (omega arith) (λ k lt. c.loop-index.invariant k (omega arith)) (λ lt. absurd (omega arith)));
    }
