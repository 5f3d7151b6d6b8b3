use Rattle.std.proofs.Common.{◌∙◌, sym, length, arith}
use Rattle.std.specs.Char.{is_whitespace}
use Rattle.std.proofs.lemmas.List.Sums.{position_or_len_is}
use Rattle.lic_trim.proofs.ascii_cut.first_space.Goals as goal

pub returns-then-is_white : goal.returns-then-is_white
returns-then-is_white c =
    let text = c.args.line.now in
    let index = c.loop-index.index in
    record {
      within = omega arith;
      index = sym (position_or_len_is is_whitespace text index 0
          (omega arith) c.loop-index.invariant (λ lt. sym c.is_white.ensures ∙ c.if-is_white.true));
    }

pub returns : goal.returns
returns c =
    let text = c.args.line.now in
    record {
      within = omega arith;
      index = sym (position_or_len_is is_whitespace text (length text) 0
          (omega arith) (λ k lt. c.loop-index.invariant k (omega arith)) (λ lt. absurd (omega arith)));
    }
