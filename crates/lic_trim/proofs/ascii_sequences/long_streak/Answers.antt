use Rattle.std.proofs.Common.{sym, ap, ◌∙◌, arith}
use Rattle.lic_kind.specs.Kinds.{kind_of, is_mark_kind}
use Rattle.lic_trim.proofs.Walking.{length-walked}
use Rattle.lic_trim.proofs.ascii_sequences.long_streak.Goals as goal

pub returns : goal.returns
returns c =
    let many = length-walked c.args.side c.args.line.now in
    let known = c.streak_length-streak.ensures in
    record {
      separators = sym c.separators.ensures ∙ c.if-not-separators.false;
      mark = ap (λ d. is_mark_kind (kind_of d)) (sym c.byte_at-2.ensures) ∙ sym c.is_mark.ensures ∙ c.if-not-is_mark.false;
      long = omega arith;
      within = omega (arith, many, known.within);
      same = known.same;
      stop = λ lt. known.stop (omega (arith, many));
    }
