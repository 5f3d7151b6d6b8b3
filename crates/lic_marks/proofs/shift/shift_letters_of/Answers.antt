use Rattle.std.proofs.Common.{◌||◌, ◌&&◌, false, set, length, ap, ◌∙◌, arith}
use Rattle.std.proofs.lemmas.List.{length-set}
use Rattle.lic_marks.proofs.RowSteps.{Leaves-one, Shifts-one, Shifts-plus}
use Rattle.lic_marks.proofs.shift.shift_letters_of.Goals as goal

pub returns : goal.returns
returns c = record {
  shifts = Shifts-plus _ _ _ _ _ _ _ _ _ (Leaves-one _ _ _ _ _ _ false (omega (arith, c.requires)) c.get-again.ensures)
      (Shifts-one _ _ _ _ _ _ _ _ false (omega (arith, c.requires)) c.get-again.ensures
      (c.put.ensures ∙ ap (λ b. set c.args.row.now c.args.at ((c.args.entry || c.get-again.result) && b)) c.passes-is_passed.ensures));
  len = ap length c.put.ensures ∙ length-set c.args.row.now c.args.at _;
}
