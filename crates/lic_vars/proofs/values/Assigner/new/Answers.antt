-- The instructions of the template of the number.
use Rattle.std.proofs.Common.{List, map, ap, ◌∙◌}
use Rattle.lic_markup.specs.declared.part.Part.{Part}
use Rattle.lic_markup.specs.Parts.{TemplateValue, sequence, part_of}
use Rattle.lic_vars.specs.Moves.{moves}
use Rattle.lic_vars.proofs.AssignLemmas.{parts-of}
use Rattle.lic_vars.proofs.values.Assigner.new.Goals as goal

pub invariant_of-result : goal.invariant_of-result
invariant_of-result c = record {
  pieces = c.in_ok-instructions.ensures.pieces;
  moves = λ known number.
      let parts = parts-of c.args.set.now c.args.template known c.parts.result.now number
      (λ d. c.parts.ensures ∙ ap (λ (t : TemplateValue). t.parts) (c.template-parsed.ensures d)) in
      c.in_ok-instructions.ensures.moves ∙ ap (λ (ps : List Part). moves (sequence (map part_of ps))) parts;
}
