use Rattle.std.proofs.Common.{◌≡◌, sym, ◌∙◌}
use Rattle.std.proofs.lemmas.Bool.{true≢false}
use Rattle.lic_reverse.specs.Tidily.{spans_of}
use Rattle.lic_reverse.proofs.TakenCases.{by_taken}
use Rattle.lic_reverse.proofs.ways.Ways.is_same.Goals as goal
use Rattle.lic_reverse.proofs.ways.Ways.is_same.Goals.{then-are_same, else-are_same}

pub returns-then-are_same-2 : goal.returns-then-are_same-2
returns-then-are_same-2 c = λ third.
    elim c.if-are_same.branch [
      | then-are_same w ↦
          by_taken (λ s. spans_of c.args.self.now s ≡ spans_of c.args.other.now s)
          (sym c.deref.ensures.value ∙ c.are_same.ensures w.if-are_same.true ∙ c.deref-2.ensures.value)
          (sym w.deref-then-are_same.ensures.value ∙ w.are_same-then-are_same.ensures (sym w.value-is ∙ c.if-are_same-2.true) ∙ w.deref-then-are_same-2.ensures.value)
          (sym c.deref-then-are_same-2-2.ensures.value ∙ c.are_same-then-are_same-2.ensures third ∙ c.deref-then-are_same-2-3.ensures.value)
      | else-are_same w ↦ absurd (true≢false (sym c.if-are_same-2.true ∙ w.value-is ∙ w.if-are_same.false))
    ]
