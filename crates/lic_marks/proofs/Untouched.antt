-- A part of a row in which no position is active, and at which no word begins, stays as it is.
use Rattle.std.proofs.Common.{◌≡◌, ℕ, ◌+◌, ◌-◌, ◌≤◌, ◌<◌, Bool, false, List, ◌++◌, length, drop, get_or, replicate, refl, sym, ap, ◌∙◌, arith}
use Rattle.std.specs.List.{slice_range}
use Rattle.std.proofs.lemmas.List.{get_or_default}
use Rattle.std.proofs.lemmas.List.Edits.{get_or-between, length-between}
use Rattle.std.proofs.lemmas.List.Folds.{drop_split}
use Rattle.lic_marks.specs.Cores.{Core}
use Rattle.lic_marks.specs.Marks.{no_marks}
use Rattle.lic_marks.specs.Rows.{weight, marks_of, Leaves, Shifts}
use Rattle.lic_marks.proofs.Shifting.{can_leave-no_marks}
use Rattle.lic_marks.proofs.RowSteps.{marks_of-clear, Shifts-clear_slice}
use Rattle.lic_marks.proofs.ClearRows.{all_clear}

-- a range of clear flags
slice_clear : (row : List Bool) (at end : ℕ) → end ≤ length row → ((k : ℕ) → at ≤ k → k < end → get_or row k false ≡ false) →
    slice_range row at end ≡ replicate (length (slice_range row at end)) false
slice_clear row at end width clear =
    all_clear (slice_range row at end) (λ k d inside.
    let near : k < end - at = omega (arith, inside, length-between row at end width) in
    get_or-between row at end k d (omega arith) ∙ get_or_default row (at + k) d false (omega arith) ∙ clear (at + k) (omega arith) (omega arith))

module _ (r : Core) (after : Bool) (row : List Bool) (at : ℕ) (width : at + weight r ≤ length row)
    (clear : (k : ℕ) → at ≤ k → k < at + weight r → get_or row k false ≡ false) where
  pub Leaves-clear : Leaves r after false row at false
  Leaves-clear =
      let few : length (slice_range row at (at + weight r)) ≡ weight r = omega (arith, length-between row at (at + weight r) width) in
      let here : drop at row ≡ replicate (weight r) false ++ drop (at + weight r) row =
      drop_split row at (at + weight r) (omega arith)
      ∙ ap (λ s. s ++ drop (at + weight r) row) (slice_clear row at (at + weight r) width clear ∙ ap (λ k. replicate k false) few) in
      let none : marks_of r (drop at row) ≡ no_marks r = ap (marks_of r) here ∙ marks_of-clear r (drop (at + weight r) row) in
      record { answer = rw none (sym (can_leave-no_marks r after)) }

  pub Shifts-untouched : (c : ℕ) → Shifts r after false c row at row false
  Shifts-untouched c = Shifts-clear_slice r after c row at (weight r) width refl (slice_clear row at (at + weight r) width clear)
