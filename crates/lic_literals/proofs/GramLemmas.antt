-- The grams of a window, where it is in bytes.
use Rattle.std.proofs.Common.{◌≡◌, ℕ, ◌+◌, ◌-◌, ◌≤◌, List, length, take, drop, sym, ap, ◌∙◌, arith}
use Rattle.std.specs.Prelude.{slice_range}
use Rattle.std.proofs.lemmas.List.{drop-drop, drop-take, take-take}
use Rattle.memchr.specs.Find.{OccursAt}
use Rattle.memchr.proofs.lemmas.MatchLemmas.{OccursAt-part}

-- a part of the first n bytes from an offset on
part_within : (bytes : List ℕ) (from n d size : ℕ) → d + size ≤ n →
    slice_range (take n (drop from bytes)) d (d + size) ≡ slice_range bytes (from + d) (from + d + size)
part_within bytes from n d size fits =
    let split : n ≡ d + (n - d) = omega arith in
    let here : d + size - d ≡ size = omega arith in
    let there : size ≡ from + d + size - (from + d) = omega arith in
    ap (λ m. take m (drop d (take n (drop from bytes)))) here
    ∙ ap (λ m. take size (drop d (take m (drop from bytes)))) split
    ∙ ap (take size) (drop-take d (n - d) (drop from bytes))
    ∙ take-take size (n - d) (drop d (drop from bytes)) (omega arith)
    ∙ ap (take size) (drop-drop d from bytes)
    ∙ ap (λ m. take m (drop (from + d) bytes)) there

-- a part of what is at an offset occurs as much later
pub part_of_occurrence : (bytes window : List ℕ) (p d size : ℕ) → OccursAt bytes window p → d + size ≤ length window →
    slice_range window d (d + size) ≡ slice_range bytes (p + d) (p + d + size)
part_of_occurrence bytes window p d size occurs fits =
    ap (λ w. slice_range w d (d + size)) (sym (OccursAt-part bytes window p occurs)) ∙ part_within bytes p (length window) d size fits
