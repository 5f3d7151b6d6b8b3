use Rattle.std.proofs.Common.{inl, inr}
use Rattle.lic_marks.proofs.Representing.{Completes-join, join-left, join-right}
use Rattle.lic_marks.proofs.laws.joined_marks_represent_either.Goals as goal

pub returns : goal.returns
returns c = λ r after m n v. (
  Completes-join r after m n v,
  λ h. elim h [ inl p ↦ join-left r after m n v p | inr p ↦ join-right r after m n v p ],
)
