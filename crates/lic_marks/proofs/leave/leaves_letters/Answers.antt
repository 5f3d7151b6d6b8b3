use Rattle.std.proofs.Common.{◌≡◌, ℕ, ◌==◌, Bool, false, length, eq-eqb, arith}
use Rattle.lic_marks.proofs.LetterSteps.{Leaves-letters, weight-letters}
use Rattle.lic_marks.proofs.leave.leaves_letters.Goals as goal

not_empty : (n : ℕ) (b : Bool) → b ≡ false → b ≡ (n == 0) → n ≡ 0 → ⊥
not_empty n b f h e = let t = eq-eqb n 0 e in cc

pub get-requires : goal.get-requires
get-requires c =
    let some : length c.args.text.now ≡ 0 → ⊥ = not_empty _ _ c.if-is_empty.false c.is_empty.ensures in
    omega (arith, some, c.requires, weight-letters c.args.text.now)

pub returns-else-is_empty : goal.returns-else-is_empty
returns-else-is_empty c =
    rw c.get.ensures (Leaves-letters c.args.text.now c.args.after c.args.entry c.args.row.now c.args.at false
    (not_empty _ _ c.if-is_empty.false c.is_empty.ensures) (omega (arith, c.requires, weight-letters c.args.text.now)))

pub overflow_add-at : goal.overflow_add-at
overflow_add-at c = omega (arith, c.requires, c.len-width.ensures, weight-letters c.args.text.now)
