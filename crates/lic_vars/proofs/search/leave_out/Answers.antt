-- One instruction more is left out.
use Rattle.std.proofs.Common.{◌≡◌, ℕ, suc, ◌-◌, ◌<◌, ◌≤◌, ◌++◌, inl, inr, List, [], map, refl, sym, ap, ◌∙◌, arith}
use Rattle.std.proofs.lemmas.Bool.{cases_lt}
use Rattle.lic_tokens.specs.declared.token.Span.{Span}
use Rattle.lic_vars.specs.Moves.{Move}
use Rattle.lic_vars.specs.Cuts.{last_moves}
use Rattle.lic_vars.specs.Recorded.{recorded}
use Rattle.lic_vars.specs.Values.{Assigned}
use Rattle.lic_vars.specs.Views.{value_of}
use Rattle.lic_vars.proofs.SetLemmas.{last-none, instruction-moves}
use Rattle.lic_vars.proofs.search.leave_out.Goals as goal

recorded-none : (n : ℕ) (ms : List Move) (r : List ℕ) (letters : List Span) → ms ≡ [] → recorded n ms r letters ≡ recorded 0 ms r letters
recorded-none n ms r letters none = rw none refl

pub loop-walk-init : goal.loop-walk-init
loop-walk-init c =
    let all : c.args.size - (c.args.walk.now.left - c.args.walk.now.left) ≡ c.args.size = omega arith in
    record {
      above = omega (arith, c.saturating_sub-end.ensures);
      below = omega arith;
      cut = refl;
      letters = refl;
      values = λ r letters.
          ap (λ n. map value_of c.args.walk.now.values.items ++ recorded n (last_moves c.args.instructions.now c.args.walk.now.left) r letters) all;
    }

pub loop-walk-preserved : goal.loop-walk-preserved
loop-walk-preserved c =
    let instructions = c.args.instructions.now in
    let old = c.args.walk.now.left in
    let left = c.loop-walk.walk.left in
    let size = c.args.size in
    let n = size - (old - (left - 1)) in
    let values = map value_of c.loop-walk.walk.values.items in
    let inv = c.loop-walk.invariant in
    let some : 0 < left = omega (arith, c.loop-walk-test.true) in
    let one : suc n ≡ size - (old - left) = omega (arith, c.loop-walk-test.true, c.saturating_sub-end.ensures, inv.below) in
    let moves = instruction-moves instructions left c.index-instructions-instructions.result some (omega (arith, inv.below, c.requires.within)) c.index-instructions-instructions.is in
    record {
      above = omega (arith, c.loop-walk-test.true);
      below = omega (arith, inv.below);
      cut = inv.cut;
      letters = inv.letters;
      values = λ r letters.
          c.in_ok-leave_out_one.ensures n (last_moves instructions (left - 1)) r letters
          ∙ ap (λ (ms : List Move). values ++ recorded (suc n) ms r letters) (sym moves)
          ∙ ap (λ k. values ++ recorded k (last_moves instructions left) r letters) one ∙ inv.values r letters;
    }

pub returns : goal.returns
returns c =
    let instructions = c.args.instructions.now in
    let old = c.args.walk.now.left in
    let walk = c.loop-walk.walk in
    let values = map value_of walk.values.items in
    let inv = c.loop-walk.invariant in
    let end : walk.left ≡ old - c.args.size = omega (arith, c.loop-walk-test.false, c.saturating_sub-end.ensures, inv.above) in
    let n = c.args.size - (old - walk.left) in
    let zero_left : (r : List ℕ) (letters : List Span) → recorded 0 (last_moves instructions walk.left) r letters ≡ recorded n (last_moves instructions walk.left) r letters =
    λ r letters. elim (cases_lt old c.args.size) [
      | inl more ↦
          let none : walk.left ≡ 0 = omega arith in
          sym (recorded-none n (last_moves instructions walk.left) r letters (ap (last_moves instructions) none ∙ last-none instructions))
      | inr within ↦
          let none : 0 ≡ n = omega arith in
          ap (λ k. recorded k (last_moves instructions walk.left) r letters) none
    ] in
    record {
      left = end;
      cut = inv.cut;
      letters = inv.letters;
      values = λ r letters. ap (λ (others : List Assigned). values ++ others) (zero_left r letters) ∙ inv.values r letters;
    }
