use Rattle.std.proofs.Common.{◌≡◌, ◌+◌, ◌-◌, ◌≤◌, [], ℕ, List, length, take, drop, sym, ap, subst, arith, length-take-le, take-take, ◌∙◌}
use Rattle.std.specs.Prelude.{IsUtf8}
use Rattle.std.proofs.lemmas.List.{take_rest}
use Rattle.lic_kind.specs.LineRules.{rules_of}
use Rattle.lic_letters.specs.Simple.{AreDone, IsSpelled}
use Rattle.lic_letters.proofs.PlainLines.{line_utf8, none_plain, next_plain}
use Rattle.lic_letters.proofs.SpelledFronts.{front_spelled, none_done, put_spelled}
use Rattle.lic_letters.proofs.plain.spell_lines.Goals.{in-Some+in_ok-done+then-done-end, in_default}
use Rattle.lic_letters.proofs.plain.spell_lines.Goals as goal

pub loop-count-init : goal.loop-count-init
loop-count-init c =
    (omega arith, subst (AreDone c.args.bytes.now 0) (sym c.clear.ensures.items) (none_done c.args.bytes.now), none_plain (rules_of c.args.rules.now))

pub loop-count-preserved : goal.loop-count-preserved
loop-count-preserved c =
    let rules = rules_of c.args.rules.now in
    let bytes : List ℕ = c.args.bytes.now in
    let at : ℕ = c.loop-count.at in
    let count : ℕ = c.in-Some.count in
    let done : ℕ = c.in_ok-done.done in
    let copy : List ℕ = c.spell_to.new.spelled.items in
    let rest = take (length bytes - at) (drop at bytes) in
    let are : AreDone bytes done copy = c.in_ok-done.ensures.done in
    let far : at + count ≤ done = omega (arith, c.if-done-end.false) in
    let all = put_spelled bytes done [] (take done copy) are.put in
    let lines = c.loop-count.invariant.2 in
    let utf8 : IsUtf8 (take count rest) =
    line_utf8 bytes rest at count done (take_rest bytes at) c.in-Some.ensures.some far are.put.within all.2.utf8 lines.utf8 c.in-Some.ensures.feed in
    (far, are, next_plain rules bytes rest at count (take_rest bytes at) lines (c.in-Some.ensures.plain utf8))

pub returns-clause-spelled : goal.returns-clause-spelled
returns-clause-spelled c =
    let bytes : List ℕ = c.args.bytes.now in
    let at : ℕ = c.loop-count.at in
    let done : ℕ = c.match-plain_line.done in
    let copy : List ℕ = c.match-plain_line.spelled.items in
    let lines = c.loop-count.invariant.2 in
    let is : (at ≤ done) × AreDone bytes done copy = elim c.match-plain_line.branch [
      | in-Some+in_ok-done+then-done-end w ↦
          let are = subst (λ n. AreDone bytes n w.spell_to.new.spelled.items) (sym w.done-is) w.in_ok-done.ensures.done in
          (omega (arith, c.loop-count.invariant.0, w.in_ok-done.ensures.more, w.done-is), subst (λ v. AreDone bytes done v.items) (sym w.spelled-is) are)
      | in_default w ↦
          let are = subst (λ n. AreDone bytes n c.loop-count.spelled.items) (sym w.done-is) c.loop-count.invariant.1 in
          (omega (arith, c.loop-count.invariant.0, w.done-is), subst (λ v. AreDone bytes done v.items) (sym w.spelled-is) are)
    ] in
    let put = is.1.put in
    let all = put_spelled bytes done [] (take done copy) put in
    let text = take done bytes in
    let within : at ≤ length text = omega (arith, is.0, length-take-le done bytes put.within) in
    let same : take at text ≡ take at bytes = take-take at done bytes is.0 in
    let front = front_spelled text all.0 at all.2 within (subst IsUtf8 (sym same) lines.utf8) in
    let cut : c.truncate.new.self.items ≡ take at all.0 = c.truncate.ensures.items ∙ sym (take-take at done copy is.0) ∙ ap (take at) all.1 in
    subst (IsSpelled (take at bytes)) (sym cut) (subst (λ l. IsSpelled l (take at all.0)) same front)
