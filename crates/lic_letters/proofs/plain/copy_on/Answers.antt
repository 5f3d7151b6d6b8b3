use Rattle.std.proofs.Common.{rules, ◌≡◌, ℕ, ◌-◌, ◌++◌, List, drop, length, take, sym, ap, subst, ◌∙◌}
use Rattle.lic_letters.specs.Simple.{AreDone}
use Rattle.lic_letters.proofs.SpelledFronts.{done_copied}
use Rattle.lic_letters.proofs.plain.copy_on.Goals as goal

pub returns-clause-more : goal.returns-clause-more
returns-clause-more c = λ n done.
    let bytes : List ℕ = c.args.bytes.now in
    let old : List ℕ = c.args.copy.now.items in
    let k : ℕ = c.min-to.result - c.len-from.result in
    let from : c.len-from.result ≡ length old = search rules in
    subst (AreDone bytes n) (sym (c.in_ok-extend_from_slice.ensures.items ∙ ap (λ i. old ++ take k (drop i bytes)) from)) (done_copied bytes n k old done)
