use Rattle.std.proofs.Common.{◌∷◌, [], refl, subst, arith}
use Rattle.std.proofs.lemmas.Bool.{eqb-true}
use Rattle.lic_kind.specs.LineRules.{rules_of}
use Rattle.lic_trim.specs.Beginnings.{HasBegun}
use Rattle.lic_trim.proofs.BegunTexts.{begun_in_space}
use Rattle.lic_trim.proofs.ascii_sequences.begins_in_no_space.Goals as goal

pub returns-in-Some : goal.returns-in-Some
returns-in-Some c = λ none way white.
    let rules = rules_of c.args.rules.now in
    let begun = c.in-Some.ensures (32 ∷ []) (record { some = omega arith; first = refl; second = λ more. absurd (omega arith) }) in
    begun_in_space rules c.args.side (32 ∷ []) way (subst (HasBegun rules c.args.side (32 ∷ [])) (eqb-true c.in-Some.begun 0 none) begun) white
