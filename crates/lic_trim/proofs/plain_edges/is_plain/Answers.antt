use Rattle.std.proofs.Common.{◌∷◌, refl, arith}
use Rattle.std.proofs.lemmas.Bool.{eqb-true}
use Rattle.lic_trim.proofs.plain_edges.is_plain.Goals as goal

pub returns : goal.returns
returns c = λ yes past.
    (c.in-Some.ensures (c.args.first ∷ c.args.second ∷ past) (record {
      some = omega arith;
      first = refl;
      second = λ _. refl;
    })).closed (eqb-true c.in-Some.begun 0 yes)
