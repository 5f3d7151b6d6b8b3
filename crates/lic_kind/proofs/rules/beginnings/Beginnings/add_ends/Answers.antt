use Rattle.std.proofs.Common.{◌≡◌, ℕ, ◌+◌, min, inl, inr, [], reverse, ap, subst, arith}
use Rattle.std.specs.Prelude.{slice_index_or}
use Rattle.std.proofs.lemmas.Bool.{cases_lt}
use Rattle.lic_kind.specs.Beginnings.{IsKnown, bit_of}
use Rattle.lic_kind.specs.TextLists.{texts_of}
use Rattle.lic_kind.proofs.rules.beginnings.Beginnings.add_ends.Goals as goal

pub loop-i-preserved : goal.loop-i-preserved
loop-i-preserved c =
    let texts = texts_of c.args.texts.now in
    let from : ℕ = c.args.from in
    let i : ℕ = c.loop-i.i in
    let new = c.add_end.new.self in
    let here : IsKnown new (bit_of from i) (reverse (slice_index_or texts i [])) =
    subst (IsKnown new (bit_of from i)) (ap reverse c.characters.ensures) (c.add_end.ensures.known (min (from + i) 63) (omega arith) c.bit.ensures) in
    record {
      known = λ k lt. elim (cases_lt k i) [
        | inl before ↦ c.add_end.ensures.grows (min (from + k) 63) (reverse (slice_index_or texts k [])) (omega arith) (c.loop-i.invariant.known k before)
        | inr last ↦
            let same : i ≡ k = omega arith in
            subst (λ n. IsKnown new (bit_of from n) (reverse (slice_index_or texts n []))) same here
      ];
      grows = λ k text small known. c.add_end.ensures.grows k text small (c.loop-i.invariant.grows k text small known);
    }
