use Rattle.std.proofs.Common.{◌≡◌, ◌∙◌, true, sym, ap, ⊎_elim, arith}
use Rattle.std.specs.Prelude.{slice_index}
use Rattle.std.specs.Char.{is_whitespace}
use Rattle.std.proofs.lemmas.Bool.{cases_lt}
use Rattle.lic_trim.specs.Walks.{walked}
use Rattle.lic_trim.proofs.ascii_cut.spaces.Goals as goal

pub loop-count-preserved : goal.loop-count-preserved
loop-count-preserved c =
    let line = walked c.args.side c.args.line.now in
    let count = c.loop-count.count in
    let here : is_whitespace (slice_index line count) ≡ true = sym (c.is_white.ensures ∙ ap is_whitespace c.byte_at.ensures) ∙ c.if-is_white.true in
    record {
      within = omega arith;
      all = λ i lt.
          ⊎_elim
          (λ before. c.loop-count.invariant.all i before)
          (λ last. let same : i ≡ count = omega arith in ap (λ k. is_whitespace (slice_index line k)) same ∙ here)
          (cases_lt i count);
    }
