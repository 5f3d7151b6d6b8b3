use Rattle.std.proofs.Common.{◌≡◌, ◌<◌, ◌++◌, ◌∷◌, [], ℕ, List, length, get_or, take, ◌+◌, refl, sym, ap, subst, ◌∙◌, arith}
use Rattle.std.proofs.lemmas.List.{length-map}
use Rattle.lic_phrases.specs.Classes.{AreRepresentatives, classes_joined}
use Rattle.lic_phrases.proofs.LineClasses.{line_begun, line_continues}
use Rattle.lic_phrases.proofs.words.joining.join_line.Goals as goal

as_long : (heads : List ℕ) (a b : ℕ) → length (classes_joined heads a b) ≡ length heads
as_long heads a b = length-map heads _

pub loop-k-init : goal.loop-k-init
loop-k-init c = record {
  long = refl;
  within = omega arith;
  joined = λ lines known. line_begun lines c.args.heads.now c.args.line.now c.requires.some (c.requires.numbered 0 c.requires.some) known;
}

pub loop-k-preserved : goal.loop-k-preserved
loop-k-preserved c =
    let line = c.args.line.now in
    let old = c.loop-k.heads in
    let now : c.join_classes.new.heads ≡ classes_joined old (get_or line 0 0) (get_or line c.loop-k.k 0) = c.join_classes.ensures in
    let bound : get_or line c.loop-k.k 0 < length old = omega (arith, c.requires.numbered c.loop-k.k c.loop-k-test.true) in
    record {
      long = ap length now ∙ as_long old (get_or line 0 0) (get_or line c.loop-k.k 0) ∙ c.loop-k.invariant.long;
      within = omega arith;
      joined = λ lines known. subst (AreRepresentatives (lines ++ take (c.loop-k.k + 1) line ∷ [])) (sym now)
          (line_continues lines old line c.loop-k.k (omega arith) (omega arith) bound
          (c.loop-k.invariant.joined lines known));
    }
