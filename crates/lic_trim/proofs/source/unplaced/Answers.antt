use Rattle.std.proofs.Common.{◌≡◌, Bool, true, false, not, refl, sym, ap, ◌∙◌}
use Rattle.lic_kind.specs.Kinds.{is_dropped}
use Rattle.std.proofs.lemmas.Iterator.{YieldsList-from_chars}
use Rattle.std.proofs.lemmas.Iterator.Consumers.{YieldsList-end}
use Rattle.lic_trim.specs.Sources.{unplaced, without_dropped}
use Rattle.lic_trim.proofs.SourceLemmas.{one_dropped, map-itself}
use Rattle.lic_trim.proofs.source.unplaced.Goals as goal

drops : (b : Bool) → not b ≡ false → b ≡ true
drops true h = refl
drops false h = cc

pub loop-char-preserved : goal.loop-char-preserved
loop-char-preserved c =
    c.loop-char.invariant ∙ sym (one_dropped c.loop-char.yielded c.in-Some.char (drops (is_dropped c.in-Some.char) (sym c.is_kept.ensures ∙ c.if-is_kept.false)))

pub returns : goal.returns
returns c =
    let all = YieldsList-end (YieldsList-from_chars c.args.text.now c.utf8.text cc) c.loop-char.yielded _ c.loop-char.yielded_by _ _ c.in-None.is c.next.ensures.steps in
    c.loop-char.invariant ∙ ap (λ cs. without_dropped (unplaced cs)) (sym (map-itself c.loop-char.yielded) ∙ all.0)
