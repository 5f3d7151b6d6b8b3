-- A blank leads over the blank before the place, or stays at a gap.
use Rattle.std.proofs.Common.{inl, inr, sym, ◌∙◌}
use Rattle.std.proofs.lemmas.Bool.{true≢false}
use Rattle.lic_places.specs.Places.OverBlank.{stays}
use Rattle.lic_view.proofs.ViewBlanks.{over_blank-past}
use Rattle.lic_view.proofs.view.View.over_blank.Goals as goal
use Rattle.lic_view.proofs.view.View.over_blank.Goals.{then-place-eq0-via-then-place-eq0, then-place-eq0-via-else-place-eq0+then-is_blank, then-place-eq0-via-else-place-eq0+else-is_blank+then-is_token_end}

pub returns-then-is_after_blank : goal.returns-then-is_after_blank
returns-then-is_after_blank c = over_blank-past c.args.self.now c.args.place (c.is_after_blank.ensures.0 c.if-is_after_blank.true)

pub returns-then-place-eq0 : goal.returns-then-place-eq0
returns-then-place-eq0 c =
    stays
    (λ past. true≢false (sym (c.is_after_blank.ensures.1 past) ∙ c.if-is_after_blank.false))
    (elim c.then-place-eq0.branch [
      | then-place-eq0-via-then-place-eq0 w ↦ inl w.if-place-eq0.true
      | then-place-eq0-via-else-place-eq0+then-is_blank w ↦ inr (inl (sym w.is_blank.ensures ∙ w.if-is_blank.true))
      | then-place-eq0-via-else-place-eq0+else-is_blank+then-is_token_end w ↦ inr (inr (w.is_token_end.ensures.0 w.if-is_token_end.true))
    ])
