use Rattle.std.proofs.Common.{◌+◌, ◌*◌, ◌&&◌, ◌||◌, not, bit_or, if◌then◌else◌, ap₂, sym, ◌∙◌, subst}
use Rattle.lic_columns.specs.Masks.{IsColumn}
use Rattle.lic_columns.specs.Marks.{kept_by}
use Rattle.lic_letters.proofs.BitLemmas.{has_bit_or}
use Rattle.lic_columns.proofs.FlagLemmas.{before_is, after_is}
use Rattle.lic_columns.proofs.MarkLemmas.{kept_at}
use Rattle.lic_columns.proofs.marks.kept_of.Goals as goal

pub returns-else-separators : goal.returns-else-separators
returns-else-separators c = λ flags marks k ends is next mark_is.
    subst (λ b. IsColumn c.args.mark (if b then kept_by flags marks else marks) k) (sym c.if-separators.false) mark_is

pub returns-then-separators : goal.returns-then-separators
returns-then-separators c = λ flags marks k ends is next mark_is.
    let up = before_is flags c.args.before c.args.middle c.moved_up.result k ends.last is.bit c.moved_up.ensures.first c.moved_up.ensures.rest in
    let down = after_is flags c.args.middle c.args.after c.moved_down.result k is.bit next c.moved_down.ensures.last c.moved_down.ensures.rest in
    let beside = bit_or c.moved_up.result c.moved_down.result in
    subst (λ b. IsColumn c.but_not.result (if b then kept_by flags marks else marks) k) (sym c.if-separators.true) (record {
      bit = λ i small.
          c.but_not.ensures i small
          ∙ ap₂ (λ t u. t && not u) (mark_is.bit i small)
          (has_bit_or c.args.middle beside i ∙ ap₂ (λ t u. t || u) (is.bit i small)
          (has_bit_or c.moved_up.result c.moved_down.result i ∙ ap₂ (λ t u. t || u) (up i small) (down i small)))
          ∙ sym (kept_at flags marks (k * 64 + i));
    })
