use Rattle.std.proofs.Common.{◌+◌, ◌*◌, ◌&&◌, ◌||◌, not, ap₂, sym, ◌∙◌}
use Rattle.lic_letters.proofs.BitLemmas.{has_bit_or}
use Rattle.lic_columns.proofs.CellLemmas.{ended}
use Rattle.lic_columns.proofs.FlagLemmas.{before_is}
use Rattle.lic_columns.proofs.tokens.end_offsets.Goals as goal

pub returns : goal.returns
returns c = λ words kept joined k are ends word_is kept_ends kept_is joined_is.
    let up = before_is words c.args.before c.args.word c.moved_up.result k ends.last word_is.bit c.moved_up.ensures.first c.moved_up.ensures.rest in
    let kept_up = before_is kept c.args.kept_before c.args.marks.now.kept c.moved_up-2.result k kept_ends.last kept_is.bit c.moved_up-2.ensures.first
    c.moved_up-2.ensures.rest in
    record {
      bit = λ i small.
          has_bit_or c.but_not.result c.but_not-2.result i
          ∙ ap₂ (λ t u. t || u) (c.but_not.ensures i small ∙ ap₂ (λ t u. t && not u) (up i small) (word_is.bit i small))
          (c.but_not-2.ensures i small ∙ ap₂ (λ t u. t && not u) (kept_up i small) (joined_is.bit i small))
          ∙ sym (ended words kept joined are (k * 64 + i));
    }
