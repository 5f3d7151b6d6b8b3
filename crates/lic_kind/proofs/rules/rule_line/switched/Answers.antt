use Rattle.std.proofs.Common.{refl, sym, ap, codes}
use Rattle.std.specs.Char.{encode_utf8}
use Rattle.std.specs.Str.{chars}
use Rattle.lic_kind.specs.RuleFiles.{switched}
use Rattle.lic_kind.proofs.WordLemmas.{other_word, not_switched}
use Rattle.lic_kind.proofs.rules.rule_line.switched.Goals as goal

pub returns-in-on : goal.returns-in-on
unfolding chars
returns-in-on c = sym (ap (λ w. switched (chars w)) c.in-on.is)

pub returns-in-off : goal.returns-in-off
unfolding chars
returns-in-off c = sym (ap (λ w. switched (chars w)) c.in-off.is)

pub returns-in_default : goal.returns-in_default
unfolding encode_utf8
returns-in_default c =
    let word = c.args.word.now in
    sym (not_switched (chars word)
    (other_word (codes "on") word c.utf8.word refl c.in_default.not-on)
    (other_word (codes "off") word c.utf8.word refl c.in_default.not-off))
