use Rattle.std.proofs.Common.{refl, sym, ap, codes}
use Rattle.std.specs.Char.{encode_utf8}
use Rattle.std.specs.Str.{chars}
use Rattle.lic_kind.specs.RuleFiles.{kind_named}
use Rattle.lic_kind.proofs.WordLemmas.{other_word, none_named}
use Rattle.lic_kind.proofs.rules.rule_line.kind_named.Goals as goal

pub returns-in-lead : goal.returns-in-lead
unfolding chars
returns-in-lead c = sym (ap (λ w. kind_named (chars w)) c.in-lead.is)

pub returns-in-text : goal.returns-in-text
unfolding chars
returns-in-text c = sym (ap (λ w. kind_named (chars w)) c.in-text.is)

pub returns-in-tail : goal.returns-in-tail
unfolding chars
returns-in-tail c = sym (ap (λ w. kind_named (chars w)) c.in-tail.is)

pub returns-in-text-2 : goal.returns-in-text-2
unfolding chars
returns-in-text-2 c = sym (ap (λ w. kind_named (chars w)) c.in-text-2.is)

pub returns-in-text-3 : goal.returns-in-text-3
unfolding chars
returns-in-text-3 c = sym (ap (λ w. kind_named (chars w)) c.in-text-3.is)

pub returns-in_default : goal.returns-in_default
unfolding encode_utf8
returns-in_default c =
    let word = c.args.word.now in
    sym (none_named (chars word)
    (other_word (codes "lead") word c.utf8.word refl c.in_default.not-lead)
    (other_word (codes "lead-space") word c.utf8.word refl c.in_default.not-text)
    (other_word (codes "tail") word c.utf8.word refl c.in_default.not-tail)
    (other_word (codes "tail-space") word c.utf8.word refl c.in_default.not-text-2)
    (other_word (codes "tail-repeat") word c.utf8.word refl c.in_default.not-text-3))
