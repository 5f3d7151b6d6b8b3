use Rattle.std.proofs.Common.{refl, sym, ap, ◌∙◌, codes}
use Rattle.std.specs.Char.{encode_utf8}
use Rattle.std.specs.Option.{option_map_or}
use Rattle.std.specs.Str.{chars}
use Rattle.lic_kind.specs.RuleFiles.{text, items, separators, unknown, rule_line}
use Rattle.lic_kind.specs.RuleLines.{read}
use Rattle.lic_kind.proofs.WordLemmas.{other_word, neither}
use Rattle.lic_kind.proofs.rules.rule_line.rule_line.Goals as goal

pub returns-in-Some : goal.returns-in-Some
unfolding chars
returns-in-Some c =
    ap (λ o. option_map_or items o unknown) (sym c.in-Some.is ∙ c.switch.ensures)
    ∙ sym (ap (λ w. rule_line (chars w) (read c.args.following)) c.in-items.is)

pub returns-in-None : goal.returns-in-None
unfolding chars
returns-in-None c =
    ap (λ o. option_map_or items o unknown) (sym c.in-None.is ∙ c.switch.ensures)
    ∙ sym (ap (λ w. rule_line (chars w) (read c.args.following)) c.in-items.is)

pub returns-in-Some-switch : goal.returns-in-Some-switch
unfolding chars
returns-in-Some-switch c =
    ap (λ o. option_map_or separators o unknown) (sym c.in-Some-switch.is ∙ c.switch-in-separators.ensures)
    ∙ sym (ap (λ w. rule_line (chars w) (read c.args.following)) c.in-separators.is)

pub returns-in-None-switch : goal.returns-in-None-switch
unfolding chars
returns-in-None-switch c =
    ap (λ o. option_map_or separators o unknown) (sym c.in-None-switch.is ∙ c.switch-in-separators.ensures)
    ∙ sym (ap (λ w. rule_line (chars w) (read c.args.following)) c.in-separators.is)

pub returns-in-Some-kind_named : goal.returns-in-Some-kind_named
unfolding encode_utf8
returns-in-Some-kind_named c =
    let word = c.args.word.now in
    ap (λ o. option_map_or (λ kind. text kind (read c.args.following)) o unknown) (sym c.in-Some-kind_named.is ∙ c.kind_named.ensures)
    ∙ sym (neither (chars word) (read c.args.following)
    (other_word (codes "items") word c.utf8.word refl c.in_default.not-items)
    (other_word (codes "separators") word c.utf8.word refl c.in_default.not-separators))

pub returns-in-None-kind_named : goal.returns-in-None-kind_named
unfolding encode_utf8
returns-in-None-kind_named c =
    let word = c.args.word.now in
    ap (λ o. option_map_or (λ kind. text kind (read c.args.following)) o unknown) (sym c.in-None-kind_named.is ∙ c.kind_named.ensures)
    ∙ sym (neither (chars word) (read c.args.following)
    (other_word (codes "items") word c.utf8.word refl c.in_default.not-items)
    (other_word (codes "separators") word c.utf8.word refl c.in_default.not-separators))
