use Rattle.std.proofs.Common.{◌≡◌, ◌∙◌, Some, ap, rules}
use Rattle.std.specs.Prelude.{pos}
use Rattle.clap.specs.declared.builder.value_parser.ValueParser.{ValueParser}
use Rattle.clap.specs.declared.builder.value_parser.ValueParser.TheVariants.{Signed}
use Rattle.lic_arguments.proofs.command_line.limit_option.Goals as goal

pub returns : goal.returns
returns c =
    let given = c.value_parser-2.ensures.given in
    let made : c.range.result ≡ Signed (pos 1) (pos 4294967295) = rw c.value_parser.ensures at c.range.ensures in
    let parser : c.value_parser-2.result.value_parser ≡ Some (Signed (pos 1) (pos 4294967295)) = given.1 ∙ ap (λ (p : ValueParser). Some p) (given.2 ∙ made) in
    (search (rules, parser), search rules)
