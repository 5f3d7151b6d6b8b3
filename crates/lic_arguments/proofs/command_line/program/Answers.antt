use Rattle.std.proofs.Common.{◌∙◌, ap, ap₂}
use Rattle.std.proofs.lemmas.Result.{IfOk-weaker}
use Rattle.clap.specs.Simple.{App, Shape, with_subcommand}
use Rattle.lic_arguments.proofs.command_line.program.Goals as goal

abbrev top_of : App → Shape
top_of a = a.top

pub returns : goal.returns
returns c =
    let one = c.in_ok-subcommand.ensures.shape c.in_ok-scan_command.ensures.1 ∙ ap₂ with_subcommand c.in_ok-bare_program.ensures (ap top_of c.in_ok-scan_command.ensures.0) in
    let two = c.in_ok-subcommand-2.ensures.shape c.in_ok-check_command.ensures.1 ∙ ap₂ with_subcommand one (ap top_of c.in_ok-check_command.ensures.0) in
    IfOk-weaker c.subcommand-3.result _ _
    (λ command added. added.shape c.in_ok-tokens_command.ensures.1 ∙ ap₂ with_subcommand two (ap top_of c.in_ok-tokens_command.ensures.0))
    c.subcommand-3.ensures
