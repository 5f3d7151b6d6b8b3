use Rattle.std.proofs.Common.{codes, rules}
use Rattle.std.proofs.lemmas.Result.{IfOk-weaker}
use Rattle.clap.specs.Simple.{new_app}
use Rattle.lic_arguments.specs.CommandLine.{HasForm, templates}
use Rattle.lic_arguments.proofs.CommandLemmas.{adds}
use Rattle.lic_arguments.proofs.command_line.check_command.Goals as goal

pub returns : goal.returns
returns c =
    let none : HasForm (new_app (codes "check")) c.after_help.result = (search rules, search rules) in
    let one = adds _ _ _ _ templates c.in_ok-command.ensures none c.templates_option.ensures in
    IfOk-weaker c.with_lists.result _ _ (λ command added. added _ one) c.with_lists.ensures
