use Rattle.std.proofs.Common.{codes, rules}
use Rattle.std.proofs.lemmas.Result.{IfOk-weaker}
use Rattle.clap.specs.Simple.{new_app}
use Rattle.lic_arguments.specs.CommandLine.{HasForm, files}
use Rattle.lic_arguments.proofs.CommandLemmas.{adds}
use Rattle.lic_arguments.proofs.command_line.tokens_command.Goals as goal

pub returns : goal.returns
returns c =
    let none : HasForm (new_app (codes "tokens")) c.after_help-command.result = (search rules, search rules) in
    let lists = c.in_ok-with_lists.ensures _ none in
    IfOk-weaker c.arg.result _ _ (λ command added. adds _ command _ _ files added lists c.files_argument.ensures) c.arg.ensures
