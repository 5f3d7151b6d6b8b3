use Rattle.std.proofs.Common.{codes, rules}
use Rattle.std.proofs.lemmas.Result.{IfOk-weaker}
use Rattle.clap.specs.Simple.{new_app}
use Rattle.lic_arguments.specs.CommandLine.{HasForm, after, all, files, limit, templates}
use Rattle.lic_arguments.proofs.CommandLemmas.{adds}
use Rattle.lic_arguments.proofs.command_line.scan_command.Goals as goal

pub returns : goal.returns
returns c =
    let none : HasForm (new_app (codes "scan")) c.after_help.result = (search rules, search rules) in
    let one = adds _ _ _ _ templates c.in_ok-command.ensures none c.templates_option.ensures in
    let three = c.in_ok-with_lists.ensures _ one in
    let four = adds _ _ _ _ all c.in_ok-arg.ensures three c.all_option.ensures in
    let five = adds _ _ _ _ after c.in_ok-arg-2.ensures four c.after_option.ensures in
    let six = adds _ _ _ _ limit c.in_ok-arg-3.ensures five c.limit_option.ensures in
    IfOk-weaker c.arg-5.result _ _ (λ command added. adds _ command _ _ files added six c.files_argument.ensures) c.arg-5.ensures
