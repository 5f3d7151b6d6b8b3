use Rattle.std.proofs.lemmas.Result.{IfOk-weaker}
use Rattle.clap.specs.Simple.{App}
use Rattle.lic_arguments.specs.CommandLine.{HasForm, rules as rules_rule, words}
use Rattle.lic_arguments.proofs.CommandLemmas.{adds}
use Rattle.lic_arguments.proofs.command_line.with_lists.Goals as goal

pub returns : goal.returns
returns c =
    IfOk-weaker c.arg-2.result _ _
    (λ command added (a : App) (form : HasForm a c.args.command). adds _ command _ _ rules_rule added
    (adds _ _ _ _ words c.in_ok-arg.ensures form c.words_option.ensures) c.rules_option.ensures)
    c.arg-2.ensures
