use Rattle.std.proofs.Common.{refl}
use Rattle.std.proofs.lemmas.Result.{IfOk-weaker}
use Rattle.clap.specs.Matches.{found_of}
use Rattle.lic_arguments.proofs.CommandLemmas.{called}
use Rattle.lic_command.specs.Commands.HasEnded.{checked, listed, scanned}
use Rattle.lic_command.proofs.CommandLemmas.{usage_ended}
use Rattle.lic_command.proofs.program.try_command.Goals as goal

pub returns-in-Some-subcommand_matches-2-clause-done : goal.returns-in-Some-subcommand_matches-2-clause-done
returns-in-Some-subcommand_matches-2-clause-done g c =
    IfOk-weaker c.scan.result _ _ (λ status has. scanned (found_of c.in-Some-subcommand_matches-2.found.now)
    (called _ _ _ _ c.in-Ok.ensures.found (c.in-Some-subcommand_matches-2.ensures.found.0 refl) c.in-Some-subcommand_matches-2.ensures.rows) has) c.scan.ensures.done

pub returns-in-Some-subcommand_matches-clause-done : goal.returns-in-Some-subcommand_matches-clause-done
returns-in-Some-subcommand_matches-clause-done g c =
    IfOk-weaker c.check_templates.result _ _
    (λ status has. checked (found_of c.in-Some-subcommand_matches.found.now)
    (called _ _ _ _ c.in-Ok.ensures.found (c.in-Some-subcommand_matches.ensures.found.0 refl) c.in-Some-subcommand_matches.ensures.rows) has refl) c.check_templates.ensures.done

pub returns-in-Some-clause-done : goal.returns-in-Some-clause-done
returns-in-Some-clause-done g c =
    IfOk-weaker c.tokens.result _ _
    (λ status has. listed (found_of c.in-Some.found.now)
    (called _ _ _ _ c.in-Ok.ensures.found (c.in-Some.ensures.found.0 refl) c.in-Some.ensures.rows) has) c.tokens.ensures.done

pub returns-clause-done : goal.returns-clause-done
returns-clause-done g c =
    usage_ended _ _ _ _ _ _ _ _ c.args.progress _ c.show_usage.result c.show_usage.ensures.memory c.in-Err.ensures.fault c.show_usage.ensures.done

pub returns-in-Some-subcommand_matches-2-clause-writes : goal.returns-in-Some-subcommand_matches-2-clause-writes
returns-in-Some-subcommand_matches-2-clause-writes g c = c.scan.ensures.writes

pub returns-in-Some-subcommand_matches-2-clause-few : goal.returns-in-Some-subcommand_matches-2-clause-few
returns-in-Some-subcommand_matches-2-clause-few g c = c.scan.ensures.few

pub returns-in-Some-subcommand_matches-clause-writes : goal.returns-in-Some-subcommand_matches-clause-writes
returns-in-Some-subcommand_matches-clause-writes g c = c.check_templates.ensures.writes

pub returns-in-Some-subcommand_matches-clause-few : goal.returns-in-Some-subcommand_matches-clause-few
returns-in-Some-subcommand_matches-clause-few g c = c.check_templates.ensures.few

pub returns-in-Some-clause-writes : goal.returns-in-Some-clause-writes
returns-in-Some-clause-writes g c = c.tokens.ensures.writes

pub returns-in-Some-clause-few : goal.returns-in-Some-clause-few
returns-in-Some-clause-few g c = c.tokens.ensures.few

pub returns-clause-writes : goal.returns-clause-writes
returns-clause-writes g c = c.show_usage.ensures.writes

pub returns-clause-few : goal.returns-clause-few
returns-clause-few g c = c.show_usage.ensures.few
