use Rattle.lic_command.proofs.CommandLemmas.{check_counts, check_done, list_for, load_counts, load_stops, rules_for}
use Rattle.lic_command.proofs.program.check_templates.Goals as goal

pub returns-in_err-loaded-clause-writes : goal.returns-in_err-loaded-clause-writes
returns-in_err-loaded-clause-writes g c = load_counts c.from_residual-in_err-loaded.result _ _ c.from_residual-in_err-loaded.ensures.1

pub returns-clause-done : goal.returns-clause-done
returns-clause-done g c =
    let read = c.read-arguments.ensures in
    check_done _ _ _ _ _ _ _ _ _ _ c.check-answer.result _ _ c.status_of_check.result c.status_of_check.ensures.status c.check-answer.ensures.report
    (rules_for _ _ c.read-arguments.result.rules read.rules c.in_ok-rules.ensures.profile c.in_ok-rules.ensures.file)
    (list_for _ _ c.read-arguments.result.words read.words c.in_ok-words.ensures.none c.in_ok-words.ensures.file)
    c.in_ok-loaded.ensures.loaded c.in_ok-loaded.ensures.left_out

pub returns-clause-writes : goal.returns-clause-writes
returns-clause-writes g c = check_counts _ _ c.check-answer.result _ c.status_of_check.result c.status_of_check.ensures.status c.check-answer.ensures.writes

pub returns-in_err-rules-clause-done : goal.returns-in_err-rules-clause-done
returns-in_err-rules-clause-done g c = load_stops c.from_residual.result _ c.from_residual.ensures.1 _

pub returns-in_err-words-clause-done : goal.returns-in_err-words-clause-done
returns-in_err-words-clause-done g c = load_stops c.from_residual-in_err-words.result _ c.from_residual-in_err-words.ensures.1 _

pub returns-in_err-rules-clause-writes : goal.returns-in_err-rules-clause-writes
returns-in_err-rules-clause-writes g c = load_counts c.from_residual.result _ _ c.from_residual.ensures.1

pub returns-in_err-words-clause-writes : goal.returns-in_err-words-clause-writes
returns-in_err-words-clause-writes g c = load_counts c.from_residual-in_err-words.result _ _ c.from_residual-in_err-words.ensures.1

pub returns-in_err-rules-clause-few : goal.returns-in_err-rules-clause-few
returns-in_err-rules-clause-few g c = load_stops c.from_residual.result _ c.from_residual.ensures.1 _

pub returns-in_err-words-clause-few : goal.returns-in_err-words-clause-few
returns-in_err-words-clause-few g c = load_stops c.from_residual-in_err-words.result _ c.from_residual-in_err-words.ensures.1 _

pub returns-in_err-listing-clause-done : goal.returns-in_err-listing-clause-done
returns-in_err-listing-clause-done g c = load_stops c.from_residual-in_err-listing.result _ c.from_residual-in_err-listing.ensures.1 _

pub returns-in_err-listing-clause-writes : goal.returns-in_err-listing-clause-writes
returns-in_err-listing-clause-writes g c = load_counts c.from_residual-in_err-listing.result _ _ c.from_residual-in_err-listing.ensures.1

pub returns-in_err-listing-clause-few : goal.returns-in_err-listing-clause-few
returns-in_err-listing-clause-few g c = load_stops c.from_residual-in_err-listing.result _ c.from_residual-in_err-listing.ensures.1 _

pub returns-in_err-loaded-clause-done : goal.returns-in_err-loaded-clause-done
returns-in_err-loaded-clause-done g c = load_stops c.from_residual-in_err-loaded.result _ c.from_residual-in_err-loaded.ensures.1 _

pub returns-in_err-loaded-clause-few : goal.returns-in_err-loaded-clause-few
returns-in_err-loaded-clause-few g c = load_stops c.from_residual-in_err-loaded.result _ c.from_residual-in_err-loaded.ensures.1 _

pub returns-clause-few : goal.returns-clause-few
returns-clause-few g c = c.status_of_check.ensures.few
