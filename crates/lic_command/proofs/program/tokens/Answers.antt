use Rattle.std.proofs.Common.{ap, map, ◌∙◌}
use Rattle.lic_command.proofs.CommandLemmas.{argument_counts, argument_stops, files_count, files_stop, list_for, load_counts, load_stops, rules_for, tokens_done}
use Rattle.lic_command.proofs.program.tokens.Goals as goal

pub returns-in_err-written-clause-writes : goal.returns-in_err-written-clause-writes
returns-in_err-written-clause-writes g c =
    files_count _ _ c.from_residual-in_err-written.result _ c.from_residual-in_err-written.ensures.1 c.in_err-written.ensures.writes

pub returns-clause-done : goal.returns-clause-done
returns-clause-done g c =
    let read = c.in_ok-arguments.ensures in
    tokens_done _ c.args.progress _ _ _ _ _ _ _ _ _ _ _ c.in_ok-written.written _
    (rules_for _ _ c.in_ok-arguments.arguments.rules read.rules c.in_ok-rules.ensures.profile c.in_ok-rules.ensures.file)
    (list_for _ _ c.in_ok-arguments.arguments.words read.words c.in_ok-words.ensures.none c.in_ok-words.ensures.file)
    (ap (map (λ f. f.now)) c.as_slice.ensures.value ∙ read.files)
    c.in_ok-written.ensures.written c.status_of.ensures.status

pub returns-in_err-arguments-clause-done : goal.returns-in_err-arguments-clause-done
returns-in_err-arguments-clause-done g c = argument_stops c.from_residual.result _ c.from_residual.ensures.1 _

pub returns-in_err-arguments-clause-writes : goal.returns-in_err-arguments-clause-writes
returns-in_err-arguments-clause-writes g c = argument_counts c.from_residual.result _ _ c.from_residual.ensures.1

pub returns-in_err-arguments-clause-few : goal.returns-in_err-arguments-clause-few
returns-in_err-arguments-clause-few g c = argument_stops c.from_residual.result _ c.from_residual.ensures.1 _

pub returns-in_err-rules-clause-done : goal.returns-in_err-rules-clause-done
returns-in_err-rules-clause-done g c = load_stops c.from_residual-in_err-rules.result _ c.from_residual-in_err-rules.ensures.1 _

pub returns-in_err-words-clause-done : goal.returns-in_err-words-clause-done
returns-in_err-words-clause-done g c = load_stops c.from_residual-in_err-words.result _ c.from_residual-in_err-words.ensures.1 _

pub returns-in_err-rules-clause-writes : goal.returns-in_err-rules-clause-writes
returns-in_err-rules-clause-writes g c = load_counts c.from_residual-in_err-rules.result _ _ c.from_residual-in_err-rules.ensures.1

pub returns-in_err-words-clause-writes : goal.returns-in_err-words-clause-writes
returns-in_err-words-clause-writes g c = load_counts c.from_residual-in_err-words.result _ _ c.from_residual-in_err-words.ensures.1

pub returns-in_err-rules-clause-few : goal.returns-in_err-rules-clause-few
returns-in_err-rules-clause-few g c = load_stops c.from_residual-in_err-rules.result _ c.from_residual-in_err-rules.ensures.1 _

pub returns-in_err-words-clause-few : goal.returns-in_err-words-clause-few
returns-in_err-words-clause-few g c = load_stops c.from_residual-in_err-words.result _ c.from_residual-in_err-words.ensures.1 _

pub returns-in_err-written-clause-done : goal.returns-in_err-written-clause-done
returns-in_err-written-clause-done g c = files_stop c.from_residual-in_err-written.result _ c.from_residual-in_err-written.ensures.1 _

pub returns-in_err-written-clause-few : goal.returns-in_err-written-clause-few
returns-in_err-written-clause-few g c = files_stop c.from_residual-in_err-written.result _ c.from_residual-in_err-written.ensures.1 _

pub returns-clause-writes : goal.returns-clause-writes
returns-clause-writes g c = c.in_ok-written.ensures.writes

pub returns-clause-few : goal.returns-clause-few
returns-clause-few g c = c.status_of.ensures.few
