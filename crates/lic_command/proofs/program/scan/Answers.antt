use Rattle.std.proofs.Common.{ap, length, map, subst, sym, ◌∙◌}
use Rattle.clap.specs.Matches.{found_of}
use Rattle.lic_arguments.specs.Options.{IsGiven}
use Rattle.lic_command.proofs.CommandLemmas.{argument_counts, argument_stops, files_count, files_stop, list_for, load_counts, load_stops, rules_for, scan_done}
use Rattle.lic_command.proofs.program.scan.Goals as goal

pub returns-in_err-listing-clause-writes : goal.returns-in_err-listing-clause-writes
returns-in_err-listing-clause-writes g c = load_counts c.from_residual-in_err-listing.result _ _ c.from_residual-in_err-listing.ensures.1

pub returns-in_err-loaded-clause-writes : goal.returns-in_err-loaded-clause-writes
returns-in_err-loaded-clause-writes g c = load_counts c.from_residual-in_err-loaded.result _ _ c.from_residual-in_err-loaded.ensures.1

pub returns-in_err-ask-clause-writes : goal.returns-in_err-ask-clause-writes
returns-in_err-ask-clause-writes g c = argument_counts c.from_residual-in_err-ask.result _ _ c.from_residual-in_err-ask.ensures.1

pub returns-in_err-written-clause-writes : goal.returns-in_err-written-clause-writes
returns-in_err-written-clause-writes g c =
    files_count _ _ c.from_residual-in_err-written.result _ c.from_residual-in_err-written.ensures.1 c.in_err-written.ensures.writes

pub returns-clause-done : goal.returns-clause-done
returns-clause-done g c =
    let read = c.in_ok-arguments.ensures in
    scan_done _ c.args.progress _ _ _ _ _ _ _ _ _ _ _ _ _ _ _ _ _ c.in_ok-written.written _
    (rules_for _ _ c.in_ok-arguments.arguments.rules read.rules c.in_ok-rules.ensures.profile c.in_ok-rules.ensures.file)
    (list_for _ _ c.in_ok-arguments.arguments.words read.words c.in_ok-words.ensures.none c.in_ok-words.ensures.file)
    c.in_ok-loaded.ensures.loaded c.in_ok-loaded.ensures.left_out read.all c.in_ok-ask.ensures.all read.limit c.in_ok-ask.ensures.limit
    (read.after.0, subst (λ n. IsGiven (found_of c.args.found.now) n read.after.0) (sym (ap length c.as_slice.ensures.value)) read.after.1, read.after.2)
    c.in_ok-ask.ensures.after (ap (map (λ f. f.now)) c.as_slice.ensures.value ∙ read.files) c.in_ok-written.ensures.written c.status_of.ensures.status

pub returns-in_err-arguments-clause-done : goal.returns-in_err-arguments-clause-done
returns-in_err-arguments-clause-done g c = argument_stops c.from_residual.result _ c.from_residual.ensures.1 _

pub returns-in_err-arguments-clause-writes : goal.returns-in_err-arguments-clause-writes
returns-in_err-arguments-clause-writes g c = argument_counts c.from_residual.result _ _ c.from_residual.ensures.1

pub returns-in_err-arguments-clause-few : goal.returns-in_err-arguments-clause-few
returns-in_err-arguments-clause-few g c = argument_stops c.from_residual.result _ c.from_residual.ensures.1 _

pub returns-in_err-rules-clause-done : goal.returns-in_err-rules-clause-done
returns-in_err-rules-clause-done g c = load_stops c.from_residual-in_err-rules.result _ c.from_residual-in_err-rules.ensures.1 _

pub returns-in_err-words-clause-done : goal.returns-in_err-words-clause-done
returns-in_err-words-clause-done g c = load_stops c.from_residual-in_err-words.result _ c.from_residual-in_err-words.ensures.1 _

pub returns-in_err-rules-clause-writes : goal.returns-in_err-rules-clause-writes
returns-in_err-rules-clause-writes g c = load_counts c.from_residual-in_err-rules.result _ _ c.from_residual-in_err-rules.ensures.1

pub returns-in_err-words-clause-writes : goal.returns-in_err-words-clause-writes
returns-in_err-words-clause-writes g c = load_counts c.from_residual-in_err-words.result _ _ c.from_residual-in_err-words.ensures.1

pub returns-in_err-rules-clause-few : goal.returns-in_err-rules-clause-few
returns-in_err-rules-clause-few g c = load_stops c.from_residual-in_err-rules.result _ c.from_residual-in_err-rules.ensures.1 _

pub returns-in_err-words-clause-few : goal.returns-in_err-words-clause-few
returns-in_err-words-clause-few g c = load_stops c.from_residual-in_err-words.result _ c.from_residual-in_err-words.ensures.1 _

pub returns-in_err-listing-clause-done : goal.returns-in_err-listing-clause-done
returns-in_err-listing-clause-done g c = load_stops c.from_residual-in_err-listing.result _ c.from_residual-in_err-listing.ensures.1 _

pub returns-in_err-listing-clause-few : goal.returns-in_err-listing-clause-few
returns-in_err-listing-clause-few g c = load_stops c.from_residual-in_err-listing.result _ c.from_residual-in_err-listing.ensures.1 _

pub returns-in_err-loaded-clause-done : goal.returns-in_err-loaded-clause-done
returns-in_err-loaded-clause-done g c = load_stops c.from_residual-in_err-loaded.result _ c.from_residual-in_err-loaded.ensures.1 _

pub returns-in_err-loaded-clause-few : goal.returns-in_err-loaded-clause-few
returns-in_err-loaded-clause-few g c = load_stops c.from_residual-in_err-loaded.result _ c.from_residual-in_err-loaded.ensures.1 _

pub returns-in_err-ask-clause-done : goal.returns-in_err-ask-clause-done
returns-in_err-ask-clause-done g c = argument_stops c.from_residual-in_err-ask.result _ c.from_residual-in_err-ask.ensures.1 _

pub returns-in_err-ask-clause-few : goal.returns-in_err-ask-clause-few
returns-in_err-ask-clause-few g c = argument_stops c.from_residual-in_err-ask.result _ c.from_residual-in_err-ask.ensures.1 _

pub returns-in_err-written-clause-done : goal.returns-in_err-written-clause-done
returns-in_err-written-clause-done g c = files_stop c.from_residual-in_err-written.result _ c.from_residual-in_err-written.ensures.1 _

pub returns-in_err-written-clause-few : goal.returns-in_err-written-clause-few
returns-in_err-written-clause-few g c = files_stop c.from_residual-in_err-written.result _ c.from_residual-in_err-written.ensures.1 _

pub returns-clause-writes : goal.returns-clause-writes
returns-clause-writes g c = c.in_ok-written.ensures.writes

pub returns-clause-few : goal.returns-clause-few
returns-clause-few g c = c.status_of.ensures.few
