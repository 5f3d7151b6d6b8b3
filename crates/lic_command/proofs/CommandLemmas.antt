-- From what each part has answered to what a command has done.
use Rattle.std.proofs.Common.{◌≡◌, ◌≢◌, ◌↔◌, ◌||◌, ℕ, ◌<◌, Bool, true, false, codes, List, [], Option, Some, None, Result, Ok, Err, IfOk, IfErr, IsErr, IsErrAnd, IsSome, IsSomeAnd, length, map, option_map, refl, sym, ap, subst, ◌∙◌}
use Rattle.std.specs.Borrow.{Bor}
use Rattle.std.specs.List.{list_all}
use Rattle.std.specs.Io.KnownBytes.{Appends}
use Rattle.std.proofs.lemmas.List.{length-map}
use Rattle.clap.specs.Matches.{first_value}
use Rattle.clap.specs.declared.error.kind.ErrorKind.{ErrorKind}
use Rattle.clap.specs.declared.error.kind.ErrorKind.TheVariants.{OutOfMemory}
use Rattle.clap.specs.declared.parser.matches.Found.{Found}
use Rattle.lic_kind.specs.LineRules.{LineRules, profile, rules_of}
use Rattle.lic_kind.specs.declared.rules.Rules.{Rules}
use Rattle.lic_phrases.specs.Rewriting.{Phrase}
use Rattle.lic_set.specs.Sets.{Known}
use Rattle.lic_arguments.specs.After.{IsAsGiven}
use Rattle.lic_arguments.specs.Arguments.{IsTripleOf}
use Rattle.lic_arguments.specs.CommandLine.{IsNoCall}
use Rattle.lic_arguments.specs.Options.{IsFlag, IsGiven, IsLimit, files_in}
use Rattle.lic_arguments.specs.declared.after.After.{After}
use Rattle.lic_arguments.specs.declared.after.Given.{Given}
use Rattle.lic_arguments.specs.declared.fault.ArgumentFault.{ArgumentFault}
use Rattle.lic_engine.specs.Checking.{Checked, IsCheckReport, says_yes}
use Rattle.lic_engine.specs.Failures.{CountsWrites}
use Rattle.lic_engine.specs.Stream.{one_more}
use Rattle.lic_engine.specs.declared.fault.RunFault.{RunFault}
use Rattle.lic_engine.specs.declared.fault.RunFault.TheVariants as fault
use Rattle.lic_load.specs.Listings.{count_of_names}
use Rattle.lic_load.specs.Loading.{AreRulesOfFile, IsListOfFile, IsLoaded}
use Rattle.lic_load.specs.declared.fault.LoadFault.{LoadFault}
use Rattle.lic_load.specs.declared.templates.Listing.{Listing}
use Rattle.lic_command.specs.Commands.{AreRulesFor, HasChecked, HasEnded, HasListed, HasScanned, IsListFor}
use Rattle.lic_command.specs.Commands.HasEnded.{helped, stopped}
use Rattle.lic_command.specs.Lines.{AreWritten, Input}
use Rattle.lic_command.specs.Outcomes.{CountsStops, IsStopAfter, StopsForWrites}
use Rattle.lic_command.specs.Statuses.{IsStatus, IsStatusOfCheck}
use Rattle.lic_command.specs.Reporting.{AreReported, IsStopReported}
use Rattle.lic_command.specs.Usage.{IsFault, IsShown}
use Rattle.lic_command.proofs.LineLemmas.{counts_more}
use Rattle.lic_command.specs.declared.faults.Stop.{Stop}
use Rattle.lic_command.specs.declared.faults.Stop.TheVariants.{Arguments, Load, Check, Write, Memory}
use Rattle.lic_command.specs.declared.files.Search.{Search}
use Rattle.lic_command.specs.declared.files.Work.TheVariants.{Scan, Tokens}
use Rattle.lic_command.specs.declared.files.Written.{Written}
use Rattle.lic_command.specs.declared.progress.Progress.{Progress}
use Rattle.lic_command.specs.declared.progress.Progress.TheVariants.{Hidden}

-- ---- what is loaded

-- no text is given where none was found, and one where one was
none_given : (path : Option (Bor (List ℕ))) (text : Option (List ℕ)) → option_map (λ s. s.now) path ≡ text → text ≡ None → path ≡ None
none_given None text same none = refl
none_given (Some p) text same none = absurd (subst (λ t. IsSomeAnd t (λ x. Unit {0})) (same ∙ none) tt)

some_given : (path : Option (Bor (List ℕ))) (text : Option (List ℕ)) → option_map (λ s. s.now) path ≡ text → IsSome text → IsSome path
some_given (Some p) text same some = refl
some_given None text same some = subst IsSome (sym same) some

pub rules_for : (found : Found) (rules : LineRules) (path : Option (Bor (List ℕ))) → option_map (λ s. s.now) path ≡ first_value found (codes "rules")
    → (path ≡ None → rules ≡ profile) → (IsSome path → AreRulesOfFile rules) → AreRulesFor found rules
rules_for found rules path same none file = record {
  none = λ no. none (none_given path _ same no);
  file = λ some. file (some_given path _ same some);
}

pub list_for : (found : Found) (words : List Phrase) (path : Option (Bor (List ℕ))) → option_map (λ s. s.now) path ≡ first_value found (codes "words")
    → (path ≡ None → words ≡ []) → (IsSome path → IsListOfFile words) → IsListFor found words
list_for found words path same none file = record {
  none = λ no. none (none_given path _ same no);
  file = λ some. file (some_given path _ same some);
}

-- ---- failed writes

-- no write failed where loading stops the command, or the arguments do
pub load_counts : (r : Result ℕ Stop) (n : ℕ) (f : LoadFault) → IsErrAnd r (λ stop. stop ≡ Load f) → CountsStops r n n
load_counts (Ok s) n f is = refl
load_counts (Err stop) n f is = subst (λ s. CountsStops {A = ℕ} (Err s) n n) (sym is) refl

pub argument_counts : (r : Result ℕ Stop) (n : ℕ) (f : ArgumentFault) → IsErrAnd r (λ stop. stop ≡ Arguments f) → CountsStops r n n
argument_counts (Ok s) n f is = refl
argument_counts (Err stop) n f is = subst (λ s. CountsStops {A = ℕ} (Err s) n n) (sym is) refl

-- nothing is said there of what is done
pub load_stops : {A : Type 0} (r : Result A Stop) (f : LoadFault) → IsErrAnd r (λ stop. stop ≡ Load f) → (P : A → Type 0) → IfOk r P
load_stops (Ok x) f is P = absurd is
load_stops (Err stop) f is P = tt

pub argument_stops : {A : Type 0} (r : Result A Stop) (f : ArgumentFault) → IsErrAnd r (λ stop. stop ≡ Arguments f) → (P : A → Type 0) → IfOk r P
argument_stops (Ok x) f is P = absurd is
argument_stops (Err stop) f is P = tt

pub files_stop : {A : Type 0} (r : Result A Stop) (stop : Stop) → IsErrAnd r (λ s. s ≡ stop) → (P : A → Type 0) → IfOk r P
files_stop (Ok x) stop is P = absurd is
files_stop (Err s) stop is P = tt

same_counts : (old new : ℕ) (stop : Stop) → StopsForWrites {A = Written} (Err stop) old new → CountsStops {A = ℕ} (Err stop) old new
same_counts old new Write counts = counts
same_counts old new Memory counts = counts
same_counts old new (Arguments fault) counts = absurd counts
same_counts old new (Load fault) counts = absurd counts
same_counts old new (Check fault) counts = absurd counts

-- the files stop the command as they stop
pub files_count : (old new : ℕ) (r : Result ℕ Stop) (stop : Stop) → IsErrAnd r (λ s. s ≡ stop)
    → StopsForWrites {A = Written} (Err stop) old new → CountsStops r old new
files_count old new (Ok s) stop is counts = absurd is
files_count old new (Err s) stop is counts = subst (λ s. CountsStops {A = ℕ} (Err s) old new) (sym is) (same_counts old new stop counts)

-- the work on files stops for lack of memory where a file cannot be opened for that, and a write about it has failed where one has
pub memory_counts : (old new : ℕ) (r : Result Written Stop) (stop : Stop) → IsErrAnd r (λ s. s ≡ stop) → stop ≡ Memory → new ≡ old
    → StopsForWrites r old new
memory_counts old new (Ok x) stop is memory same = absurd is
memory_counts old new (Err s) stop is memory same = subst (λ s. StopsForWrites {A = Written} (Err s) old new) (sym (is ∙ memory)) same

stop_counts : (old mid new : ℕ) (answer : Result Bool RunFault) (stop : Stop) → IsStopAfter answer stop → CountsWrites answer mid new → mid ≡ old
    → StopsForWrites {A = Written} (Err stop) old new
stop_counts old mid new answer Write after counts same = counts.2 after ∙ ap one_more same
stop_counts old mid new answer Memory after counts same = counts_more answer counts same after
stop_counts old mid new answer (Arguments fault) after counts same = absurd after
stop_counts old mid new answer (Load fault) after counts same = absurd after
stop_counts old mid new answer (Check fault) after counts same = absurd after

pub refusal_counts : (old mid new : ℕ) (answer : Result Bool RunFault) (r : Result Written Stop) (stop : Stop) → IsErrAnd r (λ s. s ≡ stop)
    → IsStopAfter answer stop → CountsWrites answer mid new → mid ≡ old → StopsForWrites r old new
refusal_counts old mid new answer (Ok x) stop is after counts same = absurd is
refusal_counts old mid new answer (Err s) stop is after counts same =
    subst (λ s. StopsForWrites {A = Written} (Err s) old new) (sym is) (stop_counts old mid new answer stop after counts same)

-- a check stops the command as a write stops it
pub check_counts : (old new : ℕ) (answer : Result Bool RunFault) (is_left_out : Bool) (r : Result ℕ Stop)
    → IsStatusOfCheck answer is_left_out r → CountsWrites answer old new → CountsStops r old new
check_counts old new (Ok x) b (Ok s) is counts = counts.0
check_counts old new (Ok x) b (Err stop) is counts = absurd is
check_counts old new (Err e) b (Ok s) is counts = absurd is
check_counts old new (Err (fault.Text f)) b (Err stop) is counts = subst (λ s. CountsStops {A = ℕ} (Err s) old new) (sym is) (counts.4 f refl)
check_counts old new (Err fault.Read) b (Err stop) is counts = subst (λ s. CountsStops {A = ℕ} (Err s) old new) (sym is) (counts.1 refl)
check_counts old new (Err fault.Write) b (Err stop) is counts = subst (λ s. CountsStops {A = ℕ} (Err s) old new) (sym is) (counts.2 refl)
check_counts old new (Err fault.Memory) b (Err stop) is counts = subst (λ s. CountsStops {A = ℕ} (Err s) old new) (sym is) (counts.3 refl)

-- ---- what is done

module _ (found : Found) (progress : Progress) (in_old in_new : Input) (out_old out_new err_old err_new : Option (List ℕ)) (failed_old failed_new : ℕ) where
  pub scan_done : (err_mid : Option (List ℕ)) (failed_mid : ℕ) (search : Search) (listing : Listing) (is_left_out : Bool) (all : Bool) (limit : Option ℕ)
      (after : Option After) (names : List (Bor (List ℕ))) (written : Written) (status : ℕ)
      → AreRulesFor found (rules_of search.rules.now) → IsListFor found search.words.now
      → IsLoaded (rules_of search.rules.now) search.words.now listing err_old err_mid failed_old failed_mid search.set.now
      → ((is_left_out ≡ true) ↔ (length search.set.now < count_of_names listing))
      → IsFlag found (codes "all") all → search.ask.now.all ≡ all → IsLimit found limit → search.ask.now.limit ≡ limit
      → ((given : Given) × IsGiven found (length names) given × IsAsGiven given after)
      → IsTripleOf search.set.now after search.ask.now.after
      → map (λ f. f.now) names ≡ files_in found
      → ((refused : List (List ℕ)) × AreWritten (Scan search) in_old out_old (map (λ name. name.now) names) refused in_new out_new written
      × (progress ≡ Hidden → AreReported err_mid failed_mid refused err_new failed_new))
      → IsStatus (written.is_refused || is_left_out) written.has_line status
      → HasScanned found progress in_old in_new out_old out_new err_old err_new failed_old failed_new status
  scan_done err_mid failed_mid search listing is_left_out all limit after names written status rules words loaded left_out flag same_all is_limit
      same_limit given triple files lines ends = record {
        search = search;
        is_left_out = is_left_out;
        refused = lines.0;
        written = written;
        mid = err_mid;
        failed_mid = failed_mid;
        rules = rules;
        words = words;
        templates = record { listing = listing; loaded = loaded; left_out = left_out };
        ask = record {
          all = subst (IsFlag found (codes "all")) (sym same_all) flag;
          limit = subst (IsLimit found) (sym same_limit) is_limit;
          given = given.0;
          after = after;
          options = subst (λ n. IsGiven found n given.0) (sym (length-map names (λ f. f.now)) ∙ ap length files) given.1;
          named = given.2;
          triple = triple;
        };
        lines = subst (λ ns. AreWritten (Scan search) in_old out_old ns lines.0 in_new out_new written) files lines.1;
        reported = lines.2;
        ends = ends;
      }

  or_false : (b : Bool) → (b || false) ≡ b
  or_false true = refl
  or_false false = refl

  pub tokens_done : (rules : Bor Rules) (words : Bor (List Phrase)) (names : List (Bor (List ℕ))) (written : Written) (status : ℕ)
      → AreRulesFor found (rules_of rules.now) → IsListFor found words.now
      → map (λ f. f.now) names ≡ files_in found
      → ((refused : List (List ℕ)) × AreWritten (Tokens words rules) in_old out_old (map (λ name. name.now) names) refused in_new out_new written
      × (progress ≡ Hidden → AreReported err_old failed_old refused err_new failed_new))
      → IsStatus (written.is_refused || false) written.has_line status
      → HasListed found progress in_old in_new out_old out_new err_old err_new failed_old failed_new status
  tokens_done rules words names written status for_rules for_words files lines ends = record {
    rules = rules;
    words = words;
    refused = lines.0;
    written = written;
    rules_for = for_rules;
    words_for = for_words;
    lines = subst (λ ns. AreWritten (Tokens words rules) in_old out_old ns lines.0 in_new out_new written) files lines.1;
    reported = lines.2;
    ends = subst (λ b. IsStatus b written.has_line status) (or_false written.is_refused) ends;
  }

module _ (found : Found) (out_old out_new err_old err_new : Option (List ℕ)) (failed_old failed_new : ℕ) where
  pub check_done : (rules : LineRules) (words : List Phrase) (set : List Known) (answer : Result Bool RunFault) (listing : Listing) (is_left_out : Bool)
      (r : Result ℕ Stop) → IsStatusOfCheck answer is_left_out r
      → IfOk answer (λ all. (checked : List Checked) × (lines : List ℕ) × IsCheckReport rules set words checked lines × Appends out_old out_new lines
      × (all ≡ list_all says_yes checked))
      → AreRulesFor found rules → IsListFor found words → IsLoaded rules words listing err_old err_new failed_old failed_new set
      → ((is_left_out ≡ true) ↔ (length set < count_of_names listing))
      → IfOk r (HasChecked found out_old out_new err_old err_new failed_old failed_new)
  check_done rules words set (Ok all) listing is_left_out (Ok s) is report for_rules for_words loaded left_out = record {
    rules = rules;
    words = words;
    set = set;
    is_left_out = is_left_out;
    checked = report.0;
    lines = report.1;
    rules_for = for_rules;
    words_for = for_words;
    templates = record { listing = listing; loaded = loaded; left_out = left_out };
    report = report.2;
    written = report.3;
    ends = subst (λ yes. IsStatus is_left_out yes s) report.4 is;
  }
  check_done rules words set (Ok all) listing is_left_out (Err stop) is report for_rules for_words loaded left_out = tt
  check_done rules words set (Err e) listing is_left_out (Ok s) is report for_rules for_words loaded left_out = absurd is
  check_done rules words set (Err e) listing is_left_out (Err stop) is report for_rules for_words loaded left_out = tt

-- help that is shown is what the arguments asked for, whatever is shown of the program's progress
pub help_ended : (old new err : Option (List ℕ)) (failed_old failed_new failed : ℕ) (text : List ℕ) (kind : ErrorKind) → ¬ (IsFault kind)
    → (r : Result ℕ Stop) → IsShown old new failed_old failed_new text r
    → IfOk r (λ status. (args : List (List ℕ)) → (progress : Progress) → (input : Input) → IsNoCall args kind
    → HasEnded args progress input input old new err err failed failed status)
help_ended old new err failed_old failed_new failed text kind help (Ok status) shown =
    λ args progress input no_call. helped kind no_call help text shown.0 refl refl refl shown.2
help_ended old new err failed_old failed_new failed text kind help (Err stop) shown = tt

-- what is written for these arguments is for arguments of their kind, but where memory ran out
pub usage_ended : (input : Input) (out_old out_new err_old err_new : Option (List ℕ)) (failed_old failed_new : ℕ) (args : List (List ℕ))
    (progress : Progress) (kind : ErrorKind) (r : Result ℕ Stop) → (kind ≡ OutOfMemory → r ≡ Err Memory) → (kind ≢ OutOfMemory → IsNoCall args kind)
    → IfOk r (λ status. (args : List (List ℕ)) → (progress : Progress) → (input : Input) → IsNoCall args kind
    → HasEnded args progress input input out_old out_new err_old err_new failed_old failed_new status)
    → IfOk r (HasEnded args progress input input out_old out_new err_old err_new failed_old failed_new)
usage_ended input out_old out_new err_old err_new failed_old failed_new args progress kind (Ok status) memory no_call ended =
    ended args progress input (no_call (λ is. subst (λ (r : Result ℕ Stop). IfErr r (λ stop. ⊥)) (memory is) tt))
usage_ended input out_old out_new err_old err_new failed_old failed_new args progress kind (Err stop) memory no_call ended = tt

-- what the program has done follows from what its work has done, or from the last line
pub ended : (args : List (List ℕ)) (in_old in_new : Input) (out_old out_new err_old err_mid err_new : Option (List ℕ))
    (failed_old failed_mid failed_new : ℕ) (progress : Progress) (status : ℕ)
    (outcome : Result ℕ Stop) → IfOk outcome (HasEnded args progress in_old in_new out_old out_new err_old err_mid failed_old failed_mid)
    → ((s : ℕ) → outcome ≡ Ok s → status ≡ s) → ((s : ℕ) → outcome ≡ Ok s → (err_new ≡ err_mid) × (failed_new ≡ failed_mid))
    → (IsErr outcome → status ≡ 2) → (IsErr outcome → IsStopReported err_new failed_new)
    → HasEnded args progress in_old in_new out_old out_new err_old err_new failed_old failed_new status
ended args in_old in_new out_old out_new err_old err_mid err_new failed_old failed_mid failed_new progress status (Ok s) has done same two reported =
    subst (λ s. HasEnded args progress in_old in_new out_old out_new err_old err_new failed_old failed_new s) (sym (done s refl))
    (subst (λ n. HasEnded args progress in_old in_new out_old out_new err_old err_new failed_old n s) (sym (same s refl).1)
    (subst (λ err. HasEnded args progress in_old in_new out_old out_new err_old err failed_old failed_mid s) (sym (same s refl).0) has))
ended args in_old in_new out_old out_new err_old err_mid err_new failed_old failed_mid failed_new progress status (Err stop) has done same two reported =
    stopped (reported refl) (two refl)
