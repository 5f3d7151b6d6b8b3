-- What a command has done where its work is done, and what the program has done.
use Rattle.std.specs.Prelude.{◌≡◌, ◌↔◌, ◌||◌, ℕ, ◌<◌, Bool, true, codes, List, [], length, Option, None, IsSome}
use Rattle.std.specs.Borrow.{Bor}
use Rattle.std.specs.List.{list_all}
use Rattle.std.specs.Io.KnownBytes.{Appends}
use Rattle.clap.specs.Matches.{first_value}
use Rattle.clap.specs.declared.error.kind.ErrorKind.{ErrorKind}
use Rattle.clap.specs.declared.parser.matches.Found.{Found}
use Rattle.lic_kind.specs.LineRules.{LineRules, profile, rules_of}
use Rattle.lic_kind.specs.declared.rules.Rules.{Rules}
use Rattle.lic_phrases.specs.Rewriting.{Phrase}
use Rattle.lic_set.specs.Sets.{Known}
use Rattle.lic_arguments.specs.After.{IsAsGiven}
use Rattle.lic_arguments.specs.Arguments.{IsTripleOf}
use Rattle.lic_arguments.specs.CommandLine.{IsCall, IsNoCall}
use Rattle.lic_arguments.specs.Options.{IsFlag, IsGiven, IsLimit, files_in}
use Rattle.lic_arguments.specs.declared.after.After.{After}
use Rattle.lic_arguments.specs.declared.after.Given.{Given}
use Rattle.lic_engine.specs.Checking.{Checked, IsCheckReport, says_yes}
use Rattle.lic_load.specs.Listings.{count_of_names}
use Rattle.lic_load.specs.Loading.{AreRulesOfFile, IsListOfFile, IsLoaded}
use Rattle.lic_load.specs.Reporting.{IsReported}
use Rattle.lic_load.specs.declared.templates.Listing.{Listing}
use Rattle.lic_command.specs.Lines.{AreWritten, Input}
use Rattle.lic_command.specs.Statuses.{IsStatus}
use Rattle.lic_command.specs.Reporting.{AreReported, IsStopReported}
use Rattle.lic_command.specs.Usage.{IsFault}
use Rattle.lic_command.specs.declared.files.Search.{Search}
use Rattle.lic_command.specs.declared.files.Work.TheVariants.{Scan, Tokens}
use Rattle.lic_command.specs.declared.files.Written.{Written}
use Rattle.lic_command.specs.declared.progress.Progress.{Progress}
use Rattle.lic_command.specs.declared.progress.Progress.TheVariants.{Hidden}

-- ---- what is loaded

-- the line rules: those of the profile where no file is given, and what a file says where one is
pub record AreRulesFor (found : Found) (rules : LineRules) : Type 0 where
  pub none : first_value found (codes "rules") ≡ None → rules ≡ profile
  pub file : IsSome (first_value found (codes "rules")) → AreRulesOfFile rules

-- the list of equivalent words: an empty one where no file is given, and what a file says where one is
pub record IsListFor (found : Found) (words : List Phrase) : Type 0 where
  pub none : first_value found (codes "words") ≡ None → words ≡ []
  pub file : IsSome (first_value found (codes "words")) → IsListOfFile words

-- The templates of a folder are read by the rules and the list. Those that are not are reported, one by one.
pub record AreLoaded (rules : LineRules) (words : List Phrase) (set : List Known) (is_left_out : Bool)
    (old new : Option (List ℕ)) (failed_old failed_new : ℕ) : Type 0 where
  pub listing : Listing
  pub loaded : IsLoaded rules words listing old new failed_old failed_new set
  pub left_out : (is_left_out ≡ true) ↔ (length set < count_of_names listing)

-- ---- what is done

-- what is asked for is as the arguments have it
pub record IsAskFor (found : Found) (search : Search) : Type 0 where
  pub all : IsFlag found (codes "all") search.ask.now.all
  pub limit : IsLimit found search.ask.now.limit
  pub given : Given
  pub after : Option After
  pub options : IsGiven found (length (files_in found)) given
  pub named : IsAsGiven given after
  pub triple : IsTripleOf search.set.now after search.ask.now.after

-- `scan`: the reports of the files are written, each refused one is reported after the templates that are left out, and the status is the
-- one that follows
pub record HasScanned (found : Found) (progress : Progress) (in_old in_new : Input) (out_old out_new err_old err_new : Option (List ℕ))
    (failed_old failed_new : ℕ) (status : ℕ) : Type 0 where
  pub search : Search
  pub is_left_out : Bool
  pub refused : List (List ℕ)
  pub written : Written
  pub mid : Option (List ℕ)
  pub failed_mid : ℕ
  pub rules : AreRulesFor found (rules_of search.rules.now)
  pub words : IsListFor found search.words.now
  pub templates : AreLoaded (rules_of search.rules.now) search.words.now search.set.now is_left_out err_old mid failed_old failed_mid
  pub ask : IsAskFor found search
  pub lines : AreWritten (Scan search) in_old out_old (files_in found) refused in_new out_new written
  pub reported : progress ≡ Hidden → AreReported mid failed_mid refused err_new failed_new
  pub ends : IsStatus (written.is_refused || is_left_out) written.has_line status

-- `tokens`: the lines of the tokens are written, each refused file is reported, and the status is the one that follows
pub record HasListed (found : Found) (progress : Progress) (in_old in_new : Input) (out_old out_new err_old err_new : Option (List ℕ))
    (failed_old failed_new : ℕ) (status : ℕ) : Type 0 where
  pub rules : Bor Rules
  pub words : Bor (List Phrase)
  pub refused : List (List ℕ)
  pub written : Written
  pub rules_for : AreRulesFor found (rules_of rules.now)
  pub words_for : IsListFor found words.now
  pub lines : AreWritten (Tokens words rules) in_old out_old (files_in found) refused in_new out_new written
  pub reported : progress ≡ Hidden → AreReported err_old failed_old refused err_new failed_new
  pub ends : IsStatus written.is_refused written.has_line status

-- `check`: a line for each template is written, each that is left out is reported, and the status is the one that follows
pub record HasChecked (found : Found) (out_old out_new err_old err_new : Option (List ℕ)) (failed_old failed_new : ℕ) (status : ℕ) : Type 0 where
  pub rules : LineRules
  pub words : List Phrase
  pub set : List Known
  pub is_left_out : Bool
  pub checked : List Checked
  pub lines : List ℕ
  pub rules_for : AreRulesFor found rules
  pub words_for : IsListFor found words
  pub templates : AreLoaded rules words set is_left_out err_old err_new failed_old failed_new
  pub report : IsCheckReport rules set words checked lines
  pub written : Appends out_old out_new lines
  pub ends : IsStatus is_left_out (list_all says_yes checked) status

-- What the program has done on these arguments where it ends with this status: they are a call of a command, whose work is done; or they ask
-- for help or for the version, which is shown; or they are at fault, which is reported; or it ends before its work is done, and the last line
-- says why. Standard input is read where a command reads files, and else not.
pub data HasEnded (args : List (List ℕ)) (progress : Progress) (in_old in_new : Input) (out_old out_new err_old err_new : Option (List ℕ))
    (failed_old failed_new : ℕ) (status : ℕ) : Type 0 where
  scanned : (found : Found) → IsCall args (codes "scan") found
      → HasScanned found progress in_old in_new out_old out_new err_old err_new failed_old failed_new status
      → HasEnded args progress in_old in_new out_old out_new err_old err_new failed_old failed_new status
  checked : (found : Found) → IsCall args (codes "check") found
      → HasChecked found out_old out_new err_old err_new failed_old failed_new status → in_new ≡ in_old
      → HasEnded args progress in_old in_new out_old out_new err_old err_new failed_old failed_new status
  listed : (found : Found) → IsCall args (codes "tokens") found
      → HasListed found progress in_old in_new out_old out_new err_old err_new failed_old failed_new status
      → HasEnded args progress in_old in_new out_old out_new err_old err_new failed_old failed_new status
  helped : (kind : ErrorKind) → IsNoCall args kind → ¬ (IsFault kind)
      → (text : List ℕ) → Appends out_old out_new text → err_new ≡ err_old → failed_new ≡ failed_old → in_new ≡ in_old → status ≡ 0
      → HasEnded args progress in_old in_new out_old out_new err_old err_new failed_old failed_new status
  refused : (kind : ErrorKind) → IsNoCall args kind → IsFault kind
      → (text : List ℕ) → IsReported err_old err_new failed_old failed_new text → out_new ≡ out_old → in_new ≡ in_old → status ≡ 2
      → HasEnded args progress in_old in_new out_old out_new err_old err_new failed_old failed_new status
  stopped : IsStopReported err_new failed_new → status ≡ 2
      → HasEnded args progress in_old in_new out_old out_new err_old err_new failed_old failed_new status
