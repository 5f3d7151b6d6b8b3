-- From what the parser says of any program to what it says of this one.
use Rattle.std.proofs.Common.{◌≡◌, ◌≢◌, ◌∙◌, ◌||◌, false, true, List, [], Option, Some, None, Result, Ok, Err, IfOk, IfErr, is_some, option_map, true≢false, unwrap_or, ap, ap₂, refl, subst, sym, ⊎_elim}
use Rattle.clap.specs.Built.{AddsArg}
use Rattle.clap.specs.Faults.{fault_of, is_simple_and_free}
use Rattle.clap.specs.Kinds.{FailsBy}
use Rattle.clap.specs.Matches.{subcommand_name_of}
use Rattle.clap.specs.Simple.{App, HasMatchesOf, app_of, is_simple, subcommand_rows_of, with_rule}
use Rattle.clap.specs.Values.{kind_of}
use Rattle.clap.specs.Walk.{Row, Rule, Text, rows_of}
use Rattle.clap.specs.declared.builder.arg.Arg.{Arg}
use Rattle.clap.specs.declared.builder.command.Command.{Command}
use Rattle.clap.specs.declared.error.Error.{Error}
use Rattle.clap.specs.declared.error.kind.ErrorKind.TheVariants.{OutOfMemory}
use Rattle.clap.specs.declared.parser.matches.ArgMatches.{ArgMatches}
use Rattle.clap.specs.declared.parser.matches.ArgMatches.TheViews.{out-ArgMatches}
use Rattle.clap.specs.declared.parser.matches.Found.{Found}
use Rattle.clap.proofs.OnLiterals.{clap_on_literals}
use Rattle.lic_arguments.specs.CommandLine.{AreMatchesOf, HasForm, HasRule, IsCall, IsNoCall, licscan}

-- of a command of this form the parser says which matches it has and why it refuses arguments
simple : is_simple licscan ≡ true
unfolding clap_on_literals
simple = refl

free : is_simple_and_free licscan ≡ true
unfolding clap_on_literals
free = refl

found_by_licscan : (args : List Text) (r : Result ArgMatches Error) → IfOk r (HasMatchesOf licscan args) → FailsBy (fault_of licscan args) r
    → IfOk r (AreMatchesOf args)
found_by_licscan args (Ok matches) has fails = record { whole = fails; command = (has simple).1 }
found_by_licscan args (Err e) has fails = tt

refused_by_licscan : (args : List Text) (r : Result ArgMatches Error) → FailsBy (fault_of licscan args) r
    → IfErr r (λ e. kind_of e ≢ OutOfMemory → IsNoCall args (kind_of e))
refused_by_licscan args (Ok matches) fails = tt
refused_by_licscan args (Err e) fails = λ other. record { among = ⊎_elim (λ memory. absurd (other memory)) (λ among. among) fails }

module _ (a : App) (args : List Text) (r : Result ArgMatches Error) (is : a ≡ licscan) where
  as_licscan : (is_simple_and_free a ≡ true → FailsBy (fault_of a args) r) → FailsBy (fault_of licscan args) r
  as_licscan fails = subst (λ (a : App). is_simple_and_free a ≡ true → FailsBy (fault_of a args) r) is fails free

  pub found : IfOk r (HasMatchesOf a args) → (is_simple_and_free a ≡ true → FailsBy (fault_of a args) r) → IfOk r (AreMatchesOf args)
  found has fails = found_by_licscan args r (subst (λ (a : App). IfOk r (HasMatchesOf a args)) is has) (as_licscan fails)

  pub refused : (is_simple_and_free a ≡ true → FailsBy (fault_of a args) r) → IfErr r (λ e. kind_of e ≢ OutOfMemory → IsNoCall args (kind_of e))
  refused fails = refused_by_licscan args r (as_licscan fails)

-- ---- what is built

pub adds : (old new : Command) (arg : Arg) (a : App) (rule : Rule) → AddsArg old arg new → HasForm a old → HasRule rule arg
    → HasForm (with_rule a rule) new
adds old new arg a rule added form has =
    (added.shape has.1 ∙ ap₂ with_rule form.0 has.0, added.globals ∙ ap₂ (λ x y. x || y) form.1 has.1)

-- ---- which command the arguments call

abbrev pair_at : {B : Type 0} → (B → Text) → (B → List Row) → B → Text × List Row
pair_at f g b = (f b, g b)

abbrev second : Text × List Row → List Row
second p = p.1

both_of : {B : Type 0} (o : Option B) (f : B → Text) (g : B → List Row) (name : Text) (rows : List Row) → option_map f o ≡ Some name
    → option_map second (option_map (pair_at f g) o) ≡ Some rows → option_map (pair_at f g) o ≡ Some (name, rows)
both_of None f g name rows named has = absurd (true≢false (sym (ap is_some named)))
both_of (Some b) f g name rows named has =
    ap₂ (λ (n : Text) (rs : List Row). Some (n, rs)) (ap (λ o. unwrap_or o []) named) (ap (λ o. unwrap_or o []) has)

-- the command that the parser has found by its name is the one that the arguments call
pub called : (args : List Text) (matches : ArgMatches) (name : Text) (found : Found) → AreMatchesOf args matches
    → subcommand_name_of matches ≡ Some name → option_map second (subcommand_rows_of matches) ≡ Some (rows_of found) → IsCall args name found
called args matches name found are named has = record {
  whole = are.whole;
  command = sym are.command ∙ both_of (out-ArgMatches matches).subcommand _ _ name (rows_of found) named has;
}
