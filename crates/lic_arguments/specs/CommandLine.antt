-- The grammar of the command line, in the words of its parser, and what arguments are by it.
use Rattle.std.specs.Prelude.{◌≡◌, pos, true, false, List, [], ◌∷◌, Some, codes}
use Rattle.clap.specs.Lexer.{usize_max}
use Rattle.clap.specs.Simple.{App, Shape, app_of, new_rule, new_shape, subcommand_of, subcommand_rows_of}
use Rattle.clap.specs.Walk.{Rule, Text, rows_of, rule_of}
use Rattle.clap.specs.Faults.{fault_of}
use Rattle.clap.specs.Kinds.{IsAmong}
use Rattle.clap.specs.declared.builder.action.ArgAction.TheVariants.{Append, Set, SetTrue}
use Rattle.clap.specs.declared.builder.arg.Arg.{Arg}
use Rattle.clap.specs.declared.builder.command.Command.{Command}
use Rattle.clap.specs.declared.builder.command.Command.TheViews.{out-Command as fields_of}
use Rattle.clap.specs.declared.builder.value_parser.ValueParser.TheVariants.{Signed}
use Rattle.clap.specs.declared.error.kind.ErrorKind.{ErrorKind}
use Rattle.clap.specs.declared.parser.matches.ArgMatches.{ArgMatches}
use Rattle.clap.specs.declared.parser.matches.Found.{Found}

-- ---- the grammar

-- `--NAME VALUE`
abbrev pub option : Text → Rule
option name = record (new_rule name) { long = Some name; value_names = 1; action = Some Set }

abbrev pub templates : Rule
templates = record (option (codes "templates")) { required = true }

abbrev pub words : Rule
words = option (codes "words")

abbrev pub rules : Rule
rules = option (codes "rules")

abbrev pub all : Rule
all = record (new_rule (codes "all")) { long = Some (codes "all"); action = Some SetTrue }

abbrev pub after : Rule
after = option (codes "after")

-- a number from 1 that fits 32 bits
abbrev pub limit : Rule
limit = record (option (codes "limit")) { parser = Some (Signed (pos 1) (pos 4294967295)) }

-- any number of them
abbrev pub files : Rule
files = record (new_rule (codes "files")) {
  value_names = 1;
  range = Some (record { start_inclusive = 0; end_inclusive = usize_max });
  action = Some Append;
}

abbrev pub scan : Shape
scan = record (new_shape (codes "scan")) {
  rules = templates ∷ words ∷ rules ∷ all ∷ after ∷ limit ∷ files ∷ [];
}

abbrev pub check : Shape
check = record (new_shape (codes "check")) { rules = templates ∷ words ∷ rules ∷ [] }

abbrev pub tokens : Shape
tokens = record (new_shape (codes "tokens")) { rules = words ∷ rules ∷ files ∷ [] }

-- the program, before its commands are added
abbrev pub bare : App
bare = record {
  top = record (new_shape (codes "licscan")) { no_binary_name = true; has_version = true; subcommand_required = true };
  subs = [];
}

-- the program, with its commands, of which one is wanted
abbrev pub licscan : App
licscan = record { top = record bare.top { is_leaf = false }; subs = scan ∷ check ∷ tokens ∷ [] }

-- ---- what is built of it

-- the argument has this rule, in its own command alone
abbrev pub HasRule : Rule → Arg → Type 0
HasRule rule arg = (rule_of arg ≡ rule) × (arg.global ≡ false)

-- the command has this form, and no argument that those below it take
abbrev pub HasForm : App → Command → Type 0
HasForm a command = (app_of command ≡ a) × ((fields_of command).has_globals ≡ false)

-- the command has this shape, and no command below it
abbrev pub HasShape : Shape → Command → Type 0
HasShape shape command = HasForm (record { top = shape; subs = [] }) command

-- ---- what arguments are by it

-- These arguments are a call of a command, and the parser has found what is given for it.
pub record AreMatchesOf (args : List Text) (matches : ArgMatches) : Type 0 where
  pub whole : fault_of licscan args ≡ []
  pub command : subcommand_rows_of matches ≡ subcommand_of licscan args

-- These arguments are a call of the command with this name, for which this is given.
pub record IsCall (args : List Text) (name : Text) (found : Found) : Type 0 where
  pub whole : fault_of licscan args ≡ []
  pub command : subcommand_of licscan args ≡ Some (name, rows_of found)

-- These arguments are no call: they ask for help or for the version, or they are at fault, as the kind says.
pub record IsNoCall (args : List Text) (kind : ErrorKind) : Type 0 where
  pub among : IsAmong kind (fault_of licscan args)
