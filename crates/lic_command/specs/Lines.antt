-- What is written about inputs, one after another.
use Rattle.std.specs.Prelude.{◌≡◌, ◌≢◌, ℕ, Bool, false, codes, List, [], ◌∷◌, ◌++◌, length, take, Option, None, Result, Ok, Err, IsErrOf, nat_lt}
use Rattle.std.specs.Io.KnownBytes.{Appends}
use Rattle.lic_kind.specs.LineRules.{rules_of}
use Rattle.lic_norm.specs.Refusal.{refusal_of}
use Rattle.lic_norm.specs.Tokens.{tokens_of}
use Rattle.lic_norm.specs.declared.fault.TextFault.{TextFault}
use Rattle.lic_norm.specs.declared.fault.TextFault.TheVariants.{Memory as NoMemory}
use Rattle.lic_engine.specs.Failures.{CountsReads}
use Rattle.lic_engine.specs.Inputs.{IsAccepted, IsRefused, IsUnrefused}
use Rattle.lic_engine.specs.Report.{IsReport, token_lines}
use Rattle.lic_engine.specs.Stream.{BeginsWith}
use Rattle.lic_engine.specs.declared.fault.RunFault.{RunFault}
use Rattle.lic_engine.specs.declared.fault.RunFault.TheVariants.{Text, Read, Write, Memory}
use Rattle.lic_command.specs.Outcomes.{IsWithOneMore, refused_by}
use Rattle.lic_command.specs.declared.files.Work.{Work}
use Rattle.lic_command.specs.declared.files.Work.TheVariants.{Scan, Tokens}
use Rattle.lic_command.specs.declared.files.Written.{Written}

-- these are the lines about an input with these bytes under this name: the report of a search, or a line for each token
abbrev pub AreLinesOf : Work → List ℕ → List ℕ → List ℕ → Type 0
AreLinesOf (Scan search) name bytes lines =
    IsReport (rules_of search.rules.now) name search.set.now search.words.now search.ask.now bytes lines
AreLinesOf (Tokens words rules) name bytes lines =
    lines ≡ token_lines name (tokens_of (rules_of rules.now) words.now bytes)

-- what is known of standard input: the bytes that are left of it, and how many of its calls failed
pub record Input : Type 0 where
  pub left : Option (List ℕ)
  pub failed : ℕ

abbrev pub input_of : Option (List ℕ) → ℕ → Input
input_of left failed = record { left = left; failed = failed }

-- What was read of standard input for a file with this name, by what came of it: nothing, if the name is another than `-`. One call failed
-- where the answer is Read, and else none; a text that is too long is refused however it continues, and memory ran out for one that is not.
pub record HasRead (name : List ℕ) (old new : Input) (answer : Result Bool RunFault) : Type 0 where
  pub other : name ≢ codes "-" → new ≡ old
  pub counts : name ≡ codes "-" → CountsReads answer old.failed new.failed
  pub refused : name ≡ codes "-" → (fault : TextFault) → IsErrOf answer (Text fault) → fault ≢ NoMemory → IsRefused old.left new.left fault
  pub memory : name ≡ codes "-" → IsErrOf answer (Text NoMemory) → IsUnrefused old.left new.left

-- these bytes are no refused input: those of standard input, which is read to its end, if the name is `-`, and else those of some file
abbrev pub IsReadAs : List ℕ → Input → Input → List ℕ → Type 0
IsReadAs name old new bytes = (refusal_of bytes ≡ None) × (name ≡ codes "-" → IsAccepted old.left new.left bytes)

-- a beginning of the lines about what was read under this name was written
abbrev pub HasBegun : Work → List ℕ → Input → Input → Option (List ℕ) → Option (List ℕ) → Type 0
HasBegun work name in_old in_new old new = (bytes : List ℕ) × IsReadAs name in_old in_new bytes
    × ((lines : List ℕ) → AreLinesOf work name bytes lines → BeginsWith old new lines)

-- what was written about what was read under this name, by what came of it: its lines, or a beginning of them where a write failed or memory
-- ran out, or nothing
abbrev pub HasWritten : Work → List ℕ → Input → Input → Option (List ℕ) → Option (List ℕ) → Result Bool RunFault → Type 0
HasWritten work name in_old in_new old new (Ok some) = (bytes lines : List ℕ) × IsReadAs name in_old in_new bytes
    × AreLinesOf work name bytes lines × Appends old new lines × (some ≡ nat_lt 0 (length lines))
HasWritten work name in_old in_new old new (Err (Text fault)) = new ≡ old
HasWritten work name in_old in_new old new (Err Read) = new ≡ old
HasWritten work name in_old in_new old new (Err Write) = HasBegun work name in_old in_new old new
HasWritten work name in_old in_new old new (Err Memory) = HasBegun work name in_old in_new old new

-- What was read and written about files with these names, one after another, which of them are refused, and what came of them.
pub data AreWritten (work : Work) (in_old : Input) (old : Option (List ℕ))
    : List (List ℕ) → List (List ℕ) → Input → Option (List ℕ) → Written → Type 0 where
  no_file : AreWritten work in_old old [] [] in_old old (record { has_line = false; is_refused = false })
  one_more : {names refused : List (List ℕ)} (name : List ℕ) {in_mid in_new : Input} {mid new : Option (List ℕ)} {before after : Written}
      (answer : Result Bool RunFault) → AreWritten work in_old old names refused in_mid mid before → HasRead name in_mid in_new answer
      → HasWritten work name in_mid in_new mid new answer → IsWithOneMore before answer after
      → AreWritten work in_old old (names ++ name ∷ []) (refused ++ refused_by name answer) in_new new after

-- what was read and written about the first of the files with these names, as many as were begun, one after another
abbrev pub AreBegun : Work → Input → Option (List ℕ) → List (List ℕ) → Input → Option (List ℕ) → Type 0
AreBegun work in_old old names in_new new =
    (count : ℕ) × (refused : List (List ℕ)) × (written : Written) × AreWritten work in_old old (take count names) refused in_new new written
