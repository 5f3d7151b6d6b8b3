-- What is written to standard error.
use Rattle.std.specs.Prelude.{◌≡◌, ℕ, Bool, List, [], ◌∷◌, ◌++◌, codes, Option, Result, Ok, Err}
use Rattle.lic_fields.specs.Fields.{escaped}
use Rattle.lic_engine.specs.declared.fault.RunFault.{RunFault}
use Rattle.lic_load.specs.Reporting.{IsReported}

-- the line about a file that is refused, and why
abbrev pub line_of_file : List ℕ → List ℕ → List ℕ
line_of_file name why = codes "licscan: " ++ (escaped name ++ (codes ": " ++ (why ++ codes "\n")))

-- the line about why the program ends before its work is done
abbrev pub line_of_stop : List ℕ → List ℕ
line_of_stop why = codes "licscan: " ++ (why ++ codes "\n")

-- a line was written about this file if it is refused, and else nothing
abbrev pub IsAnswerReported : List ℕ → Result Bool RunFault → Option (List ℕ) → Option (List ℕ) → ℕ → ℕ → Type 0
IsAnswerReported name (Ok some) old new failed_old failed_new = (new ≡ old) × (failed_new ≡ failed_old)
IsAnswerReported name (Err fault) old new failed_old failed_new =
    (why : List ℕ) × IsReported old new failed_old failed_new (line_of_file name why)

-- A line was written about each of these files, one after another.
pub data AreReported (old : Option (List ℕ)) (failed_old : ℕ) : List (List ℕ) → Option (List ℕ) → ℕ → Type 0 where
  nothing : AreReported old failed_old [] old failed_old
  one_more : {names : List (List ℕ)} {mid new : Option (List ℕ)} {failed_mid failed_new : ℕ} (name why : List ℕ)
      → AreReported old failed_old names mid failed_mid → IsReported mid new failed_mid failed_new (line_of_file name why)
      → AreReported old failed_old (names ++ name ∷ []) new failed_new

-- the last line that was written says why the program ends
abbrev pub IsStopReported : Option (List ℕ) → ℕ → Type 0
IsStopReported new failed_new = (mid : Option (List ℕ)) × (failed_mid : ℕ) × (why : List ℕ)
    × IsReported mid new failed_mid failed_new (line_of_stop why)
