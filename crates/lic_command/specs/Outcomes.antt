-- What came of the files so far, and of one more, and why the work on them stops.
use Rattle.std.specs.Prelude.{◌≡◌, ◌⊎◌, ◌↔◌, ℕ, true, Bool, List, [], ◌∷◌, Result, Ok, Err, IsErr, IsErrOf}
use Rattle.lic_command.specs.declared.files.Written.{Written}
use Rattle.lic_command.specs.declared.faults.Stop.{Stop}
use Rattle.lic_command.specs.declared.faults.Stop.TheVariants.{Write as CannotWrite, Memory}
use Rattle.lic_engine.specs.declared.fault.RunFault.{RunFault}
use Rattle.lic_engine.specs.declared.fault.RunFault.TheVariants.{Write}
use Rattle.lic_engine.specs.Stream.{one_more}

-- a line was written where one was before or for this file, and something was refused where it was before or this file is
pub record IsWithOneMore (before : Written) (answer : Result Bool RunFault) (after : Written) : Type 0 where
  pub line : (after.has_line ≡ true) ↔ ((before.has_line ≡ true) ⊎ (answer ≡ Ok true))
  pub refused : (after.is_refused ≡ true) ↔ ((before.is_refused ≡ true) ⊎ IsErr answer)

-- the name of the file, if it is refused
abbrev pub refused_by : List ℕ → Result Bool RunFault → List (List ℕ)
refused_by name (Ok some) = []
refused_by name (Err fault) = name ∷ []

-- it stops since a write about this file failed, or since memory ran out and no write failed
abbrev pub IsStopAfter : Result Bool RunFault → Stop → Type 0
IsStopAfter answer CannotWrite = IsErrOf answer Write
IsStopAfter answer Memory = ¬ (IsErrOf answer Write)
IsStopAfter answer _ = ⊥

-- one write failed where the work stops for that; it stops for lack of memory else, and then no write failed, nor where it is done
abbrev pub StopsForWrites : {A : Type 0} → Result A Stop → ℕ → ℕ → Type 0
StopsForWrites (Ok x) old new = new ≡ old
StopsForWrites (Err CannotWrite) old new = new ≡ one_more old
StopsForWrites (Err Memory) old new = new ≡ old
StopsForWrites (Err _) old new = ⊥

-- one write failed where the program stops for that, and none where it stops for anything else, nor where its work is done
abbrev pub CountsStops : {A : Type 0} → Result A Stop → ℕ → ℕ → Type 0
CountsStops (Ok x) old new = new ≡ old
CountsStops (Err CannotWrite) old new = new ≡ one_more old
CountsStops (Err _) old new = new ≡ old
