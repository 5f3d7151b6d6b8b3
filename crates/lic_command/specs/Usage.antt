-- What the parser of the arguments has written: help and the version, or a fault.
use Rattle.std.specs.Prelude.{◌≡◌, ◌≢◌, ℕ, List, Option, Result, Ok, Err}
use Rattle.std.specs.Io.KnownBytes.{Appends}
use Rattle.clap.specs.declared.error.kind.ErrorKind.{ErrorKind}
use Rattle.clap.specs.declared.error.kind.ErrorKind.TheVariants.{DisplayHelp, DisplayVersion}
use Rattle.lic_load.specs.Stream.{one_more, BeginsWith}
use Rattle.lic_command.specs.declared.faults.Stop.{Stop}
use Rattle.lic_command.specs.declared.faults.Stop.TheVariants.{Write}

-- neither help nor the version was asked for
abbrev pub IsFault : ErrorKind → Type 0
IsFault kind = (kind ≢ DisplayHelp) × (kind ≢ DisplayVersion)

-- a text was written, and the status is 0; or a beginning of it, and then one call failed
abbrev pub IsShown : Option (List ℕ) → Option (List ℕ) → ℕ → ℕ → List ℕ → Result ℕ Stop → Type 0
IsShown old new failed_old failed_new text (Ok status) = Appends old new text × (failed_new ≡ failed_old) × (status ≡ 0)
IsShown old new failed_old failed_new text (Err stop) =
    BeginsWith old new text × (failed_new ≡ one_more failed_old) × (stop ≡ Write)
