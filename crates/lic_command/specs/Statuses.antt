-- The statuses of the program: 0 where what was asked for is so, 1 where it is not, 2 where anything was refused or failed.
use Rattle.std.specs.Prelude.{◌≡◌, ℕ, Bool, true, false, Result, Ok, Err}
use Rattle.lic_command.specs.declared.faults.Stop.{Stop}
use Rattle.lic_command.specs.declared.faults.Stop.TheVariants.{Check, Write as CannotWrite}
use Rattle.lic_engine.specs.declared.fault.RunFault.{RunFault}
use Rattle.lic_engine.specs.declared.fault.RunFault.TheVariants.{Write}

-- 2 where anything was refused, in any case; else 0 where it is so, and 1 where it is not
pub record IsStatus (is_refused is_so : Bool) (status : ℕ) : Type 0 where
  pub refused : is_refused ≡ true → status ≡ 2
  pub so : is_refused ≡ false → is_so ≡ true → status ≡ 0
  pub not_so : is_refused ≡ false → is_so ≡ false → status ≡ 1

-- a write that fails is reported of standard output, any other fault of the check
abbrev pub stop_of : RunFault → Stop
stop_of Write = CannotWrite
stop_of fault = Check fault

-- the status of a check that answers whether each template describes its original text, or why the program ends
abbrev pub IsStatusOfCheck : Result Bool RunFault → Bool → Result ℕ Stop → Type 0
IsStatusOfCheck (Ok is_so) is_left_out (Ok status) = IsStatus is_left_out is_so status
IsStatusOfCheck (Err fault) is_left_out (Err stop) = stop ≡ stop_of fault
IsStatusOfCheck _ is_left_out _ = ⊥
