-- What a reader of the code gives, against what reading a list gives.
use Rattle.std.specs.Prelude.{◌≡◌, ℕ, Result, Ok, Err}
use Rattle.lic_ere.specs.declared.fault.EreFault.{EreFault}
use Rattle.lic_ere.specs.declared.fault.EreCause.{EreCause}
use Rattle.lic_ere.specs.declared.fault.EreCause.TheVariants.{OutOfMemory}

abbrev pub fault_at : ℕ → EreCause → EreFault
fault_at offset cause = record { offset = offset; cause = cause }

abbrev pub out_of_memory : EreFault
out_of_memory = fault_at 0 OutOfMemory

infixl 10 ◌>>=◌
abbrev pub ◌>>=◌ : {A B : Type 0} → Result A EreFault → (A → Result B EreFault) → Result B EreFault
(Ok x) >>= f = f x
(Err e) >>= f = Err e

abbrev pub map_ok : {A B : Type 0} → (A → B) → Result A EreFault → Result B EreFault
map_ok f (Ok x) = Ok (f x)
map_ok f (Err e) = Err e

-- a refusal is the fault that reading meets, or out of memory, reported at 0
abbrev pub Fails : {Y : Type 0} → EreCause → ℕ → Result Y EreFault → Type 0
Fails OutOfMemory offset read = offset ≡ 0
Fails cause offset read = read ≡ Err (fault_at offset cause)

-- what a function returned, seen by view, is what reading gives, unless memory ran out
abbrev pub Gives : {X Y : Type 0} → (X → Y) → Result X EreFault → Result Y EreFault → Type 0
Gives view (Ok x) read = read ≡ Ok (view x)
Gives view (Err e) read = Fails e.cause e.offset read
