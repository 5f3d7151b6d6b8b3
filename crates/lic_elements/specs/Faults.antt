-- What a reader of the code gives, against what reading a list gives.
use Rattle.std.specs.Prelude.{◌≡◌, ◌≢◌, ℕ, Result, Ok, Err}
use Rattle.lic_elements.specs.declared.fault.MarkupFault.{MarkupFault}
use Rattle.lic_elements.specs.declared.fault.MarkupCause.{MarkupCause}
use Rattle.lic_elements.specs.declared.fault.MarkupCause.TheVariants.{OutOfMemory}

abbrev pub fault_at : ℕ → MarkupCause → MarkupFault
fault_at offset cause = record { offset = offset; cause = cause }

abbrev pub out_of_memory : MarkupFault
out_of_memory = fault_at 0 OutOfMemory

infixl 10 ◌>>=◌
abbrev pub ◌>>=◌ : {A B : Type 0} → Result A MarkupFault → (A → Result B MarkupFault) → Result B MarkupFault
(Ok x) >>= f = f x
(Err e) >>= f = Err e

abbrev pub map_ok : {A B : Type 0} → (A → B) → Result A MarkupFault → Result B MarkupFault
map_ok f (Ok x) = Ok (f x)
map_ok f (Err e) = Err e

-- a refusal is the fault that reading meets, or out of memory, reported at 0
abbrev pub Fails : {Y : Type 0} → MarkupCause → ℕ → Result Y MarkupFault → Type 0
Fails OutOfMemory offset read = offset ≡ 0
Fails cause offset read = read ≡ Err (fault_at offset cause)

-- what a function returned, seen by view, is what reading gives, unless memory ran out
abbrev pub Gives : {X Y : Type 0} → (X → Y) → Result X MarkupFault → Result Y MarkupFault → Type 0
Gives view (Ok x) read = read ≡ Ok (view x)
Gives view (Err e) read = Fails e.cause e.offset read

-- the fault is not lack of memory
abbrev pub IsLasting : MarkupFault → Type 0
IsLasting e = e.cause ≢ OutOfMemory

-- a fault as it is reported: lack of memory has no offset
abbrev pub reported_cause : MarkupCause → MarkupFault → MarkupFault
reported_cause OutOfMemory e = out_of_memory
reported_cause _ e = e

abbrev pub reported : MarkupFault → MarkupFault
reported e = reported_cause e.cause e
