-- How the answer of a call goes together with the counts of failed calls of its reader and its writer, and with what was written.
use Rattle.std.specs.Prelude.{◌≡◌, ℕ, Result, OnOk, IsErrOf}
use Rattle.lic_norm.specs.declared.fault.TextFault.{TextFault}
use Rattle.lic_stream.specs.Stream.{one_more}
use Rattle.lic_engine.specs.declared.fault.RunFault.{RunFault}
use Rattle.lic_engine.specs.declared.fault.RunFault.TheVariants.{Text, Read, Write, Memory}

-- the reader failed once where the answer is Read, and never where it is any other
abbrev pub CountsReads : {A : Type 0} → Result A RunFault → ℕ → ℕ → Type 0
CountsReads result old new =
    OnOk result (new ≡ old)
    × (IsErrOf result Read → new ≡ one_more old)
    × (IsErrOf result Write → new ≡ old)
    × (IsErrOf result Memory → new ≡ old)
    × ((fault : TextFault) → IsErrOf result (Text fault) → new ≡ old)

-- the writer failed once where the answer is Write, and never where it is any other
abbrev pub CountsWrites : {A : Type 0} → Result A RunFault → ℕ → ℕ → Type 0
CountsWrites result old new =
    OnOk result (new ≡ old)
    × (IsErrOf result Read → new ≡ old)
    × (IsErrOf result Write → new ≡ one_more old)
    × (IsErrOf result Memory → new ≡ old)
    × ((fault : TextFault) → IsErrOf result (Text fault) → new ≡ old)

-- nothing was written where the answer is Text or Read
abbrev pub Keeps : {A W : Type 0} → Result A RunFault → W → W → Type 0
Keeps result old new = (IsErrOf result Read → new ≡ old)
    × ((fault : TextFault) → IsErrOf result (Text fault) → new ≡ old)

-- a fault is one of reading
abbrev pub IsOfReading : {A : Type 0} → Result A RunFault → Type 0
IsOfReading result = ¬ (IsErrOf result Write) × ¬ (IsErrOf result Memory)

-- a fault is one of writing, or of memory
abbrev pub IsOfWriting : {A : Type 0} → Result A RunFault → Type 0
IsOfWriting result = ¬ (IsErrOf result Read) × ((fault : TextFault) → ¬ (IsErrOf result (Text fault)))

-- a fault is one of a text, or of memory
abbrev pub IsOfText : {A : Type 0} → Result A RunFault → Type 0
IsOfText result = ¬ (IsErrOf result Read) × ¬ (IsErrOf result Write)
