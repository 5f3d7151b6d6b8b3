-- How an input that is read is refused.
use Rattle.std.proofs.Common.{refl, ◌≡◌, ℕ, ◌≤◌, ◌<◌, List, ◌++◌, Result, Ok, Err, IsErrOf, length, drop, sym, ap₂, ◌∙◌, arith}
use Rattle.std.specs.List.{slice_range}
use Rattle.std.specs.Result.{IsErrAnd}
use Rattle.std.proofs.lemmas.Grind.{common_steps}
use Rattle.lic_stream.specs.declared.transfer.ReadFault.{ReadFault}
use Rattle.lic_norm.specs.declared.fault.FeedFault.{FeedFault}
use Rattle.lic_norm.specs.declared.fault.TextFault.{TextFault}
use Rattle.lic_norm.specs.Refusal.{IsRefusal, max_bytes}
use Rattle.lic_norm.proofs.Refused.{accepted, refused}

-- memory ran out, and the input is not too long
pub short_refusal : (fault : TextFault) (bytes : List ℕ) → fault ≡ TextFault.Memory → length bytes ≤ max_bytes → IsRefusal fault bytes
short_refusal TextFault.Memory bytes is short = accepted bytes short
short_refusal TextFault.TooLong bytes is short = absurd (cc)

-- the input is too long
pub long_refusal : (fault : TextFault) (bytes : List ℕ) → fault ≡ TextFault.TooLong → max_bytes < length bytes → IsRefusal fault bytes
long_refusal TextFault.TooLong bytes is long = refused bytes long
long_refusal TextFault.Memory bytes is long = absurd (cc)

-- a refusal for lack of memory that is handed on
pub refusal_of_memory : {A : Type 0} (result : Result A FeedFault) (fault : TextFault) → IsErrAnd result (λ f. f ≡ FeedFault.Text TextFault.Memory)
    → IsErrOf result (FeedFault.Text fault) → fault ≡ TextFault.Memory
refusal_of_memory (Ok x) fault same is = absurd (cc)
refusal_of_memory (Err e) fault same is = cc

-- a fault of reading that is handed on, if it is a refusal
pub refusal_of_read : {A : Type 0} (from : ReadFault) (result : Result A FeedFault) (fault : TextFault)
    → IsErrAnd result (λ f. (from ≡ ReadFault.Read → f ≡ FeedFault.Read) × (from ≡ ReadFault.Memory → f ≡ FeedFault.Text TextFault.Memory))
    → IsErrOf result (FeedFault.Text fault) → fault ≡ TextFault.Memory
refusal_of_read from (Ok x) fault same is = absurd (cc)
refusal_of_read ReadFault.Read (Err e) fault same is = absurd (let read : e ≡ FeedFault.Read = same.0 refl in cc)
refusal_of_read ReadFault.Memory (Err e) fault same is = let read : e ≡ FeedFault.Text TextFault.Memory = same.1 refl in cc

-- a refusal has one cause
pub same_refusal : {A : Type 0} (one fault : TextFault) → IsErrOf {T = A} (Err (FeedFault.Text one)) (FeedFault.Text fault) → fault ≡ one
same_refusal one fault is = cc

-- what had not ended before more came
pub open_part : (old more new : List ℕ) (at searched : ℕ) → at ≤ length old → searched ≡ length old → new ≡ old ++ more
    → drop at old ≡ slice_range new at searched
open_part old more new at searched within all is =
    let part : slice_range (old ++ more) at (length old) ≡ drop at old = grind (arith, common_steps) in
    sym (ap₂ (λ l n. slice_range l at n) is all ∙ part)

-- a fault of an input is a failed read or a refusal
pub fault_cases : {P : Type 0} (fault : FeedFault) → (fault ≡ FeedFault.Read → P) → ((refusal : TextFault) → fault ≡ FeedFault.Text refusal → P) → P
fault_cases FeedFault.Read read text = read refl
fault_cases (FeedFault.Text refusal) read text = text refusal refl
