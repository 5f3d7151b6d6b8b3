-- How the faults of reading an input are handed on.
use Rattle.std.proofs.Common.{rules, ◌≡◌, ◌≢◌, ℕ, List, Option, Result, Ok, Err, IsErrOf, refl}
use Rattle.std.specs.Result.{IsErrAnd}
use Rattle.std.specs.Io.KnownBytes.{Consumes}
use Rattle.lic_stream.specs.Stream.{one_more}
use Rattle.lic_norm.specs.Refusal.{IsRefusal}
use Rattle.lic_norm.proofs.Refused.{refused_longer}
use Rattle.lic_norm.specs.declared.fault.FeedFault.{FeedFault}
use Rattle.lic_norm.specs.declared.fault.TextFault.{TextFault}
use Rattle.lic_engine.specs.declared.fault.RunFault.{RunFault}
use Rattle.lic_engine.specs.Failures.{CountsReads, IsOfReading}
use Rattle.lic_engine.specs.Inputs.{IsRefused, IsUnrefused}

-- what a fault of an input is answered by
abbrev pub IsHandedOn : FeedFault → RunFault → Type 0
IsHandedOn from fault = (from ≡ FeedFault.Read → fault ≡ RunFault.Read)
    × ((refusal : TextFault) → from ≡ FeedFault.Text refusal → fault ≡ RunFault.Text refusal)

-- a refusal comes from one
pub refusal_from : {B : Type 0} (from : FeedFault) (result : Result B RunFault) (refusal : TextFault) → IsErrAnd result (IsHandedOn from)
    → IsErrOf result (RunFault.Text refusal) → from ≡ FeedFault.Text refusal
refusal_from from (Ok x) refusal same is = absurd (cc)
refusal_from FeedFault.Read (Err e) refusal same is = absurd (let read : e ≡ RunFault.Read = same.0 refl in cc)
refusal_from (FeedFault.Text other) (Err e) refusal same is = let text : e ≡ RunFault.Text other = same.1 other refl in cc

-- each answer counts the failed calls that it speaks of
pub reads_counted : {B : Type 0} (from : FeedFault) (result : Result B RunFault) (old new : ℕ) → IsErrAnd result (IsHandedOn from)
    → (from ≡ FeedFault.Read → new ≡ one_more old) → ((refusal : TextFault) → from ≡ FeedFault.Text refusal → new ≡ old)
    → CountsReads result old new
reads_counted from (Ok x) old new same read text = absurd same
reads_counted FeedFault.Read (Err e) old new same read text =
    let is : e ≡ RunFault.Read = same.0 refl in let one = read refl in search (rules, is, one)
reads_counted (FeedFault.Text refusal) (Err e) old new same read text =
    let is : e ≡ RunFault.Text refusal = same.1 refusal refl in let none = text refusal refl in search (rules, is, none)

-- and it is one of reading
pub of_reading : {B : Type 0} (from : FeedFault) (result : Result B RunFault) → IsErrAnd result (IsHandedOn from) → IsOfReading result
of_reading from (Ok x) same = absurd same
of_reading FeedFault.Read (Err e) same = let is : e ≡ RunFault.Read = same.0 refl in search (rules, is)
of_reading (FeedFault.Text refusal) (Err e) same = let is : e ≡ RunFault.Text refusal = same.1 refusal refl in search (rules, is)

-- a refusal of what was read: it is too long
pub was_refused : (a b : Option (List ℕ)) (fault : TextFault) (bytes : List ℕ) → Consumes a b bytes → IsRefusal fault bytes → fault ≢ TextFault.Memory
    → IsRefused a b fault
was_refused a b TextFault.TooLong bytes read is not_memory =
    (bytes, read, λ more. refused_longer bytes more TextFault.TooLong is)
was_refused a b TextFault.Memory bytes read is not_memory = absurd (not_memory refl)

-- memory ran out, and what was read is not too long
pub was_unrefused : (a b : Option (List ℕ)) (fault : TextFault) (bytes : List ℕ) → Consumes a b bytes → IsRefusal fault bytes → fault ≡ TextFault.Memory
    → IsUnrefused a b
was_unrefused a b TextFault.Memory bytes read is memory = (bytes, read, is)
was_unrefused a b TextFault.TooLong bytes read is memory = absurd (cc)
