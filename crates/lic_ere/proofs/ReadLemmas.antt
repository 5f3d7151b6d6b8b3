-- What reading gives, in the words of the grammar.
use Rattle.std.proofs.Common.{◌≡◌, List, ℕ, Result, Ok, Err, ◌⊎◌, inl, inr, ap}
use Rattle.std.specs.Prelude.{IfOk, IfErr}
use Rattle.lic_ere.specs.declared.ere.Ere.{Ere}
use Rattle.lic_ere.specs.declared.fault.EreFault.{EreFault}
use Rattle.lic_ere.specs.Trees.{Tree, tree_of}
use Rattle.lic_ere.specs.declared.fault.EreCause.{EreCause}
use Rattle.lic_ere.specs.declared.fault.EreCause.TheVariants.{OutOfMemory}
use Rattle.lic_ere.specs.Faults.{fault_at, out_of_memory, Fails, Gives}
use Rattle.lic_ere.specs.FirstFaults.{IsFaultOf}
use Rattle.lic_ere.specs.Reading.{reading}
use Rattle.lic_ere.specs.Grammar.{IsPattern}
use Rattle.lic_ere.proofs.FaultLemmas.{Gives-same}
use Rattle.lic_ere.proofs.Complete.{IsPattern-read}
use Rattle.lic_ere.proofs.FaultRuns.{IsFaultOf-reading}
use Rattle.lic_ere.proofs.FaultFollows.{reading-IsFaultOf}
use Rattle.lic_ere.proofs.Sound.{reading-IsPattern}

pub is_found : (pattern : List ℕ) (result : Result Ere EreFault) → Gives tree_of result (reading pattern)
    → IfOk result (λ tree. IsPattern pattern (tree_of tree))
is_found pattern (Ok tree) given = reading-IsPattern pattern (tree_of tree) given
is_found pattern (Err e) given = tt

pub is_read : (pattern : List ℕ) (result : Result Ere EreFault) (tree : Tree) → IsPattern pattern tree
    → Gives tree_of result (reading pattern) → Gives tree_of result (Ok tree)
is_read pattern result tree is given = Gives-same tree_of result (reading pattern) (Ok tree) (IsPattern-read pattern tree is) given

decided : (pattern : List ℕ) (cause : EreCause) (offset : ℕ) → Fails cause offset (reading pattern)
    → (fault_at offset cause ≡ out_of_memory) ⊎ IsFaultOf pattern (fault_at offset cause)
decided pattern OutOfMemory offset given = inl (ap (λ p. fault_at p OutOfMemory) given)
decided pattern cause offset given = inr (reading-IsFaultOf pattern (fault_at offset cause) given)

pub is_decided : (pattern : List ℕ) (result : Result Ere EreFault) → Gives tree_of result (reading pattern)
    → IfErr result (λ e. (e ≡ out_of_memory) ⊎ IsFaultOf pattern e)
is_decided pattern (Ok tree) given = tt
is_decided pattern (Err e) given = decided pattern e.cause e.offset given

pub is_reported : (pattern : List ℕ) (result : Result Ere EreFault) (e : EreFault) → IsFaultOf pattern e
    → Gives tree_of result (reading pattern) → Gives tree_of result (Err e)
is_reported pattern result e is given = Gives-same tree_of result (reading pattern) (Err e) (IsFaultOf-reading pattern e is) given
