-- Why the templates that are read are no set.
use Rattle.std.proofs.Common.{◌≡◌, ◌<◌, ◌≤◌, ◌↔◌, List, Result, Err, IsErrOf, String, length, subst, sym}
use Rattle.std.proofs.lemmas.List.{length-map}
use Rattle.std.specs.Global.{Global}
use Rattle.std.specs.String.{string_bytes}
use Rattle.lic_markup.specs.Parts.{TemplateValue}
use Rattle.lic_set.specs.Sets.{OccursTwice, pair_known, pairs_known}
use Rattle.lic_set.specs.declared.set.BuildFault.{BuildFault}
use Rattle.lic_set.specs.declared.set.BuildFault.TheVariants.{TooMany, Twice, Memory}
use Rattle.lic_load.specs.Loading.{IsFaultOfSet}

-- as the call that makes the set says
pub fault_of_set : {T : Type 0} (pairs : List (String Global × TemplateValue)) (fault : BuildFault) (result : Result T BuildFault) → result ≡ Err fault
    → (IsErrOf result TooMany ↔ (4096 < length pairs))
    → ((id : _) → IsErrOf result (Twice id) → (length pairs ≤ 4096) × OccursTwice (string_bytes id) (pairs_known pairs))
    → IsFaultOfSet (pairs_known pairs) fault
fault_of_set pairs TooMany result is many twice = subst (λ n. 4096 < n) (sym (length-map pairs pair_known)) (many.0 is)
fault_of_set pairs (Twice id) result is many twice =
    (subst (λ n. n ≤ 4096) (sym (length-map pairs pair_known)) (twice id is).0, (twice id is).1)
fault_of_set pairs Memory result is many twice = tt
