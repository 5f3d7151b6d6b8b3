-- How many templates a set has of those that were read.
use Rattle.std.proofs.Common.{◌≡◌, ◌∙◌, List, length, String}
use Rattle.std.proofs.lemmas.List.{length-map}
use Rattle.std.proofs.lemmas.List.Sorted.{length_permutation}
use Rattle.std.specs.Global.{Global}
use Rattle.lic_markup.specs.Parts.{TemplateValue}
use Rattle.lic_set.specs.Sets.{Known, IsSetOf, pair_known, pairs_known}

-- a set has all that it is made of
pub length_set : (pairs : List (String Global × TemplateValue)) (set : List Known) → IsSetOf (pairs_known pairs) set → length set ≡ length pairs
length_set pairs set is = length_permutation (pairs_known pairs) set is.holds ∙ length-map pairs pair_known
