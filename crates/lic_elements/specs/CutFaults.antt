-- A template cut into pieces of text and rules as far as rules can be read.
use Rattle.std.specs.Prelude.{◌≡◌, List, [], ◌∷◌, ◌++◌}
use Rattle.lic_ere.specs.Located.{Located}
use Rattle.lic_elements.specs.declared.fault.MarkupFault.{MarkupFault}
use Rattle.lic_elements.specs.Rules as rules
use Rattle.lic_elements.specs.Elements.{Element, text, rule, refused}
use Rattle.lic_elements.specs.Markup.{IsRule}
use Rattle.lic_elements.specs.RuleFaults.{IsRuleFault}
use Rattle.lic_elements.specs.Cut.{HasNoRule}

-- Pieces of text and rules in turn, as far as rules can be read: to the end, or to the first one that is at fault by itself.
pub data AreCut : List Located → List Element → Type 0 where
  last : {piece : List Located} → HasNoRule piece [] → AreCut piece (text piece ∷ [])
  further : {cs piece following rest : List Located} {r : rules.Rule} {es : List Element} → cs ≡ piece ++ following
      → HasNoRule piece following → IsRule following rest r → AreCut rest es → AreCut cs (text piece ∷ rule r ∷ es)
  unreadable : {cs piece following : List Located} {e : MarkupFault} → cs ≡ piece ++ following → HasNoRule piece following
      → IsRuleFault following e → AreCut cs (text piece ∷ refused e ∷ [])
