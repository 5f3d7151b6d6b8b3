-- A template cut into pieces of text and rules, apart from how it is read.
use Rattle.std.specs.Prelude.{◌≡◌, List, [], ◌∷◌, ◌++◌}
use Rattle.lic_ere.specs.Located.{Located}
use Rattle.lic_elements.specs.Rules as rules
use Rattle.lic_elements.specs.Elements.{Element, text, rule}
use Rattle.lic_elements.specs.Markup.{BeginsRule, IsRule}

-- at none of these characters a rule begins, where this comes after them
abbrev pub HasNoRule : List Located → List Located → Type 0
HasNoRule piece following = (before : List Located) (x : Located) (after : List Located) → piece ≡ before ++ x ∷ after
    → BeginsRule (x ∷ (after ++ following)) → ⊥

-- pieces of text and rules in turn: a piece goes up to the first offset at which a rule begins, or to the end
pub data AreElements : List Located → List Element → Type 0 where
  last : {piece : List Located} → HasNoRule piece [] → AreElements piece (text piece ∷ [])
  further : {cs piece following rest : List Located} {r : rules.Rule} {es : List Element} → cs ≡ piece ++ following
      → HasNoRule piece following
      → IsRule following rest r → AreElements rest es → AreElements cs (text piece ∷ rule r ∷ es)
