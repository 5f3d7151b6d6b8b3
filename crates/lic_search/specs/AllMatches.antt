-- The matches of templates as bundles.
use Rattle.std.specs.Prelude.{◌≡◌, ◌⊎◌, ℕ, ◌≤◌, ◌↔◌, List, [], ◌∷◌, ◌++◌, All, Contains}
use Rattle.lic_words.specs.Expressions.{Expression}
use Rattle.lic_norm.specs.Tokens.{TokenValue}
use Rattle.lic_set.specs.declared.triple.Triple.{Triple}
use Rattle.lic_search.specs.Matches.{DescribesRange, range_of}
use Rattle.lic_set.specs.Matches.{IsMatch}
use Rattle.lic_set.specs.Sets.{Known}
use Rattle.lic_search.specs.declared.all.BundledMatches.{BundledMatches}
use Rattle.lic_bundles.specs.Bundles.{AreApart, IsOf}
use Rattle.lic_bundles.specs.declared.bundle.Bundle.{Bundle}

-- the triple is in one of the bundles
pub record BundlesHold (bundles : List Bundle) (t : Triple) : Type 0 where
  pub bundle : Bundle
  pub among : Contains bundles bundle
  pub is : IsOf bundle t

-- matches begin no later than they end
pub record IsOrdered (bundle : Bundle) : Type 0 where
  pub order : bundle.from ≤ bundle.to
  pub ends : bundle.to ≤ bundle.last

-- the bundles have each range that the expression describes once, and no other, for the template of this number
pub record AreBundlesOf (tokens : List TokenValue) (expression : Expression) (template : ℕ) (bundles : List Bundle) : Type 0 where
  pub exact : (t : Triple) → BundlesHold bundles t ↔ (DescribesRange tokens expression (range_of t) × (t.template ≡ template))
  pub ordered : All IsOrdered bundles
  pub once : AreApart bundles

-- the bundles have each match of the template of this number once, and no other
pub record AreMatchBundles (set : List Known) (tokens : List TokenValue) (number : ℕ) (bundles : List Bundle) : Type 0 where
  pub exact : (t : Triple) → BundlesHold bundles t ↔ (IsMatch set tokens t × (t.template ≡ number))
  pub ordered : All IsOrdered bundles
  pub once : AreApart bundles

-- bundles were added that have each match of the template of this number once, and no other
pub record AddsBundles (set : List Known) (tokens : List TokenValue) (number : ℕ) (old new : BundledMatches) : Type 0 where
  pub more : List Bundle
  pub added : new.bundles.items ≡ old.bundles.items ++ more
  pub are : AreMatchBundles set tokens number more
  pub left : new.left.items ≡ old.left.items

-- the number was added to those of the templates that are left
pub record AddsLeft (number : ℕ) (old new : BundledMatches) : Type 0 where
  pub bundles : new.bundles.items ≡ old.bundles.items
  pub left : new.left.items ≡ old.left.items ++ number ∷ []

-- the matches of one template were added, or its number
abbrev pub AddsTemplate : List Known → List TokenValue → ℕ → BundledMatches → BundledMatches → Type 0
AddsTemplate set tokens number old new = AddsBundles set tokens number old new ⊎ AddsLeft number old new
