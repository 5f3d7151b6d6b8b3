-- Literals with their windows.
use Rattle.std.specs.Prelude.{◌≡◌, ℕ, ◌+◌, List, Option, Some, None, Vec, map, length, slice_index_or}
use Rattle.std.specs.Global.{Global}
use Rattle.std.specs.List.{slice_get}
use Rattle.lic_literals.specs.Groups.{AreGroupsOf}
use Rattle.lic_literals.specs.Hits.{IsNoted}
use Rattle.lic_literals.specs.Windows.{AreBelow, HasKey}
use Rattle.lic_literals.specs.declared.groups.Groups.{Groups}
use Rattle.lic_literals.specs.declared.hits.Hits.{Hits}
use Rattle.lic_literals.specs.declared.tables.Key.{Key}
use Rattle.lic_literals.specs.declared.tables.Tables.{Tables}

-- the bytes of each literal
abbrev pub plain : List (Vec ℕ Global) → List (List ℕ)
plain literals = map (λ literal. literal.items) literals

-- Each literal has a key or none, and the tables have the windows of all keys.
pub record AreKeyed (literals : List (List ℕ)) (keys : List (Option Key)) (tables : Tables) : Type 0 where
  pub count : length keys ≡ length literals
  pub has : (k : ℕ) (literal : List ℕ) → slice_get literals k ≡ Some literal → HasKey tables literal (slice_index_or keys k None)
  pub below : AreBelow tables (length literals)

-- each literal is in the group of its window too
pub record IsPrefilter (literals : List (List ℕ)) (keys : List (Option Key)) (groups : Groups) (tables : Tables) : Type 0 where
  pub keyed : AreKeyed literals keys tables
  pub grouped : AreGroupsOf keys groups

-- by what is noted of its window, a literal with this key may end at an offset
abbrev pub CanEndAt : Option Key → Hits → ℕ → Type 0
CanEndAt None hits e = Unit {0}
CanEndAt (Some key) hits e = (p : ℕ) × (p + key.to_end ≡ e) × IsNoted hits key.window p
