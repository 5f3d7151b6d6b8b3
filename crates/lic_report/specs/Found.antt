-- What a finder gives, where there is one.
use Rattle.std.specs.Prelude.{List, [], Option, Some, None}
use Rattle.lic_find.specs.Remaining.{remaining_matches}
use Rattle.lic_set.specs.declared.triple.Triple.{Triple}
use Rattle.lic_find.specs.declared.finder.Finder.{Finder}

-- what the finder has left, or nothing
abbrev pub found_in : Option Finder → List Triple
found_in None = []
found_in (Some finder) = remaining_matches finder
