-- Ways in groups, by what was taken last.
use Rattle.std.specs.Prelude.{List}
use Rattle.lic_tokens.specs.Tokens.{TokenValue}
use Rattle.lic_reverse.specs.declared.ways.endings.GroupedWays.{GroupedWays}
use Rattle.lic_reverse.specs.declared.ways.Ways.{Ways}
use Rattle.lic_reverse.specs.LetterGroups.{AreGroupsOf}

-- each list of the ways in its groups
pub record AreGroupedWays (tokens : List TokenValue) (ways : Ways) (grouped : GroupedWays) : Type 0 where
  pub nothing : AreGroupsOf tokens ways.nothing.items grouped.nothing.lists.items
  pub letter : AreGroupsOf tokens ways.letter.items grouped.letter.lists.items
  pub blank : AreGroupsOf tokens ways.blank.items grouped.blank.lists.items
