-- Where a literal may end.
use Rattle.std.specs.Prelude.{ℕ, ◌+◌, nat_le, List, Option, map, filter, Contains, IfSome}
use Rattle.std.specs.Option.{option_map}
use Rattle.lic_literals.specs.Hits.{offsets_of}
use Rattle.lic_literals.specs.declared.kept.Ends.{Ends}
use Rattle.lic_literals.specs.declared.kept.Kept.{Kept}

-- each of these offsets and `by` more, where that is within the limit
abbrev pub shifted : ℕ → ℕ → List ℕ → List ℕ
shifted by limit offsets = filter (λ e. nat_le e limit) (map (λ p. p + by) offsets)

abbrev pub listed : Ends → List ℕ
listed ends = shifted ends.to_end ends.limit (offsets_of ends.hits.value ends.window)

-- the offsets at which the literal may end; none where it may end anywhere
unfoldable pub ends_of : Kept → Option (List ℕ)
ends_of kept = option_map (λ ends. listed ends) kept.ends

-- the literal may end at the offset
abbrev pub MayEndAt : Kept → ℕ → Type 0
MayEndAt kept e = IfSome (ends_of kept) (λ ends. Contains ends e)
