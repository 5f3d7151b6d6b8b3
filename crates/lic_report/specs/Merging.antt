-- Two ascending lists of triples as one.
use Rattle.std.specs.Prelude.{Bool, true, false, if◌then◌else◌, List, [], ◌∷◌, Option, Some, None}
use Rattle.lic_set.specs.declared.triple.Triple.{Triple}
use Rattle.lic_set.specs.Matches.{precedes}

-- a triple and what comes after it, merged with a list, where `others` merges what comes after it with a list
abbrev pub merged_with : Triple → (List Triple → List Triple) → List Triple → List Triple
merged_with x others [] = x ∷ others []
merged_with x others (y ∷ ys) = if precedes x y then x ∷ others (y ∷ ys) else y ∷ merged_with x others ys

-- two lists merged in the order of triples
abbrev pub merged : List Triple → List Triple → List Triple
merged [] ys = ys
merged (x ∷ xs) ys = merged_with x (merged xs) ys

-- what is left to give where the next triple is known, and what comes after it
abbrev pub with_next : Option Triple → List Triple → List Triple
with_next None others = []
with_next (Some t) others = t ∷ others

-- whether there is a first triple, and it comes before the second if there is a second
abbrev pub comes_first : Option Triple → Option Triple → Bool
comes_first None other = false
comes_first (Some t) None = true
comes_first (Some t) (Some u) = precedes t u
