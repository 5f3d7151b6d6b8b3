-- Lists whose tight and outer members are computed here.
use Rattle.std.proofs.Common.{◌≡◌, ℕ, List, [], ◌∷◌, refl}
use Rattle.lic_set.specs.declared.triple.Triple.{Triple}
use Rattle.lic_filters.specs.Filters.{tight_of, outer_of}

abbrev triple : ℕ → ℕ → ℕ → Triple
triple first last template = record { first = first; last = last; template = template }

-- two templates: no tight range contains another
abbrev apart : List Triple
apart = triple 0 1 1 ∷ triple 0 2 1 ∷ triple 0 3 0 ∷ triple 1 2 0 ∷ []

tight_of-apart : tight_of apart ≡ triple 0 1 1 ∷ triple 1 2 0 ∷ []
tight_of-apart = refl

outer_of-apart : outer_of apart ≡ triple 0 1 1 ∷ triple 1 2 0 ∷ []
outer_of-apart = refl

-- two templates: one tight range contains the other
abbrev contained : List Triple
contained = triple 0 3 0 ∷ triple 1 2 1 ∷ []

tight_of-contained : tight_of contained ≡ contained
tight_of-contained = refl

outer_of-contained : outer_of contained ≡ triple 0 3 0 ∷ []
outer_of-contained = refl

-- equal ranges do not contain each other, and repeats stay
abbrev repeated : List Triple
repeated = triple 2 3 1 ∷ triple 2 3 0 ∷ triple 2 3 1 ∷ []

tight_of-repeated : tight_of repeated ≡ repeated
tight_of-repeated = refl

outer_of-repeated : outer_of repeated ≡ repeated
outer_of-repeated = refl

-- what is not tight contains nothing
abbrev wide : List Triple
wide = triple 0 9 0 ∷ triple 2 3 0 ∷ triple 1 5 1 ∷ triple 7 8 1 ∷ []

outer_of-wide : outer_of wide ≡ triple 1 5 1 ∷ triple 7 8 1 ∷ []
outer_of-wide = refl
