-- Templates that cannot be ruled out for a text.
use Rattle.std.specs.Prelude.{ℕ, ◌<◌, List, length, slice_index_or}
use Rattle.lic_norm.specs.Tokens.{TokenValue}
use Rattle.lic_places.specs.Places.{spelling_of}
use Rattle.lic_keys.specs.Candidates.{KeepsEnds}
use Rattle.lic_keys.specs.Required.{IsLongestText}
use Rattle.lic_literals.specs.declared.kept.Kept.{Kept}
use Rattle.lic_set.specs.Sets.{Known}

-- the number of its template
abbrev pub number_of : Kept → ℕ
number_of candidate = candidate.number

-- one of the templates, whose longest text, if it has one, may end wherever it does in the canonical spelling
pub record IsCandidateOf (set : List Known) (tokens : List TokenValue) (candidate : Kept) : Type 0 where
  pub below : candidate.number < length set
  pub ends : (d : Known) (part : ℕ) (letters : List ℕ) → IsLongestText (slice_index_or set candidate.number d).template.parts part letters →
      KeepsEnds (spelling_of tokens) letters candidate
