-- Where templates describe ranges of tokens.
use Rattle.std.specs.Prelude.{◌≡◌, ℕ, ◌+◌, ◌<◌, ◌≤◌, ◌⊎◌, ◌↔◌, ◌==◌, ◌&&◌, ◌||◌, nat_lt, Bool, List, [], ◌∷◌, length, map, Option, Some, None, Contains, slice_range}
use Rattle.std.specs.List.{slice_get}
use Rattle.std.specs.Str.{chars}
use Rattle.lic_norm.specs.Tokens.{TokenValue}
use Rattle.lic_words.specs.Describing.{IsDescribed}
use Rattle.lic_set.specs.Sets.{Known, words_of}
use Rattle.lic_set.specs.declared.triple.Triple.{Triple}

-- the letters of each token
abbrev pub all_letters : List TokenValue → List (List ℕ)
all_letters tokens = map (λ t. chars t.text) tokens

-- the letters of each token from the first to the last
abbrev pub letters_between : List TokenValue → ℕ → ℕ → List (List ℕ)
letters_between tokens first last = map (λ t. chars t.text) (slice_range tokens first (last + 1))

-- the template of this number describes the tokens from the first to the last
pub record IsMatch (set : List Known) (tokens : List TokenValue) (t : Triple) : Type 0 where
  pub order : t.first ≤ t.last
  pub within : t.last < length tokens
  pub known : Known
  pub number : slice_get set t.template ≡ Some known
  pub described : IsDescribed (words_of known) (letters_between tokens t.first t.last)

-- the triple of these tokens and this template
abbrev pub triple_at : ℕ → ℕ → ℕ → Triple
triple_at first last template = record { first = first; last = last; template = template }

-- whether the first triple comes before the second
abbrev pub precedes : Triple → Triple → Bool
precedes s t =
    nat_lt s.first t.first || (s.first == t.first
    && (nat_lt s.last t.last || (s.last == t.last && nat_lt s.template t.template)))

-- by first token, then by last token, then by template
abbrev pub Precedes : Triple → Triple → Type 0
Precedes s t = (s.first < t.first)
    ⊎ ((s.first ≡ t.first) × ((s.last < t.last) ⊎ ((s.last ≡ t.last) × (s.template < t.template))))

-- after this triple, or any where there is none
abbrev pub IsAfter : Option Triple → Triple → Type 0
IsAfter None t = Unit {0}
IsAfter (Some after) t = Precedes after t

-- each precedes all after it
abbrev pub AreAscending : List Triple → Type 0
AreAscending [] = Unit {0}
AreAscending (t ∷ ts) = ((s : Triple) → Contains ts s → Precedes t s) × AreAscending ts

-- The list has exactly the matches after a triple, or all of them, each once, in order.
pub record AreMatches (set : List Known) (tokens : List TokenValue) (after : Option Triple)
    (found : List Triple) : Type 0 where
  pub ascending : AreAscending found
  pub exact : (t : Triple) → Contains found t ↔ (IsMatch set tokens t × IsAfter after t)
