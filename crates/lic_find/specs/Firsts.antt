-- Tokens with which matches begin.
use Rattle.std.specs.Prelude.{◌≡◌, ℕ, ◌+◌, ◌≤◌, List, [], ◌∷◌, Contains}
use Rattle.lic_norm.specs.Tokens.{TokenValue}
use Rattle.lic_set.specs.Sets.{Known}
use Rattle.lic_find.specs.Among.{IsMatchAmong}
use Rattle.lic_set.specs.declared.triple.Triple.{Triple}
use Rattle.lic_set.specs.Matches.{triple_at}

-- a first token that was noted, with numbers of templates
pub record NotedFirst : Type 0 where
  pub first : ℕ
  pub numbers : List ℕ

-- a first token with these numbers
abbrev pub noted_at : ℕ → List ℕ → NotedFirst
noted_at first numbers = record { first = first; numbers = numbers }

-- the templates that a first token represents: those of its numbers, or without numbers all that were kept
abbrev pub noted_with : List ℕ → List ℕ → List ℕ
noted_with kept [] = kept
noted_with kept (n ∷ numbers) = n ∷ numbers

-- no match of a template of these numbers begins with this token or a later one
abbrev pub NoneBeginFrom : List Known → List TokenValue → List ℕ → ℕ → Type 0
NoneBeginFrom set tokens kept from = (t : Triple) → IsMatchAmong set tokens kept t → ¬ (from ≤ t.first)

-- The first token, from this one on, with which a match of one of the kept templates begins. Its numbers are some of theirs, and the
-- templates that it represents are all that describe a range from there.
pub record IsFirstFrom (set : List Known) (tokens : List TokenValue) (kept : List ℕ) (from : ℕ)
    (noted : NotedFirst) : Type 0 where
  pub low : from ≤ noted.first
  pub begins : (last template : ℕ) × IsMatchAmong set tokens kept (triple_at noted.first last template)
  pub passed : (t : Triple) → IsMatchAmong set tokens kept t → from ≤ t.first → noted.first ≤ t.first
  pub all : (t : Triple) → IsMatchAmong set tokens kept t → t.first ≡ noted.first
      → Contains (noted_with kept noted.numbers) t.template
  pub within : (k : ℕ) → Contains noted.numbers k → Contains kept k

-- all tokens from this one on with which matches of the kept templates begin, in rising order
abbrev pub AreFirstsFrom : List Known → List TokenValue → List ℕ → ℕ → List NotedFirst → Type 0
AreFirstsFrom set tokens kept from [] = NoneBeginFrom set tokens kept from
AreFirstsFrom set tokens kept from (noted ∷ more) =
    IsFirstFrom set tokens kept from noted × AreFirstsFrom set tokens kept (noted.first + 1) more
