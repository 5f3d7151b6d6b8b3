-- What a finder has left to give, and what it has taken.
use Rattle.std.specs.Prelude.{◌≡◌, ℕ, ◌+◌, ◌-◌, ◌^◌, List, Option, None, min}
use Rattle.std.specs.Option.{option_or}
use Rattle.lic_norm.specs.Tokens.{TokenValue}
use Rattle.lic_set.specs.Sets.{Known}
use Rattle.lic_auto.specs.Runs.{numbers_of, steps_of}
use Rattle.lic_find.specs.Among.{HaveAllMatches}
use Rattle.lic_find.specs.Listing.{matches_among}
use Rattle.lic_set.specs.declared.triple.Triple.{Triple}
use Rattle.lic_find.specs.declared.finder.Finder.{Finder}

-- the templates and the tokens
abbrev pub set_in : Finder → List Known
set_in f = f.set.now

abbrev pub tokens_in : Finder → List TokenValue
tokens_in f = f.text.now.tokens

-- the numbers of the templates whose matches it finds
abbrev pub numbers_in : Finder → List ℕ
numbers_in f = numbers_of f.run

-- it finds the matches of all templates
abbrev pub HasAllMatches : Finder → Type 0
HasAllMatches f = HaveAllMatches (set_in f) (tokens_in f) (numbers_in f)

-- where it began: after a triple, or with the first match
abbrev pub began_after : Finder → Option Triple
began_after f = f.began

-- the last triple that it gave
abbrev pub last_given : Finder → Option Triple
last_given f = f.given

-- its cursor: the last triple that it gave, or where it began
abbrev pub cursor_of : Finder → Option Triple
cursor_of f = option_or f.given f.began

-- the matches of its templates after its cursor
abbrev pub remaining_matches : Finder → List Triple
remaining_matches f = matches_among f.set.now f.text.now.tokens (numbers_of f.run) (cursor_of f)

-- the steps of the reverse scan that noted first tokens and those of its run, together at most the greatest `u64`
abbrev pub steps_taken : Finder → ℕ
steps_taken f = min (f.noting + steps_of f.run) (2 ^ 64 - 1)

-- a finder of these templates and tokens that has given nothing yet
pub record IsBegun (f : Finder) (set : List Known) (tokens : List TokenValue) (cursor : Option Triple) : Type 0 where
  pub templates : set_in f ≡ set
  pub text : tokens_in f ≡ tokens
  pub began : began_after f ≡ cursor
  pub given : last_given f ≡ None

-- of the same templates and tokens, begun at the same cursor, with the run from the same first token
pub record IsInSameScan (f g : Finder) : Type 0 where
  pub set : g.set ≡ f.set
  pub text : g.text ≡ f.text
  pub numbers : numbers_of g.run ≡ numbers_of f.run
  pub began : g.began ≡ f.began
  pub starts : g.starts ≡ f.starts
  pub noting : g.noting ≡ f.noting
  pub first : g.first ≡ f.first
