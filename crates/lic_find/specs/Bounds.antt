-- What the steps of a finder are bounded by: the letters of tokens, and the first tokens of matches.
use Rattle.std.specs.Prelude.{ℕ, ◌+◌, ◌-◌, ◌*◌, ◌==◌, Bool, List, [], ◌∷◌, length, max, if◌then◌else◌, filter, sum_by, slice_range}
use Rattle.std.specs.List.{list_any, range_with_len}
use Rattle.std.specs.Str.{chars}
use Rattle.lic_norm.specs.Tokens.{TokenValue}
use Rattle.lic_words.specs.Letters.{letters_in}
use Rattle.lic_set.specs.Sets.{Known}
use Rattle.lic_find.specs.Listing.{matches_of}
use Rattle.lic_set.specs.declared.triple.Triple.{Triple}

-- how many letters the tokens have together, blanks not counted
unfoldable pub letters_of : List TokenValue → ℕ
letters_of tokens = sum_by (λ t. letters_in (chars t.text)) tokens

-- the most steps that one walk over the tokens takes: two a letter, and two where it begins
abbrev pub scan_steps : List TokenValue → ℕ
scan_steps tokens = 2 * (letters_of tokens + 1)

-- whether one of the matches begins with this token
abbrev pub begins_one : List Triple → ℕ → Bool
begins_one matches first = list_any (λ t. t.first == first) matches

-- the tokens from this one on with which matches begin, each once
unfoldable pub firsts_from : List Known → List TokenValue → ℕ → List ℕ
firsts_from set tokens from = filter (begins_one (matches_of set tokens)) (range_with_len from (length tokens - from))

-- the tokens with which matches begin, each once
abbrev pub firsts_of : List Known → List TokenValue → List ℕ
firsts_of set tokens = firsts_from set tokens 0

-- where the longest of the matches that begin with this token ends
abbrev pub longest_end : List Triple → ℕ → ℕ
longest_end [] first = first
longest_end (t ∷ matches) first =
    if t.first == first then max (t.last + 1) (longest_end matches first) else longest_end matches first

-- the letters of the longest match that begins with this token
unfoldable pub letters_of_longest : List Known → List TokenValue → ℕ → ℕ
letters_of_longest set tokens first = letters_of (slice_range tokens first (longest_end (matches_of set tokens) first))

-- for each token with which matches begin, the letters of the longest match from there, together
abbrev pub letters_of_matches : List Known → List TokenValue → ℕ
letters_of_matches set tokens = sum_by (letters_of_longest set tokens) (firsts_of set tokens)
