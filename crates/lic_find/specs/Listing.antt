-- The matches of a text as a list that computes.
use Rattle.std.specs.Prelude.{ℕ, ◌==◌, ◌&&◌, ◌||◌, nat_le, Bool, true, false, List, length, map, filter, Option, Some, None}
use Rattle.std.specs.List.{slice_get, flat_map, list_any, range_with_len}
use Rattle.lic_norm.specs.Tokens.{TokenValue}
use Rattle.lic_marks.specs.Deciding.{is_described}
use Rattle.lic_set.specs.Sets.{Known, words_of}
use Rattle.lic_set.specs.Matches.{precedes, triple_at, letters_between}
use Rattle.lic_set.specs.declared.triple.Triple.{Triple}

-- the numbers below a bound
abbrev pub numbers_below : ℕ → List ℕ
numbers_below bound = range_with_len 0 bound

-- all triples of that many tokens and that many templates, in order
abbrev pub all_triples : ℕ → ℕ → List Triple
all_triples tokens templates =
    flat_map (λ first. flat_map (λ last. map (λ template. triple_at first last template) (numbers_below templates))
    (numbers_below tokens)) (numbers_below tokens)

-- whether a template, if there is one, describes tokens with these letters
abbrev pub describes : Option Known → List (List ℕ) → Bool
describes None letters = false
describes (Some known) letters = is_described (words_of known) letters

-- whether the template of a triple describes the tokens of its range
abbrev pub is_matching : List Known → List TokenValue → Triple → Bool
is_matching set tokens t = nat_le t.first t.last
    && describes (slice_get set t.template) (letters_between tokens t.first t.last)

-- all matches in a text, in order
abbrev pub matches_of : List Known → List TokenValue → List Triple
matches_of set tokens = filter (is_matching set tokens) (all_triples (length tokens) (length set))

-- whether a triple comes after a cursor, if there is one
abbrev pub is_after : Option Triple → Triple → Bool
is_after None t = true
is_after (Some cursor) t = precedes cursor t

-- the matches after a cursor, or all of them
unfoldable pub matches_after : List Known → List TokenValue → Option Triple → List Triple
matches_after set tokens cursor = filter (is_after cursor) (matches_of set tokens)

-- whether the template of a triple has one of these numbers
abbrev pub is_among : List ℕ → Triple → Bool
is_among numbers t = list_any (λ n. t.template == n) numbers

-- the matches after a cursor, or all of them, of the templates of these numbers
unfoldable pub matches_among : List Known → List TokenValue → List ℕ → Option Triple → List Triple
matches_among set tokens numbers cursor = filter (is_among numbers) (matches_after set tokens cursor)
