-- How far a walk over a text has come.
use Rattle.std.specs.Prelude.{◌≡◌, ℕ, ◌+◌, ◌<◌, ◌≤◌, List, length, map, Option, Some, None, Contains}
use Rattle.std.specs.List.{slice_range}
use Rattle.std.specs.Str.{chars}
use Rattle.lic_norm.specs.Tokens.{TokenValue}
use Rattle.lic_set.specs.Sets.{Known}
use Rattle.lic_auto.specs.Runs.{RunHasTakenAmong, numbers_of, set_of}
use Rattle.lic_auto.specs.declared.run.Run.{Run}
use Rattle.lic_find.specs.Among.{IsMatchAmong}
use Rattle.lic_find.specs.Firsts.{NotedFirst, AreFirstsFrom}
use Rattle.lic_set.specs.Matches.{IsAfter, Precedes}
use Rattle.lic_set.specs.declared.triple.Triple.{Triple}

-- the letters of each token from the first up to the end, which is left out
abbrev pub letters_up_to : List TokenValue → ℕ → ℕ → List (List ℕ)
letters_up_to tokens first end = map (λ t. chars t.text) (slice_range tokens first end)

-- the first token with which a range after a cursor can begin
abbrev pub BeginsAt : Option Triple → ℕ → Type 0
BeginsAt None first = first ≡ 0
BeginsAt (Some cursor) first = first ≡ cursor.first

-- The run has taken the tokens from `first` up to `end`, among all of its templates of which matches begin with `first`. No match of one
-- of them after the cursor begins before `first`, or there and with its last token before the last of these. Every such match that begins
-- later is after the cursor, and the tokens with which such matches begin are noted.
pub record HasCome (set : List Known) (tokens : List TokenValue) (cursor : Option Triple) (run : Run)
    (noted : List NotedFirst)
    (first end : ℕ) : Type 0 where
  pub order : first ≤ end
  pub within : end ≤ length tokens
  pub templates : set_of run ≡ set
  pub numbers : List ℕ
  pub taken : RunHasTakenAmong run numbers (letters_up_to tokens first end)
  pub all : (t : Triple) → IsMatchAmong set tokens (numbers_of run) t → t.first ≡ first → Contains numbers t.template
  pub reached : (t : Triple) → IsMatchAmong set tokens (numbers_of run) t → IsAfter cursor t
      → (first ≤ t.first) × (t.first ≡ first → end ≤ t.last + 1)
  pub ahead : (t : Triple) → IsMatchAmong set tokens (numbers_of run) t → first < t.first → IsAfter cursor t
  pub firsts : AreFirstsFrom set tokens (numbers_of run) (first + 1) noted

-- the first, after a cursor, of the triples of which this holds
pub record IsNext (P : Triple → Type 0) (cursor : Option Triple) (t : Triple) : Type 0 where
  pub matches : P t
  pub after : IsAfter cursor t
  pub least : (s : Triple) → P s → IsAfter cursor s → ¬ (Precedes s t)

-- every match of a template of these numbers that begins with this token ends here or before
abbrev pub AllEndBy : List Known → List TokenValue → List ℕ → ℕ → ℕ → Type 0
AllEndBy set tokens numbers first end = (t : Triple) → IsMatchAmong set tokens numbers t → t.first ≡ first → t.last + 1 ≤ end

-- no such match after a cursor begins with this token
abbrev pub NoneBegins : List Known → List TokenValue → List ℕ → Option Triple → ℕ → Type 0
NoneBegins set tokens numbers cursor first =
    (t : Triple) → IsMatchAmong set tokens numbers t → IsAfter cursor t → ¬ (t.first ≡ first)

-- no such match after a cursor has this range, whose end is left out
abbrev pub NoneHasRange : List Known → List TokenValue → List ℕ → Option Triple → ℕ → ℕ → Type 0
NoneHasRange set tokens numbers cursor first end =
    (t : Triple) → IsMatchAmong set tokens numbers t → IsAfter cursor t → t.first ≡ first → ¬ (t.last + 1 ≡ end)

-- the first such match after a cursor, which has this range, or that no such match after it has this range
abbrev pub IsNextOfRange : List Known → List TokenValue → List ℕ → Option Triple → ℕ → ℕ → Option Triple → Type 0
IsNextOfRange set tokens numbers cursor first end (Some t) =
    (t.first ≡ first) × (t.last + 1 ≡ end) × IsNext (IsMatchAmong set tokens numbers) cursor t
IsNextOfRange set tokens numbers cursor first end None = NoneHasRange set tokens numbers cursor first end
