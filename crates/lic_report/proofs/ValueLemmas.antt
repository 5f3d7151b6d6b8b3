-- Where values lie, and the lines of a match with those of its values.
use Rattle.std.proofs.Common.{◌≡◌, ℕ, zero, suc, ◌<◌, ◌≤◌, List, [], ◌∷◌, ◌++◌, map, length, get_or, None, Some, Result, Ok, Err, IfOk, ◌∙◌, ap, subst, arith, append_assoc}
use Rattle.std.specs.List.{All, Contains, flat_map}
use Rattle.std.proofs.lemmas.List.{length-map, get_or-map, get_or_default}
use Rattle.std.proofs.lemmas.List.Elements.{Contains-get_or}
use Rattle.lic_norm.specs.Spans.{AreRising, AreSpans}
use Rattle.lic_norm.specs.Tokens.{TokenValue}
use Rattle.lic_tokens.specs.declared.token.Span.{Span}
use Rattle.lic_set.specs.Sets.{Known}
use Rattle.lic_set.specs.Matches.{AreMatches, IsMatch}
use Rattle.lic_set.specs.declared.triple.Triple.{Triple}
use Rattle.lic_filters.specs.Filters.{tight_of, outer_of}
use Rattle.lic_vars.specs.Values.{Assigned, AreValues, RunsFrom}
use Rattle.lic_vars.specs.Views.{value_of}
use Rattle.lic_vars.specs.declared.values.Value.{Value}
use Rattle.lic_report.specs.Report.{match_line, no_token, value_line, valued_lines}

-- ---- spans

-- a later token ends after this place
rising_from : (from : ℕ) (tokens : List TokenValue) (j : ℕ) → AreRising from tokens → j < length tokens → from ≤ (get_or tokens j no_token).span.end
rising_from from [] j r h = absurd (omega arith)
rising_from from (t ∷ ts) zero r h = let a = r.0 in let b = r.1 in omega arith
rising_from from (t ∷ ts) (suc j) r h =
    let a = r.0 in
    let b = r.1 in
    let later : t.span.end ≤ (get_or ts j no_token).span.end = rising_from t.span.end ts j r.2 (omega arith) in
    omega arith

-- from the start of a token to the end of it or a later one
rising_between : (from : ℕ) (tokens : List TokenValue) (i j : ℕ) → AreRising from tokens → i ≤ j → j < length tokens
    → (get_or tokens i no_token).span.start ≤ (get_or tokens j no_token).span.end
rising_between from [] i j r h lt = absurd (omega arith)
rising_between from (t ∷ ts) zero zero r h lt = let b = r.1 in omega arith
rising_between from (t ∷ ts) zero (suc j) r h lt =
    let b = r.1 in
    let later : t.span.end ≤ (get_or ts j no_token).span.end = rising_from t.span.end ts j r.2 (omega arith) in
    omega arith
rising_between from (t ∷ ts) (suc i) zero r h lt = absurd (omega arith)
rising_between from (t ∷ ts) (suc i) (suc j) r h lt = rising_between t.span.end ts i j r.2 (omega arith) (omega arith)

-- what runs over tokens lies in the source
abbrev pub Fits : List ℕ → Span → Type 0
Fits source s = (s.start ≤ s.end) × (s.end ≤ length source)

span_fits : (source : List ℕ) (tokens : List TokenValue) (t : Triple) (s : Span) → AreSpans source tokens
    → t.last < length tokens → RunsFrom tokens t s → Fits source s
span_fits source tokens t s spans within runs =
    let low : runs.first ≤ runs.last = runs.order in
    let high : runs.last ≤ t.last = runs.ends in
    let lt : runs.last < length tokens = omega arith in
    let between : (get_or tokens runs.first no_token).span.start ≤ (get_or tokens runs.last no_token).span.end =
    rising_between 0 tokens runs.first runs.last spans.rising low lt in
    let inside : (get_or tokens runs.last no_token).span.end ≤ length source = spans.within runs.last no_token lt in
    let start : s.start ≡ (get_or tokens runs.first no_token).span.start = runs.start no_token in
    let end : s.end ≡ (get_or tokens runs.last no_token).span.end = runs.end no_token in
    (omega arith, omega arith)

-- the spans of a match's values lie in the source
pub values_fit : (source : List ℕ) (set : List Known) (tokens : List TokenValue) (t : Triple) (values : List Value)
    → ((s : List Known) (ts : List TokenValue) (u : Triple) (vs : List Assigned) (v : Assigned) (span : Span)
    → AreValues s ts u vs → Contains vs v → v.span ≡ Some span → RunsFrom ts u span)
    → AreSpans source tokens → t.last < length tokens → AreValues set tokens t (map value_of values)
    → All (λ value. (s : Span) → value.span ≡ Some s → Fits source s) values
values_fit source set tokens t values law spans within are = λ k d lt s e.
    let long : length (map value_of values) ≡ length values = length-map values value_of in
    let same : get_or (map value_of values) k (value_of (get_or values k d)) ≡ value_of (get_or values k (get_or values k d)) =
    get_or-map value_of values k (get_or values k d) (value_of (get_or values k d)) lt in
    let itself : get_or values k (get_or values k d) ≡ get_or values k d = get_or_default values k (get_or values k d) d lt in
    let known : Contains (map value_of values) (value_of (get_or values k d)) = (k, omega arith, same ∙ ap value_of itself) in
    span_fits source tokens t s spans within (law set tokens t (map value_of values) (value_of (get_or values k d)) s are known e)

-- ---- outer matches

-- the outer matches are matches
pub outer_are_matches : (set : List Known) (tokens : List TokenValue) (found triples : List Triple)
    → ((list : List Triple) (t : Triple) → Contains (outer_of list) t → Contains (tight_of list) t)
    → ((list : List Triple) (t : Triple) → Contains (tight_of list) t → Contains list t)
    → AreMatches set tokens None found → triples ≡ outer_of found → All (IsMatch set tokens) triples
outer_are_matches set tokens found triples outer tight matches e = λ k d lt.
    let known : Contains triples (get_or triples k d) = Contains-get_or triples k d lt in
    let among : Contains found (get_or triples k d) =
    tight found (get_or triples k d) (outer found (get_or triples k d) (subst (λ l. Contains l (get_or triples k d)) e known)) in
    ((matches.exact (get_or triples k d)).0 among).0

-- the line of a match and the lines of its values are its lines
pub valued_line : {E A : Type 0} (r : Result A E) (name : List ℕ) (set : List Known) (source : List ℕ)
    (tokens : List TokenValue) (t : Triple) (old mid new : List ℕ)
    (values : List Value) (given : List Value)
    → given ≡ values → AreValues set tokens t (map value_of values)
    → mid ≡ old ++ match_line name set tokens t
    → IfOk r (λ _. new ≡ mid ++ flat_map (value_line source) (map value_of given))
    → IfOk r (λ _. (vs : List Assigned) × AreValues set tokens t vs
    × (new ≡ old ++ valued_lines name set source tokens (record { triple = t; values = vs })))
valued_line (Ok x) name set source tokens t old mid new values given e are line more = (
  map value_of values,
  are,
  more ∙ ap (λ l. mid ++ flat_map (value_line source) (map value_of l)) e ∙ ap (λ l. l ++ flat_map (value_line source) (map value_of values)) line
      ∙ append_assoc old (match_line name set tokens t) (flat_map (value_line source) (map value_of values)),
)
valued_line (Err x) name set source tokens t old mid new values given e are line more = tt
