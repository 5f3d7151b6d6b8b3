-- Outer matches, and the lines of their values.
use Rattle.std.proofs.Common.{◌≡◌, ℕ, ◌+◌, ◌<◌, List, ◌++◌, map, length, take, get_or, Bool, nat_lt, Option, None, Result, Ok, Err, OnErr, refl, sym, ap, ◌∙◌, subst, arith, length-append}
use Rattle.std.specs.List.{All, flat_map}
use Rattle.std.specs.Io.KnownBytes.{Appends}
use Rattle.std.proofs.lemmas.List.{length-map, take_more}
use Rattle.lic_norm.specs.Tokens.{TokenValue}
use Rattle.lic_set.specs.Sets.{Known}
use Rattle.lic_set.specs.Matches.{AreMatches}
use Rattle.lic_set.specs.declared.triple.Triple.{Triple}
use Rattle.lic_filters.specs.Filters.{outer_of}
use Rattle.lic_vars.specs.Values.{Assigned, AreValues}
use Rattle.lic_stream.specs.Stream.{BeginsWith}
use Rattle.lic_report.specs.Prefixes.{Named}
use Rattle.lic_report.specs.Report.{AreOuterLines, HasItsValues, Valued, match_line, triple_of, value_line, valued_lines}
use Rattle.lic_engine.proofs.DoneLemmas.{AreDone, done_more}
use Rattle.lic_engine.proofs.ReportLemmas.{line_long, some_lines}

-- there is one list of values for a match
pub one_valued : (set : List Known) (tokens : List TokenValue)
    → ((s : List Known) (ts : List TokenValue) (t : Triple) (xs ys : List Assigned) → AreValues s ts t xs → AreValues s ts t ys → xs ≡ ys)
    → (x y : Valued) → triple_of x ≡ triple_of y → HasItsValues set tokens x → HasItsValues set tokens y → x ≡ y
one_valued set tokens law x y e h k =
    let moved : AreValues set tokens y.triple x.values = subst (λ t. AreValues set tokens t x.values) e h in
    let same : x.values ≡ y.values = law set tokens y.triple x.values y.values moved k in
    λ i. record { triple = e i; values = same i }

-- the lines of a match under this name and by this set
pub valued_by : (of : Named) (name : List ℕ) (set : List Known) (source : List ℕ) (tokens : List TokenValue) (gathered more : List ℕ) (t : Triple)
    → of ≡ record { name = name; set = set }
    → ((values : List Assigned) × AreValues of.set tokens t values
    × (more ≡ gathered ++ valued_lines of.name of.set source tokens (record { triple = t; values = values })))
    → (values : List Assigned) × AreValues set tokens t values
    × (more ≡ gathered ++ valued_lines name set source tokens (record { triple = t; values = values }))
valued_by of name set source tokens gathered more t same line =
    subst (λ (o : Named). (values : List Assigned) × AreValues o.set tokens t values
    × (more ≡ gathered ++ valued_lines o.name o.set source tokens (record { triple = t; values = values })))
    same line

-- the lines of one match more are gathered
pub valued_more : (name : List ℕ) (set : List Known) (source : List ℕ) (tokens : List TokenValue) (a b : Option (List ℕ)) (gathered more : List ℕ)
    (triples : List Triple) (i : ℕ) (d : Triple)
    → AreDone Triple Valued triple_of (HasItsValues set tokens) (valued_lines name set source tokens) a b gathered (take i triples)
    → i < length triples
    → ((values : List Assigned) × AreValues set tokens (get_or triples i d) values
    × (more ≡ gathered ++ valued_lines name set source tokens (record { triple = get_or triples i d; values = values })))
    → AreDone Triple Valued triple_of (HasItsValues set tokens) (valued_lines name set source tokens) a b more (take (i + 1) triples)
valued_more name set source tokens a b gathered more triples i d h within line =
    subst (λ keys. AreDone Triple Valued triple_of (HasItsValues set tokens)
    (valued_lines name set source tokens) a b more keys) (sym (take_more triples i d within))
    (done_more Triple Valued triple_of (HasItsValues set tokens) (valued_lines name set source tokens) a b gathered more (take i triples)
    (record { triple = get_or triples i d; values = line.0 }) h line.1 line.2)

valued_long : (name : List ℕ) (set : List Known) (source : List ℕ) (tokens : List TokenValue) (m : Valued) → 0 < length (valued_lines name set source tokens m)
valued_long name set source tokens m =
    let line : 0 < length (match_line name set tokens m.triple) = line_long name set tokens m.triple in
    let both : length (valued_lines name set source tokens m) ≡ length (match_line name set tokens m.triple) + length (flat_map (value_line source) m.values) =
    length-append (match_line name set tokens m.triple) (flat_map (value_line source) m.values) in
    omega arith

module _ (name : List ℕ) (set : List Known) (source : List ℕ) (tokens : List TokenValue) (triples : List Triple) where
  -- a beginning of the lines of these matches is one of each report, if they are the outer ones
  pub begins_outer : {A E : Type 0} (r : Result A E) (a b : Option (List ℕ))
      → ((others : List Triple) → AreMatches set tokens None others → triples ≡ outer_of others)
      → ((outer : List Valued) → map triple_of outer ≡ triples → All (HasItsValues set tokens) outer
      → BeginsWith a b (flat_map (valued_lines name set source tokens) outer))
      → OnErr r ((lines : List ℕ) → AreOuterLines name set source tokens lines → BeginsWith a b lines)
  begins_outer (Ok x) a b only p = tt
  begins_outer (Err x) a b only p = λ lines report.
      subst (λ l. BeginsWith a b l) (sym report.lines) (p report.outer (report.triples ∙ sym (only report.found report.matches)) report.values)

  -- the lines of these matches are a report
  pub whole_outer : (some : Bool) (a b : Option (List ℕ))
      → ((found : List Triple) × AreMatches set tokens None found × (triples ≡ outer_of found))
      → ((outer : List Valued) × (map triple_of outer ≡ triples) × All (HasItsValues set tokens) outer
      × Appends a b (flat_map (valued_lines name set source tokens) outer))
      → some ≡ nat_lt 0 (length triples)
      → (lines : List ℕ) × AreOuterLines name set source tokens lines × Appends a b lines × (some ≡ nat_lt 0 (length lines))
  whole_outer some a b all w s =
      let count : length triples ≡ length w.0 = ap length (sym w.1) ∙ length-map w.0 triple_of in (
        flat_map (valued_lines name set source tokens) w.0,
        record { found = all.0; matches = all.1; outer = w.0; triples = w.1 ∙ all.2; values = w.2; lines = refl },
        w.3,
        s ∙ ap (nat_lt 0) count ∙ some_lines (valued_lines name set source tokens) w.0 (valued_long name set source tokens),
      )
