-- For each input there is one report.
use Rattle.std.proofs.Common.{◌≡◌, ℕ, Bool, true, false, List, [], ◌∷◌, ◌++◌, map, length, Option, None, refl, sym, ap, subst, ◌∙◌, arith}
use Rattle.std.specs.List.{All, Contains, flat_map}
use Rattle.std.proofs.lemmas.List.Elements.{All-cons, All-head, All-nil, All-tail}
use Rattle.lic_norm.specs.Tokens.{TokenValue}
use Rattle.lic_set.specs.Sets.{Known}
use Rattle.lic_set.specs.Matches.{AreMatches, IsMatch}
use Rattle.lic_set.specs.declared.triple.Triple.{Triple}
use Rattle.lic_filters.specs.Filters.{tight_of, outer_of}
use Rattle.lic_find.specs.declared.ask.Ask.{Ask}
use Rattle.lic_vars.specs.Values.{Assigned, AreValues}
use Rattle.lic_report.specs.Report.{AreAllLines, AreLines, AreOuterLines, HasItsValues, IsReportOf, Valued, first_of, match_line, triple_of, valued_lines}
use Rattle.lic_report.proofs.ValueLemmas.{outer_are_matches}

-- ---- there is one

-- matches with their values
with_values : (set : List Known) (tokens : List TokenValue)
    → ((t : Triple) → IsMatch set tokens t → (values : List Assigned) × AreValues set tokens t values)
    → (ts : List Triple) → All (IsMatch set tokens) ts
    → (outer : List Valued) × (map triple_of outer ≡ ts) × All (HasItsValues set tokens) outer
with_values set tokens values [] all = ([], refl, All-nil (HasItsValues set tokens))
with_values set tokens values (t ∷ ts) all =
    let one = values t (All-head (IsMatch set tokens) t ts all) in
    let more = with_values set tokens values ts (All-tail (IsMatch set tokens) t ts all) in
    let valued : Valued = record { triple = t; values = one.0 } in
    (valued ∷ more.0, ap (λ xs. t ∷ xs) more.1, All-cons (HasItsValues set tokens) valued more.0 one.1 more.2)

module _ (exist : (set : List Known) (tokens : List TokenValue) (after : Option Triple) → (found : List Triple) × AreMatches set tokens after found)
    (values : (set : List Known) (tokens : List TokenValue) (t : Triple) → IsMatch set tokens t → (values : List Assigned) × AreValues set tokens t values)
    (outer : (list : List Triple) (t : Triple) → Contains (outer_of list) t → Contains (tight_of list) t)
    (tight : (list : List Triple) (t : Triple) → Contains (tight_of list) t → Contains list t) where
  all-lines-exist : (name : List ℕ) (set : List Known) (ask : Ask) (tokens : List TokenValue) → (lines : List ℕ) × AreAllLines name set ask tokens lines
  all-lines-exist name set ask tokens =
      let (found, matches) = exist set tokens ask.after in
      (flat_map (match_line name set tokens) (first_of ask.limit found), record { found = found; matches = matches; lines = refl })

  outer-lines-exist : (name : List ℕ) (set : List Known) (source : List ℕ) (tokens : List TokenValue) →
      (lines : List ℕ) × AreOuterLines name set source tokens lines
  outer-lines-exist name set source tokens =
      let (found, matches) = exist set tokens None in
      let are : All (IsMatch set tokens) (outer_of found) = outer_are_matches set tokens found (outer_of found) outer tight matches refl in
      let (valued, same, have) = with_values set tokens (values set tokens) (outer_of found) are in (
        flat_map (valued_lines name set source tokens) valued,
        record { found = found; matches = matches; outer = valued; triples = same; values = have; lines = refl },
      )

  pub report-exists : (name : List ℕ) (set : List Known) (ask : Ask) (source : List ℕ) (tokens : List TokenValue) →
      (lines : List ℕ) × IsReportOf name set ask source tokens lines
  report-exists name set ask source tokens = by_all ask.all
    where
      by_all : (all : Bool) → (lines : List ℕ) × AreLines all name set ask source tokens lines
      by_all true = all-lines-exist name set ask tokens
      by_all false = outer-lines-exist name set source tokens

-- ---- there is no other

head : List Triple → Triple
head [] = record { first = 0; last = 0; template = 0 }
head (t ∷ ts) = t

rest : List Triple → List Triple
rest [] = []
rest (t ∷ ts) = ts

-- the lines of the same matches, where the values of a match are one list
same-lines : (name : List ℕ) (set : List Known) (source : List ℕ) (tokens : List TokenValue)
    → ((t : Triple) (xs ys : List Assigned) → AreValues set tokens t xs → AreValues set tokens t ys → xs ≡ ys)
    → (xs ys : List Valued) → map triple_of xs ≡ map triple_of ys → All (HasItsValues set tokens) xs → All (HasItsValues set tokens) ys
    → flat_map (valued_lines name set source tokens) xs ≡ flat_map (valued_lines name set source tokens) ys
unfolding head rest
same-lines name set source tokens one [] [] same of_xs of_ys = refl
same-lines name set source tokens one [] (y ∷ ys) same of_xs of_ys = absurd (let long = ap length same in omega arith)
same-lines name set source tokens one (x ∷ xs) [] same of_xs of_ys = absurd (let long = ap length same in omega arith)
same-lines name set source tokens one (x ∷ xs) (y ∷ ys) same of_xs of_ys =
    let triple : x.triple ≡ y.triple = ap head same in
    let of_x : AreValues set tokens x.triple x.values = All-head (HasItsValues set tokens) x xs of_xs in
    let of_y : AreValues set tokens y.triple y.values = All-head (HasItsValues set tokens) y ys of_ys in
    let values : x.values ≡ y.values = one y.triple x.values y.values (subst (λ t. AreValues set tokens t x.values) triple of_x) of_y in
    let lines : valued_lines name set source tokens x ≡ valued_lines name set source tokens y =
    ap (λ t. valued_lines name set source tokens (record { triple = t; values = x.values })) triple
    ∙ ap (λ vs. valued_lines name set source tokens (record { triple = y.triple; values = vs })) values in
    ap (λ line. line ++ flat_map (valued_lines name set source tokens) xs) lines
    ∙ ap (λ more. valued_lines name set source tokens y ++ more) (same-lines name set source tokens one xs ys (ap rest same)
    (All-tail (HasItsValues set tokens) x xs of_xs) (All-tail (HasItsValues set tokens) y ys of_ys))

module _ (one : (set : List Known) (tokens : List TokenValue) (after : Option Triple) (xs ys : List Triple) → AreMatches set tokens after xs →
    AreMatches set tokens after ys → xs ≡ ys)
    (values : (set : List Known) (tokens : List TokenValue) (t : Triple) (xs ys : List Assigned) → AreValues set tokens t xs → AreValues set tokens t ys → xs ≡ ys) where
  pub report-is-one : (name : List ℕ) (set : List Known) (ask : Ask) (source : List ℕ) (tokens : List TokenValue) (xs ys : List ℕ) →
      IsReportOf name set ask source tokens xs → IsReportOf name set ask source tokens ys → xs ≡ ys
  report-is-one name set ask source tokens xs ys = by_all ask.all
    where
      by_all : (all : Bool) → AreLines all name set ask source tokens xs → AreLines all name set ask source tokens ys → xs ≡ ys
      by_all true of_xs of_ys =
          of_xs.lines
          ∙ ap (λ found. flat_map (match_line name set tokens) (first_of ask.limit found))
          (one set tokens ask.after of_xs.found of_ys.found of_xs.matches of_ys.matches)
          ∙ sym of_ys.lines
      by_all false of_xs of_ys =
          let same : map triple_of of_xs.outer ≡ map triple_of of_ys.outer =
          of_xs.triples ∙ ap outer_of (one set tokens None of_xs.found of_ys.found of_xs.matches of_ys.matches) ∙ sym of_ys.triples in
          of_xs.lines
          ∙ same-lines name set source tokens (values set tokens) of_xs.outer of_ys.outer same of_xs.values of_ys.values
          ∙ sym of_ys.lines
