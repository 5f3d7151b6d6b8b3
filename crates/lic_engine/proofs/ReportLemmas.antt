-- Lemmas on matches that are asked for, and on their lines.
use Rattle.std.proofs.Common.{◌≡◌, ℕ, ◌+◌, ◌-◌, ◌<◌, ◌≤◌, List, [], ◌∷◌, ◌++◌, take, length, Option, Bool, true, refl, sym, ◌∙◌, ap, arith, nat_lt, append_assoc, length-append, subst, Result, Ok, Err, IfOk, OnErr}
use Rattle.std.proofs.lemmas.Grind.{common_steps, flat_map-append}
use Rattle.std.proofs.lemmas.Bool.Decides.{nat_tests}
use Rattle.std.proofs.lemmas.List.{take_all}
use Rattle.std.specs.List.{flat_map, slice_range}
use Rattle.std.proofs.Math.Seq.{take-add}
use Rattle.std.specs.Io.KnownBytes.{Appends}
use Rattle.lic_norm.specs.Tokens.{TokenValue}
use Rattle.lic_set.specs.Sets.{Known}
use Rattle.lic_set.specs.Matches.{AreMatches}
use Rattle.lic_set.specs.declared.triple.Triple.{Triple}
use Rattle.lic_stream.specs.Stream.{BeginsWith}
use Rattle.lic_fields.specs.Fields.{escaped, field}
use Rattle.lic_report.specs.Report.{match_line, token_line, token_lines, first_of, AreAllLines, AreLines}
use Rattle.lic_report.specs.TokenLines.{lines_between}
use Rattle.lic_stream.proofs.Written.{IsPut, put_whole}
use Rattle.lic_find.specs.declared.ask.Ask.{Ask}

pub some_more : {X : Type 0} (xs : List X) (x : X) → true ≡ nat_lt 0 (length (xs ++ x ∷ []))
some_more xs x = let h = length-append xs (x ∷ []) in grind (arith, nat_tests, h)

-- a list of lines is empty only where there is none
pub some_lines : {X : Type 0} (f : X → List ℕ) (xs : List X) → ((x : X) → 0 < length (f x)) → nat_lt 0 (length xs) ≡ nat_lt 0 (length (flat_map f xs))
some_lines f [] long = refl
some_lines f (x ∷ xs) long = let h = long x in let e = length-append (f x) (flat_map f xs) in grind (arith, nat_tests, common_steps)

-- no line is empty
pub line_long : (name : List ℕ) (set : List Known) (tokens : List TokenValue) (t : Triple) → 0 < length (match_line name set tokens t)
line_long name set tokens t =
    let head : List ℕ = escaped name in
    let e = length-append head (0x09 ∷ []) in
    let rest : List ℕ = _ in
    let all : length (match_line name set tokens t) ≡ length (head ++ 0x09 ∷ []) + length rest = length-append (head ++ 0x09 ∷ []) rest in
    grind (arith, common_steps)

module _ (name : List ℕ) (set : List Known) (ask : Ask) (tokens : List TokenValue) (wanted : List Triple) where
  -- a beginning of the lines that are wanted is one of each report
  pub begins_report : {A E : Type 0} (r : Result A E) (a b : Option (List ℕ))
      → ((others : List Triple) → AreMatches set tokens ask.after others → first_of ask.limit others ≡ wanted)
      → BeginsWith a b (flat_map (match_line name set tokens) wanted)
      → OnErr r ((lines : List ℕ) → AreAllLines name set ask tokens lines → BeginsWith a b lines)
  begins_report (Ok x) a b only p = tt
  begins_report (Err x) a b only p = λ lines report.
      subst (λ l. BeginsWith a b l) (sym (report.lines ∙ ap (flat_map (match_line name set tokens)) (only report.found report.matches))) p

  -- the lines that are wanted are a report
  pub whole_lines : (some : Bool) (a b : Option (List ℕ))
      → ((found : List Triple) × AreMatches set tokens ask.after found × (wanted ≡ first_of ask.limit found))
      → Appends a b (flat_map (match_line name set tokens) wanted) → some ≡ nat_lt 0 (length wanted)
      → (lines : List ℕ) × AreAllLines name set ask tokens lines × Appends a b lines × (some ≡ nat_lt 0 (length lines))
  whole_lines some a b all p s = (
    flat_map (match_line name set tokens) wanted,
    record { found = all.0; matches = all.1; lines = ap (flat_map (match_line name set tokens)) all.2 },
    p,
    s ∙ some_lines (match_line name set tokens) wanted (line_long name set tokens),
  )

-- ---- reports

module _ (name : List ℕ) (set : List Known) (ask : Ask) (source : List ℕ) (tokens : List TokenValue) where
  -- what is so of the lines of this kind of report is so of the report that is asked for
  pub report_of_kind : {E : Type 0} (r : Result Bool E) (kind : Bool) (a b : Option (List ℕ)) → ask.all ≡ kind
      → IfOk r (λ some. (lines : List ℕ) × AreLines kind name set ask source tokens lines × Appends a b lines × (some ≡ nat_lt 0 (length lines)))
      → IfOk r (λ some. (lines : List ℕ) × AreLines ask.all name set ask source tokens lines × Appends a b lines × (some ≡ nat_lt 0 (length lines)))
  report_of_kind r kind a b e p =
      subst (λ k. IfOk r (λ some. (lines : List ℕ) × AreLines k name set ask source tokens lines × Appends a b lines
      × (some ≡ nat_lt 0 (length lines)))) (sym e) p

  pub part_of_kind : {E : Type 0} (r : Result Bool E) (kind : Bool) (a b : Option (List ℕ)) → ask.all ≡ kind
      → OnErr r ((lines : List ℕ) → AreLines kind name set ask source tokens lines → BeginsWith a b lines)
      → OnErr r ((lines : List ℕ) → AreLines ask.all name set ask source tokens lines → BeginsWith a b lines)
  part_of_kind r kind a b e p =
      subst (λ k. OnErr r ((lines : List ℕ) → AreLines k name set ask source tokens lines → BeginsWith a b lines)) (sym e) p

-- ---- lines of tokens

token_long : (name : List ℕ) (t : TokenValue) → 0 < length (token_line name t)
token_long name t =
    let head : List ℕ = escaped name in
    let e = length-append head (0x09 ∷ []) in
    let rest : List ℕ = _ in
    let all : length (token_line name t) ≡ length (head ++ 0x09 ∷ []) + length rest = length-append (head ++ 0x09 ∷ []) rest in
    grind (arith, common_steps)

-- there is a line where there is a token
pub some_tokens : (name : List ℕ) (tokens : List TokenValue) → nat_lt 0 (length tokens) ≡ nat_lt 0 (length (token_lines name tokens))
some_tokens name tokens = some_lines (token_line name) tokens (token_long name)

-- the lines of the next tokens are gathered
pub put_some : (name : List ℕ) (tokens : List TokenValue) (i j : ℕ) (a b : Option (List ℕ)) (gathered more : List ℕ)
    → IsPut a b gathered (token_lines name (take i tokens)) → i ≤ j
    → more ≡ gathered ++ lines_between (field (escaped name) 0x09) tokens i j
    → IsPut a b more (token_lines name (take j tokens))
put_some name tokens i j a b gathered more p order lines =
    let all : take j tokens ≡ take i tokens ++ slice_range tokens i j =
    ap (λ n. take n tokens) (omega (arith, order)) ∙ take-add i (j - i) tokens in
    record {
      put = p.put;
      appends = p.appends;
      whole = ap (token_lines name) all
          ∙ (flat_map-append (token_line name) (take i tokens) (slice_range tokens i j)
          ∙ (ap (λ l. l ++ lines_between (field (escaped name) 0x09) tokens i j) p.whole
          ∙ (append_assoc p.put gathered (lines_between (field (escaped name) 0x09) tokens i j) ∙ ap (λ l. p.put ++ l) (sym lines))));
    }

-- the lines of all tokens are put
pub put_tokens : (name : List ℕ) (tokens : List TokenValue) (i : ℕ) (a b c : Option (List ℕ)) (gathered : List ℕ)
    → IsPut a b gathered (token_lines name (take i tokens)) → Appends b c gathered → length tokens ≤ i
    → Appends a c (token_lines name tokens)
put_tokens name tokens i a b c gathered p q h =
    subst (λ ts. Appends a c (token_lines name ts)) (take_all i tokens h) (put_whole a b c gathered (token_lines name (take i tokens)) p q)

pub begins_tokens : {A E : Type 0} (r : Result A E) (name : List ℕ) (tokens : List TokenValue) (a b : Option (List ℕ))
    → BeginsWith a b (token_lines name tokens) → OnErr r (BeginsWith a b (token_lines name tokens))
begins_tokens (Ok x) name tokens a b p = tt
begins_tokens (Err x) name tokens a b p = p

-- what holds anyway holds where the answer is an error
pub on_error : {A E : Type 0} → (P : Type 0) (answer : Result A E) → P → OnErr answer P
on_error P (Ok a) p = tt
on_error P (Err e) p = p
