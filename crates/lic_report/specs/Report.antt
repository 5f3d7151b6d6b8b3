-- What is written about an input.
use Rattle.std.specs.Prelude.{◌≡◌, ℕ, Bool, true, false, List, [], ◌++◌, All, map, decimal, codes, take, slice_range, Option, Some, None}
use Rattle.std.specs.List.{flat_map, slice_index_or}
use Rattle.lic_kind.specs.LineRules.{LineRules}
use Rattle.lic_norm.specs.Tokens.{TokenValue, tokens_of}
use Rattle.lic_tokens.specs.declared.token.Span.{Span}
use Rattle.lic_phrases.specs.Rewriting.{Phrase}
use Rattle.lic_set.specs.Sets.{Known}
use Rattle.lic_set.specs.Matches.{AreMatches}
use Rattle.lic_set.specs.declared.triple.Triple.{Triple}
use Rattle.lic_filters.specs.Filters.{outer_of}
use Rattle.lic_vars.specs.Values.{Assigned, AreValues}
use Rattle.lic_find.specs.declared.ask.Ask.{Ask}
use Rattle.lic_fields.specs.Fields.{escaped, field}
use Rattle.lic_report.specs.TokenLines.{line_after}

abbrev pub no_known : Known
no_known = record { id = []; template = record { parts = []; weight = 0; original = [] } }

abbrev pub no_token : TokenValue
no_token = record { text = []; span = record { start = 0; end = 0 } }

-- ---- matches

-- what the lines of a template's matches begin with: the file's name and the template's identifier
abbrev pub match_prefix : List ℕ → List Known → ℕ → List ℕ
match_prefix name set k = field (escaped name) 0x09 ++ field (escaped (slice_index_or set k no_known).id) 0x09

-- the line of a match: the file's name, the template's identifier, the numbers of its first and last token,
-- the first byte of the one and the end of the other
abbrev pub match_line : List ℕ → List Known → List TokenValue → Triple → List ℕ
match_line name set tokens t =
    field (escaped name) 0x09 ++ (field (escaped (slice_index_or set t.template no_known).id) 0x09
    ++ (field (decimal t.first) 0x09 ++ (field (decimal t.last) 0x09
    ++ (field (decimal (slice_index_or tokens t.first no_token).span.start) 0x09
    ++ field (decimal (slice_index_or tokens t.last no_token).span.end) 0x0A))))

-- the first n, or all
abbrev pub first_of : {A : Type 0} → Option ℕ → List A → List A
first_of None xs = xs
first_of (Some limit) xs = take limit xs

-- The lines of the first matches, up to the limit, of all that come after the triple that is asked for.
pub record AreAllLines (name : List ℕ) (set : List Known) (ask : Ask) (tokens : List TokenValue)
    (written : List ℕ) : Type 0 where
  pub found : List Triple
  pub matches : AreMatches set tokens ask.after found
  pub lines : written ≡ flat_map (match_line name set tokens) (first_of ask.limit found)

-- ---- outer matches and their variables

-- the start, the end and the bytes of a span of the source, or a dash where there is no span
abbrev pub span_fields : List ℕ → Option Span → List ℕ
span_fields source None = field (codes "-") 0x0A
span_fields source (Some span) =
    field (decimal span.start) 0x09 ++ (field (decimal span.end) 0x09
    ++ field (escaped (slice_range source span.start span.end)) 0x0A)

-- the line of a variable: an empty field, its name, and the bytes of the source that it matched
abbrev pub value_line : List ℕ → Assigned → List ℕ
value_line source v = field [] 0x09 ++ (field (escaped v.name) 0x09 ++ span_fields source v.span)

-- a match, and a value for each variable of its template
pub record Valued : Type 0 where
  pub triple : Triple
  pub values : List Assigned

abbrev pub triple_of : Valued → Triple
triple_of m = m.triple

-- the values are those of the match
abbrev pub HasItsValues : List Known → List TokenValue → Valued → Type 0
HasItsValues set tokens m = AreValues set tokens m.triple m.values

-- the line of a match, and those of its variables after it
abbrev pub valued_lines : List ℕ → List Known → List ℕ → List TokenValue → Valued → List ℕ
valued_lines name set source tokens m = match_line name set tokens m.triple ++ flat_map (value_line source) m.values

-- The lines of the outer ones of all matches, in order, each with its values.
pub record AreOuterLines (name : List ℕ) (set : List Known) (source : List ℕ) (tokens : List TokenValue)
    (written : List ℕ) : Type 0 where
  pub found : List Triple
  pub matches : AreMatches set tokens None found
  pub outer : List Valued
  pub triples : map triple_of outer ≡ outer_of found
  pub values : All (HasItsValues set tokens) outer
  pub lines : written ≡ flat_map (valued_lines name set source tokens) outer

-- ---- reports

-- All matches from after a triple and up to a limit, or the outer ones of all matches.
abbrev pub AreLines : Bool → List ℕ → List Known → Ask → List ℕ → List TokenValue → List ℕ → Type 0
AreLines true name set ask source tokens written = AreAllLines name set ask tokens written
AreLines false name set ask source tokens written = AreOuterLines name set source tokens written

-- What is written is the report on a source with these tokens.
abbrev pub IsReportOf : List ℕ → List Known → Ask → List ℕ → List TokenValue → List ℕ → Type 0
IsReportOf name set ask source tokens written = AreLines ask.all name set ask source tokens written

-- what is written is the report on an input, by line rules and a list of equivalent words
abbrev pub IsReport : LineRules → List ℕ → List Known → List Phrase → Ask → List ℕ → List ℕ → Type 0
IsReport rules name set words ask input written = IsReportOf name set ask input (tokens_of rules words input) written

-- ---- tokens

-- the line of a token: the file's name, its first byte and its end, and its text
abbrev pub token_line : List ℕ → TokenValue → List ℕ
token_line name t = line_after (field (escaped name) 0x09) t

-- the lines of tokens, in order
abbrev pub token_lines : List ℕ → List TokenValue → List ℕ
token_lines name tokens = flat_map (token_line name) tokens
