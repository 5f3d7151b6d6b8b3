-- The values of a derivation: what each variable matched.
use Rattle.std.specs.Prelude.{◌≡◌, ℕ, ◌+◌, ◌≤◌, List, [], ◌∷◌, ◌++◌, map, take, drop, replicate, Option, Some, None, chars, slice_get, slice_index_or, slice_range}
use Rattle.lic_norm.specs.Tokens.{TokenValue}
use Rattle.lic_tokens.specs.declared.token.Span.{Span}
use Rattle.lic_markup.specs.Parts.{Nodes, no_node, one_more, letters, variable, optional, part_of, sequence}
use Rattle.lic_set.specs.Sets.{Known}
use Rattle.lic_set.specs.Matches.{letters_between}
use Rattle.lic_set.specs.declared.triple.Triple.{Triple}
use Rattle.lic_words.specs.Letters.{letters_in}
use Rattle.lic_vars.specs.Derivations.{Choice, Derivation, IsLeast, word_of}

-- a variable's name, as UTF-8 bytes, and the bytes of the source that it matched
pub record Assigned : Type 0 where
  pub name : List ℕ
  pub span : Option Span

-- for each letter of the tokens that is no blank, the span of its token
abbrev pub letter_spans : List TokenValue → List Span
letter_spans [] = []
letter_spans (t ∷ ts) = replicate (letters_in (chars t.text)) t.span ++ letter_spans ts

-- the end of the last span, or else of the one before
abbrev pub last_end : Span → List Span → ℕ
last_end span [] = span.end
last_end span (next ∷ rest) = last_end next rest

-- From the start of the first letter's token to the end of the last letter's; none where there is no letter.
abbrev pub covered : List Span → Option Span
covered [] = None
covered (span ∷ rest) = Some (record { start = span.start; end = last_end span rest })

-- the variables of an absent part matched nothing
abbrev pub absent_values : Nodes → List Assigned
absent_values no_node = []
absent_values (one_more (letters text) rest) = absent_values rest
absent_values (one_more (variable name original pattern) rest) =
    record { name = name; span = None } ∷ absent_values rest
absent_values (one_more (optional body) rest) = absent_values body ++ absent_values rest

-- One value for each variable, in the template's order, where the letters of the choice's word have these spans. The n-th
-- letter of the word that is no blank is the n-th such letter of the tokens.
abbrev pub choice_values : (ns : Nodes) → Choice ns → List Span → List Assigned
choice_values no_node d spans = []
choice_values (one_more (letters text) rest) d spans = choice_values rest d (drop (letters_in (chars text)) spans)
choice_values (one_more (variable name original pattern) rest) (u, d) spans =
    record { name = name; span = covered (take (letters_in u) spans) }
    ∷ choice_values rest d (drop (letters_in u) spans)
choice_values (one_more (optional body) rest) (None, d) spans = absent_values body ++ choice_values rest d spans
choice_values (one_more (optional body) rest) (Some b, d) spans =
    choice_values body b spans ++ choice_values rest d (drop (letters_in (word_of body b)) spans)

-- a template's parts as nodes
abbrev pub nodes_of : Known → Nodes
nodes_of known = sequence (map part_of known.template.parts)

-- the values of a derivation of the least record of a match
pub record AreValues (set : List Known) (tokens : List TokenValue) (t : Triple) (values : List Assigned) : Type 0 where
  pub known : Known
  pub number : slice_get set t.template ≡ Some known
  pub derivation : Derivation (nodes_of known) (letters_between tokens t.first t.last)
  pub least : IsLeast (nodes_of known) (letters_between tokens t.first t.last) derivation
  pub same : values ≡ choice_values (nodes_of known) derivation.choice
      (letter_spans (slice_range tokens t.first (t.last + 1)))

-- from the start of a token of the match to the end of one
pub record RunsFrom (tokens : List TokenValue) (t : Triple) (span : Span) : Type 0 where
  pub first : ℕ
  pub last : ℕ
  pub order : first ≤ last
  pub begins : t.first ≤ first
  pub ends : last ≤ t.last
  pub start : (d : TokenValue) → span.start ≡ (slice_index_or tokens first d).span.start
  pub end : (d : TokenValue) → span.end ≡ (slice_index_or tokens last d).span.end
