-- The tokens of an input lie in it one after the other.
use Rattle.std.proofs.Common.{ℕ, zero, suc, ◌-◌, ◌<◌, ◌≤◌, Bool, true, false, List, [], ◌∷◌, map, length, take, drop, get_or, ◌&&◌, sym, subst, arith, All, inl, inr}
use Rattle.std.specs.Prelude.{Option, Some, None, codes, encode_utf8_all}
use Rattle.std.specs.List.{flat_map}
use Rattle.std.proofs.lemmas.Bool.{cases_Bool, cond-true, cond-false}
use Rattle.std.proofs.lemmas.List.Elements.{All-nil, All-cons}
use Rattle.lic_trim.specs.Texts.{groups}
use Rattle.lic_kind.specs.LineRules.{LineRules}
use Rattle.lic_lines.specs.Cells.{cells_of}
use Rattle.lic_lines.specs.Streaks.{streaks_joined, end_after}
use Rattle.lic_lines.specs.Tokens.{Token, both_words, tokens_from, first_tokens, is_text, is_sign_in_parentheses, sign_from, as_sign, single_signs, text_tokens}
use Rattle.lic_trim.specs.declared.source.SourceChar.{SourceChar}
use Rattle.lic_lines.specs.declared.cell.Cell.{Cell}
use Rattle.lic_lines.specs.declared.cell.Cell.TheVariants.{Blank, Mark, Word}
use Rattle.lic_phrases.specs.Rewriting.{Phrase, end_of_last, both_signs, sign_of_sequence, sign_sequences, begins_authority, https_as_http, longest_phrase, count_after, first_as, phrases_after, phrases_joined, spanned}
use Rattle.lic_tokens.specs.Tokens.{TokenValue, reported}
use Rattle.lic_norm.specs.Tokens.{first_tokens_of, tokens_of}
use Rattle.lic_norm.specs.Sources.{source_of}
use Rattle.lic_norm.specs.Spans.{AreRising, EndsAt, IsOnBoundaries, AreSpans}
use Rattle.lic_norm.proofs.Lying.{Lie, Lie-order, Lie-wider, Lie-split, Lie-take}
use Rattle.lic_norm.proofs.CellSpans.{CharsLie, CellsLie, solid, solid-append, source-Lie, cells_of-Lie, streaks_joined-Lie, end_after-lies}
use Rattle.lic_rewriting.proofs.GroupLemmas.{parts_of_groups}

-- tokens lie from one byte up to another
abbrev pub TokensLie : List ℕ → ℕ → List Token → ℕ → Type 0
TokensLie source = Lie {A = Token} source (λ t. t.start) (λ t. t.end)

module _ (source : List ℕ) where
  wider : (from' from : ℕ) (ts : List Token) (to : ℕ) → from' ≤ from → TokensLie source from ts to → TokensLie source from' ts to
  wider from' from ts to low l = Lie-wider source (λ (t : Token). t.start) (λ t. t.end) from' from ts to to low (omega arith) l

  order : (from : ℕ) (ts : List Token) (to : ℕ) → TokensLie source from ts to → from ≤ to
  order from ts to l = Lie-order source (λ (t : Token). t.start) (λ t. t.end) from ts to l

  -- ---- first tokens

  tokens_from-Lie : (after_blank : Bool) (from : ℕ) (streaks : List (List Cell)) (to : ℕ)
      → CellsLie source from (flat_map (λ streak. streak) streaks) to → TokensLie source from (tokens_from after_blank streaks) to
  tokens_from-Lie after_blank from [] to l = l
  tokens_from-Lie after_blank from ([] ∷ streaks) to l = tokens_from-Lie after_blank from streaks to l
  tokens_from-Lie after_blank from ((Blank ∷ cells) ∷ streaks) to l =
      let rest = flat_map (λ (streak : List Cell). streak) streaks in
      let two = Lie-split source (λ (r : SourceChar). r.start) (λ r. r.end) from (solid cells) (solid rest) to
      (subst (λ x. CharsLie source from x to) (solid-append cells rest) l) in
      wider from two.0 (tokens_from true streaks) to
      (Lie-order source (λ (r : SourceChar). r.start) (λ r. r.end) from (solid cells) two.0 two.1)
      (tokens_from-Lie true two.0 streaks to two.2)
  tokens_from-Lie after_blank from ((Mark s ∷ cells) ∷ streaks) to l =
      let rest = flat_map (λ (streak : List Cell). streak) streaks in
      let two = Lie-split source (λ (r : SourceChar). r.start) (λ r. r.end) s.end (solid cells) (solid rest) to
      (subst (λ x. CharsLie source s.end x to) (solid-append cells rest) l.4) in
      let last = end_after-lies source s.end cells two.0 l.3 two.1 in (
        l.0,
        omega (arith, l.1, last.0),
        l.2,
        last.2,
        wider (end_after s.end cells) two.0 (tokens_from false streaks) to last.1
            (tokens_from-Lie false two.0 streaks to two.2),
      )
  tokens_from-Lie after_blank from ((Word s ∷ cells) ∷ streaks) to l =
      let rest = flat_map (λ (streak : List Cell). streak) streaks in
      let two = Lie-split source (λ (r : SourceChar). r.start) (λ r. r.end) s.end (solid cells) (solid rest) to
      (subst (λ x. CharsLie source s.end x to) (solid-append cells rest) l.4) in
      let last = end_after-lies source s.end cells two.0 l.3 two.1 in (
        l.0,
        omega (arith, l.1, last.0),
        l.2,
        last.2,
        wider (end_after s.end cells) two.0 (tokens_from false streaks) to last.1
            (tokens_from-Lie false two.0 streaks to two.2),
      )

  -- ---- signs

  as_sign-Lie : (from : ℕ) (t : Token) (ts : List Token) (to : ℕ) → TokensLie source from (t ∷ ts) to
      → (us : List Token) → TokensLie source t.end us to → TokensLie source from (as_sign t ∷ us) to
  as_sign-Lie from t ts to l us m =
      let test = is_text (encode_utf8_all (0xA9 ∷ [])) t in
      let P : Token → Type 0 = λ u. TokensLie source from (u ∷ us) to in
      elim (cases_Bool test) [
        | inl is ↦ subst P (sym (cond-true test (record t { text = codes "copyright" }) t is)) (l.0, l.1, l.2, l.3, m)
        | inr other ↦ subst P (sym (cond-false test (record t { text = codes "copyright" }) t other)) (l.0, l.1, l.2, l.3, m)
      ]

  single_signs-Lie : (from : ℕ) (ts : List Token) (to : ℕ) → TokensLie source from ts to → TokensLie source from (single_signs ts) to
  single_signs-Lie from [] to l = l
  single_signs-Lie from (a ∷ []) to l = as_sign-Lie from a [] to l [] l.4
  single_signs-Lie from (a ∷ b ∷ []) to l = as_sign-Lie from a (b ∷ []) to l (as_sign b ∷ []) (as_sign-Lie a.end b [] to l.4 [] l.4.4)
  single_signs-Lie from (a ∷ b ∷ c ∷ ts) to l =
      let test = is_sign_in_parentheses a b c in
      let P : List Token → Type 0 = λ us. TokensLie source from us to in
      let third = l.4.4 in
      elim (cases_Bool test) [
        | inl is ↦
            subst P (sym (cond-true test (sign_from a c ∷ single_signs ts) (as_sign a ∷ single_signs (b ∷ c ∷ ts)) is))
            (l.0, omega (arith, l.1, l.4.0, l.4.1, third.0, third.1), l.2, third.3, single_signs-Lie c.end ts to third.4)
        | inr other ↦
            subst P (sym (cond-false test (sign_from a c ∷ single_signs ts) (as_sign a ∷ single_signs (b ∷ c ∷ ts)) other))
            (as_sign-Lie from a (b ∷ c ∷ ts) to l (single_signs (b ∷ c ∷ ts)) (single_signs-Lie a.end (b ∷ c ∷ ts) to l.4))
      ]

  -- where the last of these ends lies between, and a source character ends there
  last-lies : (t : Token) (ts : List Token) (to : ℕ) → EndsAt source t.end → TokensLie source t.end ts to
      → (t.end ≤ end_of_last t ts) × (end_of_last t ts ≤ to) × EndsAt source (end_of_last t ts)
  last-lies t [] to here l = (omega arith, l, here)
  last-lies t (u ∷ ts) to here l = let rest = last-lies u ts to l.3 l.4 in (omega (arith, l.0, l.1, rest.0), rest.1, rest.2)

  sequences-Lie : (from : ℕ) (sequences : List (List Token)) (to : ℕ) → TokensLie source from (flat_map (λ sequence. sequence) sequences) to
      → TokensLie source from (flat_map sign_of_sequence sequences) to
  sequences-Lie from [] to l = l
  sequences-Lie from ([] ∷ sequences) to l = sequences-Lie from sequences to l
  sequences-Lie from ((t ∷ ts) ∷ sequences) to l =
      let two = Lie-split source (λ (r : Token). r.start) (λ r. r.end) t.end ts (flat_map (λ sequence. sequence) sequences) to l.4 in
      let last = last-lies t ts two.0 l.3 two.1 in
      (l.0, omega (arith, l.1, last.0), l.2, last.2, wider (end_of_last t ts) two.0 (flat_map sign_of_sequence sequences) to last.1 (sequences-Lie two.0 sequences to two.2))

  -- ---- web addresses

  https-Lie : (from : ℕ) (ts : List Token) (to : ℕ) → TokensLie source from ts to → TokensLie source from (https_as_http ts) to
  https-Lie from [] to l = l
  https-Lie from (t ∷ ts) to l =
      let test = is_text (codes "https") t && begins_authority ts in
      let rest = https-Lie t.end ts to l.4 in
      let P : Token → Type 0 = λ u. TokensLie source from (u ∷ https_as_http ts) to in
      elim (cases_Bool test) [
        | inl is ↦ subst P (sym (cond-true test (record t { text = codes "http" }) t is)) (l.0, l.1, l.2, l.3, rest)
        | inr other ↦ subst P (sym (cond-false test (record t { text = codes "http" }) t other)) (l.0, l.1, l.2, l.3, rest)
      ]

  -- ---- phrases

  -- the tokens after some that are joined to the first
  past-Lie : (n : ℕ) (t : Token) (ts : List Token) (to : ℕ) → TokensLie source t.end ts to → TokensLie source (end_of_last t (take n ts)) (drop n ts) to
  past-Lie zero t ts to l = l
  past-Lie (suc n) t [] to l = l
  past-Lie (suc n) t (u ∷ ts) to l = past-Lie n u ts to l.4

  phrases-Lie : (words : List Phrase) (n : ℕ) (from : ℕ) (ts : List Token) (to : ℕ)
      → TokensLie source from (drop n ts) to → TokensLie source from (phrases_after words n ts) to
  phrases-Lie words zero from [] to l = l
  phrases-Lie words (suc n) from [] to l = l
  phrases-Lie words (suc n) from (t ∷ ts) to l = phrases-Lie words n from ts to l
  phrases-Lie words zero from (t ∷ ts) to l = at (longest_phrase words (t ∷ ts)) (λ n low rest. phrases-Lie words n low ts to rest)
    where
      at : (phrase : Option Phrase)
          → ((n low : ℕ) → TokensLie source low (drop n ts) to → TokensLie source low (phrases_after words n ts) to)
          → TokensLie source from (first_as phrase t ts ∷ phrases_after words (count_after phrase) ts) to
      at None more = (l.0, l.1, l.2, l.3, more 0 t.end l.4)
      at (Some p) more =
          let n = length p.texts - 1 in
          let last = last-lies t (take n ts) to l.3 (Lie-take source (λ (r : Token). r.start) (λ r. r.end) n t.end ts to l.4) in
          (l.0, omega (arith, l.1, last.0), l.2, last.2, more n (end_of_last t (take n ts)) (past-Lie n t ts to l.4))

  rewritten-Lie : (words : List Phrase) (from : ℕ) (ts : List Token) (to : ℕ) → TokensLie source from ts to
      → TokensLie source from (phrases_joined words (https_as_http (sign_sequences ts))) to
  rewritten-Lie words from ts to l =
      let sequences : TokensLie source from (sign_sequences ts) to =
      sequences-Lie from (groups both_signs ts) to
      (subst (λ us. TokensLie source from us to) (sym (parts_of_groups both_signs ts)) l) in
      phrases-Lie words 0 from (https_as_http (sign_sequences ts)) to (https-Lie from (sign_sequences ts) to sequences)

  -- ---- as they are reported

  reported-rising : (from : ℕ) (ts : List Token) (to : ℕ) → TokensLie source from ts to → AreRising from (map reported (map spanned ts))
  reported-rising from [] to l = tt
  reported-rising from (t ∷ ts) to l = (l.0, l.1, reported-rising t.end ts to l.4)

  reported-boundaries : (from : ℕ) (ts : List Token) (to : ℕ) → TokensLie source from ts to → All (IsOnBoundaries source) (map reported (map spanned ts))
  reported-boundaries from [] to l = All-nil (IsOnBoundaries source)
  reported-boundaries from (t ∷ ts) to l =
      All-cons (IsOnBoundaries source) (reported (spanned t)) (map reported (map spanned ts)) (l.2, l.3) (reported-boundaries t.end ts to l.4)

  reported-within : (from : ℕ) (ts : List Token) (to : ℕ) → TokensLie source from ts to
      → All (λ (t : TokenValue). t.span.end ≤ to) (map reported (map spanned ts))
  reported-within from [] to l = All-nil (λ (t : TokenValue). t.span.end ≤ to)
  reported-within from (t ∷ ts) to l =
      All-cons (λ (u : TokenValue). u.span.end ≤ to) (reported (spanned t)) (map reported (map spanned ts))
      (order t.end ts to l.4) (reported-within t.end ts to l.4)

  text_tokens-Lie : (rules : LineRules) → TokensLie source 0 (text_tokens rules (source_of 0 source)) (length source)
  text_tokens-Lie rules =
      let to = length source in
      let cells = streaks_joined rules (cells_of rules (source_of 0 source)) in
      let lies : CellsLie source 0 cells to =
      streaks_joined-Lie source rules 0 (cells_of rules (source_of 0 source)) to
      (cells_of-Lie source rules 0 (source_of 0 source) to (source-Lie source)) in
      single_signs-Lie 0 (first_tokens cells) to
      (tokens_from-Lie true 0 (groups both_words cells) to (subst (λ x. CellsLie source 0 x to) (sym (parts_of_groups both_words cells)) lies))

-- the spans of an input's tokens
pub tokens_of-AreSpans : (rules : LineRules) (words : List Phrase) (input : List ℕ) → AreSpans input (tokens_of rules words input)
unfolding first_tokens_of
tokens_of-AreSpans rules words input =
    let to = length input in
    let lies = rewritten-Lie input words 0 (text_tokens rules (source_of 0 input)) to (text_tokens-Lie input rules) in
    let joined = phrases_joined words (https_as_http (sign_sequences (text_tokens rules (source_of 0 input)))) in
    record {
      rising = reported-rising input 0 joined to lies;
      within =
          reported-within input 0 joined to lies;
      boundaries = reported-boundaries input 0 joined to lies;
    }

-- no span is empty
pub AreRising-at : (from : ℕ) (ts : List TokenValue) (i : ℕ) (d : TokenValue) → AreRising from ts → i < length ts
    → (get_or ts i d).span.start < (get_or ts i d).span.end
AreRising-at from [] i d r lt = absurd (omega arith)
AreRising-at from (t ∷ ts) zero d r lt = r.1
AreRising-at from (t ∷ ts) (suc i) d r lt = AreRising-at t.span.end ts i d r.2 (omega arith)
