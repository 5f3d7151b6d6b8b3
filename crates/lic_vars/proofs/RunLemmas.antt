-- The span of a value runs over tokens.
use Rattle.std.proofs.Common.{◌≡◌, ℕ, zero, suc, ◌+◌, ◌-◌, ◌<◌, ◌≤◌, ◌==◌, List, [], ◌∷◌, ◌++◌, length, get_or, take, drop, replicate, Some, None, slice_range, refl, sym, ap, ◌∙◌, subst, arith, inl, inr, if◌then◌else◌}
use Rattle.std.proofs.lemmas.List.{drop-drop, get_or-take, get_or-drop}
use Rattle.std.specs.List.{Contains}
use Rattle.std.specs.Str.{chars}
use Rattle.lic_norm.specs.Tokens.{TokenValue}
use Rattle.lic_tokens.specs.declared.token.Span.{Span}
use Rattle.lic_set.specs.Sets.{Known}
use Rattle.lic_set.specs.declared.triple.Triple.{Triple}
use Rattle.lic_words.specs.Letters.{letters_in}
use Rattle.lic_vars.specs.Derivations.{record_of}
use Rattle.lic_vars.specs.Values.{Assigned, AreValues, RunsFrom, covered, last_end, letter_spans, nodes_of}
use Rattle.lic_vars.specs.Moves.{Move, text, variable, optional, moves}
use Rattle.lic_vars.specs.Recorded.{recorded}
use Rattle.lic_spans.proofs.Members.{Contains-cons_cases, Contains-nil}
use Rattle.lic_vars.proofs.ValueLemmas.{choice-recorded}

-- the span covers some of the spans in a row
record Covers (spans : List Span) (span : Span) : Type 0 where
  from : ℕ
  count : ℕ
  is : covered (take count (drop from spans)) ≡ Some span

covers_drop : (n : ℕ) (spans : List Span) (span : Span) → Covers (drop n spans) span → Covers spans span
covers_drop n spans span c = record {
  from = n + c.from;
  count = c.count;
  is = ap (λ (s : List Span). covered (take c.count s)) (sym (drop-drop c.from n spans)) ∙ c.is;
}

recorded_covers : (k : ℕ) (ms : List Move) (r : List ℕ) (spans : List Span) (value : Assigned) (span : Span) →
    Contains (recorded k ms r spans) value → value.span ≡ Some span → Covers spans span
recorded_covers k [] r spans value span h e = absurd (Contains-nil value h)
recorded_covers (suc k) (text w ∷ ms) r spans value span h e = recorded_covers k ms r spans value span h e
recorded_covers (suc k) (variable name re ∷ ms) r spans value span h e =
    elim (Contains-cons_cases (record { name = name; span = None }) (recorded k ms r spans) value h) [
      | inl q ↦ absurd (let f : None ≡ value.span = ap (λ (v : Assigned). v.span) q in cc)
      | inr q ↦ recorded_covers k ms r spans value span q e
    ]
recorded_covers (suc k) (optional n ∷ ms) r spans value span h e = recorded_covers k ms r spans value span h e
recorded_covers zero (text w ∷ ms) r spans value span h e =
    covers_drop (letters_in w) spans span (recorded_covers 0 ms r (drop (letters_in w) spans) value span h e)
recorded_covers zero (variable name re ∷ ms) r spans value span h e =
    elim (Contains-cons_cases (record { name = name; span = covered (take (get_or r 0 0) spans) })
    (recorded 0 ms (drop 1 r) (drop (get_or r 0 0) spans)) value h) [
      | inl q ↦ record { from = 0; count = get_or r 0 0; is = ap (λ (v : Assigned). v.span) q ∙ e }
      | inr q ↦ covers_drop (get_or r 0 0) spans span (recorded_covers 0 ms (drop 1 r) (drop (get_or r 0 0) spans) value span q e)
    ]
recorded_covers zero (optional n ∷ ms) r spans value span h e =
    recorded_covers (if get_or r 0 0 == 0 then 0 else n) ms (drop 1 r) spans value span h e

-- the span is that of the token number k
record IsOf (tokens : List TokenValue) (k : ℕ) (span : Span) : Type 0 where
  within : k < length tokens
  is : (d : TokenValue) → span ≡ (get_or tokens k d).span

-- each span is that of a token from this number on, and their numbers do not fall
abbrev Rises : List TokenValue → ℕ → List Span → Type 0
Rises tokens from [] = Unit {0}
Rises tokens from (span ∷ rest) = (k : ℕ) × (from ≤ k) × IsOf tokens k span × Rises tokens k rest

rises_from : (tokens : List TokenValue) (j k : ℕ) (spans : List Span) → j ≤ k → Rises tokens k spans → Rises tokens j spans
rises_from tokens j k [] l r = tt
rises_from tokens j k (span ∷ rest) l r = (r.0, let m = r.1 in omega arith, r.2, r.3)

rises_next : (t : TokenValue) (tokens : List TokenValue) (k : ℕ) (spans : List Span) → Rises tokens k spans → Rises (t ∷ tokens) (suc k) spans
rises_next t tokens k [] r = tt
rises_next t tokens k (span ∷ rest) r =
    (suc r.0, let m = r.1 in omega arith, record { within = let m = r.2.within in omega arith; is = r.2.is }, rises_next t tokens r.0 rest r.3)

rises_repeat : (t : TokenValue) (tokens : List TokenValue) (n : ℕ) (spans : List Span) → Rises (t ∷ tokens) 0 spans →
    Rises (t ∷ tokens) 0 (replicate n t.span ++ spans)
rises_repeat t tokens zero spans r = r
rises_repeat t tokens (suc n) spans r = (0, omega arith, record { within = omega arith; is = λ d. refl }, rises_repeat t tokens n spans r)

letters_rise : (tokens : List TokenValue) → Rises tokens 0 (letter_spans tokens)
letters_rise [] = tt
letters_rise (t ∷ tokens) =
    rises_repeat t tokens (letters_in (chars t.text)) (letter_spans tokens)
    (rises_from (t ∷ tokens) 0 1 (letter_spans tokens) (omega arith) (rises_next t tokens 0 (letter_spans tokens) (letters_rise tokens)))

rises_drop : (tokens : List TokenValue) (k n : ℕ) (spans : List Span) → Rises tokens k spans → Rises tokens k (drop n spans)
rises_drop tokens k zero spans r = r
rises_drop tokens k (suc n) [] r = tt
rises_drop tokens k (suc n) (span ∷ rest) r = rises_drop tokens k n rest (rises_from tokens k r.0 rest r.1 r.3)

rises_take : (tokens : List TokenValue) (k n : ℕ) (spans : List Span) → Rises tokens k spans → Rises tokens k (take n spans)
rises_take tokens k zero spans r = tt
rises_take tokens k (suc n) [] r = tt
rises_take tokens k (suc n) (span ∷ rest) r = (r.0, r.1, r.2, rises_take tokens r.0 n rest r.3)

-- the token of the last span
record Last (tokens : List TokenValue) (k end : ℕ) : Type 0 where
  number : ℕ
  order : k ≤ number
  within : number < length tokens
  is : (d : TokenValue) → end ≡ (get_or tokens number d).span.end

last_of : (tokens : List TokenValue) (k : ℕ) (span : Span) (rest : List Span) → IsOf tokens k span → Rises tokens k rest → Last tokens k (last_end span rest)
last_of tokens k span [] h r = record {
  number = k;
  order = omega arith;
  within = h.within;
  is = λ d. ap (λ (s : Span). s.end) (h.is d);
}
last_of tokens k span (next ∷ rest) h r =
    let l = last_of tokens r.0 next rest r.2 r.3 in
    record { number = l.number; order = let m = r.1 in let n = l.order in omega arith; within = l.within; is = l.is }

-- from the start of a token to the end of one
record Runs (tokens : List TokenValue) (span : Span) : Type 0 where
  first : ℕ
  last : ℕ
  order : first ≤ last
  within : last < length tokens
  start : (d : TokenValue) → span.start ≡ (get_or tokens first d).span.start
  end : (d : TokenValue) → span.end ≡ (get_or tokens last d).span.end

rising_runs : (tokens : List TokenValue) (spans : List Span) (span : Span) → Rises tokens 0 spans → covered spans ≡ Some span → Runs tokens span
rising_runs tokens [] span r e = absurd cc
rising_runs tokens (s ∷ rest) span r e =
    let same : record { start = s.start; end = last_end s rest } ≡ span = cc in
    let l = last_of tokens r.0 s rest r.2 r.3 in
    record {
      first = r.0;
      last = l.number;
      order = l.order;
      within = l.within;
      start = λ d. ap (λ (x : Span). x.start) (sym same) ∙ ap (λ (x : Span). x.start) (r.2.is d);
      end = λ d. ap (λ (x : Span). x.end) (sym same) ∙ l.is d;
    }

covers_runs : (tokens : List TokenValue) (span : Span) → Covers (letter_spans tokens) span → Runs tokens span
covers_runs tokens span c =
    rising_runs tokens (take c.count (drop c.from (letter_spans tokens))) span
    (rises_take tokens 0 c.count _ (rises_drop tokens 0 c.from (letter_spans tokens) (letters_rise tokens))) c.is

-- a token of a range is one of the whole list
of_range : (tokens : List TokenValue) (a n k : ℕ) (d : TokenValue) → k < n → get_or (take n (drop a tokens)) k d ≡ get_or tokens (a + k) d
of_range tokens a n k d h = get_or-take n (drop a tokens) k d h ∙ get_or-drop a tokens k d

take_short : {X : Type 0} (n : ℕ) (xs : List X) (k : ℕ) → k < length (take n xs) → k < n
take_short zero xs k h = h
take_short (suc n) [] k h = absurd (omega arith)
take_short (suc n) (x ∷ xs) zero h = omega arith
take_short (suc n) (x ∷ xs) (suc k) h = let m : k < n = take_short n xs k (omega arith) in omega arith

range_runs : (tokens : List TokenValue) (t : Triple) (span : Span) → Runs (slice_range tokens t.first (t.last + 1)) span → RunsFrom tokens t span
range_runs tokens t span r =
    let n : ℕ = (t.last + 1) - t.first in
    let last : r.last < n = take_short n (drop t.first tokens) r.last r.within in
    let order = r.order in
    let first : r.first < n = omega arith in
    record {
      first = t.first + r.first;
      last = t.first + r.last;
      order = omega arith;
      begins = omega arith;
      ends = omega arith;
      start = λ d. r.start d ∙ ap (λ (x : TokenValue). x.span.start) (of_range tokens t.first n r.first d first);
      end = λ d. r.end d ∙ ap (λ (x : TokenValue). x.span.end) (of_range tokens t.first n r.last d last);
    }

pub values-run : (set : List Known) (tokens : List TokenValue) (t : Triple) (values : List Assigned) (value : Assigned) (span : Span) →
    AreValues set tokens t values → Contains values value → value.span ≡ Some span → RunsFrom tokens t span
values-run set tokens t values value span v h e =
    let here : List TokenValue = slice_range tokens t.first (t.last + 1) in
    let sequence : values ≡ recorded 0 (moves (nodes_of v.known)) (record_of (nodes_of v.known) v.derivation.choice) (letter_spans here) =
    v.same ∙ choice-recorded (nodes_of v.known) v.derivation.choice (letter_spans here) in
    range_runs tokens t span
    (covers_runs here span
    (recorded_covers 0 (moves (nodes_of v.known)) (record_of (nodes_of v.known) v.derivation.choice) (letter_spans here) value span
    (subst (λ (vs : List Assigned). Contains vs value) sequence h) e))
