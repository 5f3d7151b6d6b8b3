-- Whole lines at the start of an input, and what comes after them.
use Rattle.std.proofs.Common.{◌≡◌, ◌≢◌, ℕ, ◌+◌, ◌-◌, ◌==◌, ◌||◌, ◌≤◌, Bool, true, false, not, List, [], ◌∷◌, ◌++◌, length, take, drop, refl, sym, ap, ap₂, ◌∙◌, append_assoc, append-nil, arith, All, inl, inr, length-append, length-take-le, eqb-true, lit<, take-add}
use Rattle.std.specs.List.{flat_map, list_any, slice_range}
use Rattle.std.proofs.lemmas.Bool.{cond-true, cond-false, false_from_ne_true}
use Rattle.std.proofs.lemmas.List.Concat.{flat_map-append}
use Rattle.std.proofs.lemmas.List.Elements.{All-head, All-tail, filter-append}
use Rattle.lic_kind.specs.Kinds.{is_dropped}
use Rattle.lic_trim.specs.Sources.{without_dropped, lines_of}
use Rattle.lic_trim.specs.declared.source.SourceChar.{SourceChar}
use Rattle.lic_kind.specs.LineRules.{LineRules}
use Rattle.lic_trim.specs.Lines.{whole_line}
use Rattle.lic_lines.specs.Tokens.{line_tokens, text_tokens}
use Rattle.lic_lines.proofs.LineByLine.{cut_after-end, text_tokens-lines}
use Rattle.lic_norm.specs.Feeding.{AreLines, lines_read}
use Rattle.lic_norm.specs.LineEnds.{IsFirstLine}
use Rattle.lic_norm.specs.Sources.{source_of}
use Rattle.lic_norm.specs.Tokens.{first_tokens_of, line_tokens_of}
use Rattle.lic_norm.proofs.AnyBytes.{source_of-none, source_of-ascii, source_of-before_ascii}
use Rattle.lic_norm.proofs.FirstLines.{first_tokens_of-first, first_tokens_of-none, no_tokens}

abbrev ends : SourceChar → Bool
ends s = s.char == 0x0A

-- ---- source characters

-- a U+000A in an input is read by itself, and what comes before it and after it as well
source_of-feed : (at : ℕ) (front past : List ℕ)
    → source_of at (front ++ 0x0A ∷ past)
    ≡ source_of at front ++ (record { char = 0x0A; start = at + length front; end = at + length front + 1 })
    ∷ source_of (at + length front + 1) past
source_of-feed at front past =
    source_of-before_ascii at front 0x0A past (lit< tt) ∙ ap (λ l. source_of at front ++ l) (source_of-ascii (at + length front) 0x0A past (lit< tt))

-- the source characters with a line end in them, without the dropped ones
kept_feed : (xs : List SourceChar) (feed : SourceChar) (ys : List SourceChar) → feed.char ≡ 0x0A
    → without_dropped (xs ++ feed ∷ ys) ≡ without_dropped xs ++ feed ∷ without_dropped ys
kept_feed xs feed ys is =
    filter-append (λ (s : SourceChar). not (is_dropped s.char)) xs (feed ∷ ys)
    ∙ ap (λ l. without_dropped xs ++ l)
    (cond-true (not (is_dropped feed.char)) (feed ∷ without_dropped ys) (without_dropped ys)
    (ap (λ c. not (is_dropped c)) is))

-- ---- tokens

-- the tokens of whole lines come first, and then those of what is after them
pub first_tokens_of-lines : (rules : LineRules) (at : ℕ) (lines past : List ℕ) → AreLines lines
    → first_tokens_of rules at (lines ++ past)
    ≡ first_tokens_of rules at lines ++ first_tokens_of rules (at + length lines) past
unfolding first_tokens_of
first_tokens_of-lines rules at lines past (inl none) =
    ap (λ l. text_tokens rules (source_of at (l ++ past))) none
    ∙ ap (λ n. text_tokens rules (source_of n past)) (let e : at ≡ at + length lines = omega (arith, ap length none) in e)
    ∙ ap (λ l. l ++ text_tokens rules (source_of (at + length lines) past))
    (sym (ap (text_tokens rules) (ap (source_of at) none ∙ source_of-none at) ∙ no_tokens rules))
first_tokens_of-lines rules at lines past (inr (front, is)) =
    let f = line_tokens rules whole_line in
    let n = at + length front in
    let feed : SourceChar = record { char = 0x0A; start = n; end = n + 1 } in
    let before = source_of at front in
    let there = source_of (at + length lines) past in
    let long : n + 1 ≡ at + length lines = omega (arith, ap length is, length-append front (0x0A ∷ [])) in
    let whole : source_of at (lines ++ past) ≡ before ++ feed ∷ there =
    ap (λ l. source_of at (l ++ past)) is ∙ ap (source_of at) (append_assoc front (0x0A ∷ []) past) ∙ source_of-feed at front past
    ∙ ap (λ m. before ++ feed ∷ source_of m past) long in
    let alone : source_of at lines ≡ before ++ feed ∷ [] =
    ap (source_of at) is ∙ source_of-feed at front [] ∙ ap (λ l. before ++ feed ∷ l) (source_of-none (n + 1)) in
    let cut : lines_of (without_dropped (before ++ feed ∷ there)) ≡ lines_of (without_dropped (before ++ feed ∷ [])) ++ lines_of (without_dropped there) =
    ap lines_of (kept_feed before feed there refl) ∙ cut_after-end ends (without_dropped before) feed (without_dropped there) refl
    ∙ ap (λ l. lines_of l ++ lines_of (without_dropped there)) (sym (kept_feed before feed [] refl)) in
    ap (text_tokens rules) whole ∙ text_tokens-lines rules (before ++ feed ∷ there)
    ∙ ap (flat_map f) cut
    ∙ flat_map-append f (lines_of (without_dropped (before ++ feed ∷ []))) (lines_of (without_dropped there))
    ∙ ap₂ (λ a b. a ++ b) (sym (ap (text_tokens rules) alone ∙ text_tokens-lines rules (before ++ feed ∷ []))) (sym (text_tokens-lines rules there))

-- a line by itself
first_tokens_of-line : (rules : LineRules) (at : ℕ) (line rest : List ℕ) → IsFirstLine line rest → first_tokens_of rules at line ≡ line_tokens_of rules at line
first_tokens_of-line rules at line rest first =
    let by_itself : IsFirstLine line [] = record {
      front = first.front;
      no_end = first.no_end;
      ends = elim first.ends [
        | inl feed ↦ inl feed
        | inr none ↦ inr (none.0, refl)
      ];
    } in
    first_tokens_of-first rules at line line [] (sym (append-nil line)) by_itself
    ∙ ap (λ l. line_tokens_of rules at line ++ l) (first_tokens_of-none rules (at + length line)) ∙ append-nil (line_tokens_of rules at line)

-- the bytes up to an offset, and those from there up to another
take_more_range : (source : List ℕ) (at end : ℕ) → at ≤ end → take end source ≡ take at source ++ slice_range source at end
take_more_range source at end le = ap (λ n. take n source) (let e : end ≡ at + (end - at) = omega arith in e) ∙ take-add at (end - at) source

-- more bytes are taken after whole lines
pub more_bytes : (rules : LineRules) (source : List ℕ) (at end : ℕ) → AreLines (take at source) → at ≤ end → end ≤ length source
    → first_tokens_of rules 0 (take at source) ++ first_tokens_of rules at (slice_range source at end) ≡ first_tokens_of rules 0 (take end source)
more_bytes rules source at end lines order within =
    let more = slice_range source at end in
    let long : 0 + length (take at source) ≡ at = omega (arith, length-take-le at source (omega arith)) in
    sym (ap (first_tokens_of rules 0) (take_more_range source at end order)
    ∙ first_tokens_of-lines rules 0 (take at source) more lines
    ∙ ap (λ n. first_tokens_of rules 0 (take at source) ++ first_tokens_of rules n more) long)

-- one more line is taken after whole lines
pub one_more_line : (rules : LineRules) (source : List ℕ) (at end : ℕ) → AreLines (take at source) → at ≤ end
    → end ≤ length source → IsFirstLine (slice_range source at end) (drop end source)
    → first_tokens_of rules 0 (take at source) ++ line_tokens_of rules at (slice_range source at end) ≡ first_tokens_of rules 0 (take end source)
one_more_line rules source at end lines order within first =
    let line = slice_range source at end in
    ap (λ l. first_tokens_of rules 0 (take at source) ++ l) (sym (first_tokens_of-line rules at line (drop end source) first))
    ∙ more_bytes rules source at end lines order within

-- ---- the front up to the last U+000A

no_feed : (bytes : List ℕ) → All (λ b. b ≢ 0x0A) bytes → list_any (λ b. b == 0x0A) bytes ≡ false
no_feed [] none = refl
no_feed (b ∷ bytes) none =
    let here : (b == 0x0A) ≡ false = false_from_ne_true (b == 0x0A) (λ is. All-head (λ b. b ≢ 0x0A) b bytes none (eqb-true b 0x0A is)) in
    ap (λ t. t || list_any (λ b. b == 0x0A) bytes) here ∙ no_feed bytes (All-tail (λ b. b ≢ 0x0A) b bytes none)

some_feed : (front past : List ℕ) → list_any (λ b. b == 0x0A) (front ++ 0x0A ∷ past) ≡ true
some_feed [] past = refl
some_feed (b ∷ front) past = ap (λ t. (b == 0x0A) || t) (some_feed front past) ∙ either (b == 0x0A)
  where
    either : (t : Bool) → (t || true) ≡ true
    either true = refl
    either false = refl

lines_read-none : (bytes : List ℕ) → All (λ b. b ≢ 0x0A) bytes → lines_read bytes ≡ []
lines_read-none [] none = refl
lines_read-none (b ∷ bytes) none = cond-false (list_any (λ b. b == 0x0A) (b ∷ bytes)) (b ∷ lines_read bytes) [] (no_feed (b ∷ bytes) none)

lines_read-feed : (front past : List ℕ) → All (λ b. b ≢ 0x0A) past → lines_read (front ++ 0x0A ∷ past) ≡ front ++ 0x0A ∷ []
lines_read-feed [] past none =
    cond-true (list_any (λ b. b == 0x0A) (0x0A ∷ past)) (0x0A ∷ lines_read past) [] (some_feed [] past) ∙ ap (λ l. 0x0A ∷ l) (lines_read-none past none)
lines_read-feed (b ∷ front) past none =
    cond-true (list_any (λ b. b == 0x0A) (b ∷ (front ++ 0x0A ∷ past))) (b ∷ lines_read (front ++ 0x0A ∷ past)) [] (some_feed (b ∷ front) past)
    ∙ ap (λ l. b ∷ l) (lines_read-feed front past none)

pub lines_read-is : (lines past : List ℕ) → AreLines lines → All (λ b. b ≢ 0x0A) past → lines_read (lines ++ past) ≡ lines
lines_read-is lines past (inl none) clear = ap (λ l. lines_read (l ++ past)) none ∙ lines_read-none past clear ∙ sym none
lines_read-is lines past (inr (front, is)) clear =
    ap (λ l. lines_read (l ++ past)) is ∙ ap lines_read (append_assoc front (0x0A ∷ []) past)
    ∙ lines_read-feed front past clear ∙ sym is
