-- How long the pieces are that a way begins with.
use Rattle.std.proofs.Common.{◌≡◌, ℕ, zero, suc, ◌*◌, ◌/◌, ◌%◌, ◌^◌, ◌<◌, ◌≤◌, w64, Bool, true, false, ◌&&◌, ◌||◌, ◌==◌, ◌⊎◌, inl, inr, List, [], ◌∷◌, ◌++◌, length, take, drop, get_or, reverse, refl, sym, ap, ap₂, ◌∙◌, append_assoc, length-append, ⊎_elim, arith}
use Rattle.std.specs.Prelude.{bytes_eq, bit_or, nat_lt}
use Rattle.std.specs.List.{list_any}
use Rattle.std.specs.Char.{is_whitespace}
use Rattle.std.proofs.Math.Seq.{take-suc, get_or-append_seam}
use Rattle.std.proofs.lemmas.Bool.{false≢true, and_parts, and_from, or_cases, or_left, or_right, cases_Bool, cases_lt, eqb-true, eq-eqb, lt-ltb, le-ltb, le-leb, lt-leb}
use Rattle.std.proofs.lemmas.List.{length-reverse, length-take-le, reverse-append, reverse-reverse, take-append-drop, get_or_past}
use Rattle.std.proofs.lemmas.Nat.Bits.{bit_at-zero, bit_at_above, bit_at-suc, bit_at_set_same, bit_at_set_other}
use Rattle.std.proofs.lemmas.Slice.Eq.{bytes_eq-Decides}
pub use Rattle.lic_kind.proofs.BeginningLemmas.{has_bit_or}
use Rattle.lic_kind.specs.LineRules.{LineRules}
use Rattle.lic_trim.specs.Beginnings.{HasBits, HasBegun}
use Rattle.lic_trim.specs.Lines.{is_space, is_separator, repeats}
use Rattle.lic_trim.specs.PieceLengths.{has_bit, begins_with_length, begins_with_separator, begins_with_spaced, continues, AreLengths}
use Rattle.lic_trim.specs.Texts.{ends_in}
use Rattle.lic_trim.specs.Walks.{Side, Front, End, walked, is_walked_piece, side_texts, side_spaced, side_repeated, begins_with_text}
use Rattle.lic_trim.proofs.PieceEnds.{ends_in-snoc}
use Rattle.lic_trim.proofs.SideEnds.{walked_piece}
use Rattle.lic_trim.proofs.Stops.{any_some}
use Rattle.lic_trim.proofs.TextLemmas.{same_truth}

-- ---- tests of lists

pub and-true : (t : Bool) → (t && true) ≡ t
and-true true = refl
and-true false = refl

pub and-false : (t : Bool) → (t && false) ≡ false
and-false true = refl
and-false false = refl

pub or-false : (t : Bool) → (t || false) ≡ t
or-false true = refl
or-false false = refl

or_none : (a b : Bool) → (a || b) ≡ false → (a ≡ false) × (b ≡ false)
or_none false b h = (refl, h)
or_none true b h = cc

same_any : (f g : List ℕ → Bool) (ts : List (List ℕ)) → ((t : List ℕ) → f t ≡ g t) → list_any f ts ≡ list_any g ts
same_any f g [] same = refl
same_any f g (t ∷ ts) same = ap₂ (λ a b. a || b) (same t) (same_any f g ts same)

same_any_where : (f g h : List ℕ → Bool) (ts : List (List ℕ)) → list_any h ts ≡ false → ((t : List ℕ) → h t ≡ false → f t ≡ g t) → list_any f ts ≡ list_any g ts
same_any_where f g h [] none same = refl
same_any_where f g h (t ∷ ts) none same =
    let parts = or_none (h t) (list_any h ts) none in
    ap₂ (λ a b. a || b) (same t parts.0) (same_any_where f g h ts parts.1 same)

no_any : (f : List ℕ → Bool) (ts : List (List ℕ)) → ((t : List ℕ) → f t ≡ false) → list_any f ts ≡ false
no_any f [] none = refl
no_any f (t ∷ ts) none = ap₂ (λ a b. a || b) (none t) (no_any f ts none)

apart : (a b : ℕ) → (a ≡ b → ⊥) → (a == b) ≡ false
apart a b other = ⊎_elim (λ yes. absurd (other (eqb-true a b yes))) (λ no. no) (cases_Bool (a == b))

-- ---- a text at the start of a way

occurs_is : (way t : List ℕ) → begins_with_text way t ≡ true → (length t ≤ length way) × (take (length t) way ≡ t)
occurs_is way [] h = (omega arith, refl)
occurs_is [] (c ∷ t) h = absurd (false≢true h)
occurs_is (d ∷ way) (c ∷ t) h =
    let parts = and_parts (d == c) (begins_with_text way t) h in
    let rest = occurs_is way t parts.1 in
    (omega (arith, rest.0), ap₂ (λ a l. a ∷ l) (eqb-true d c parts.0) rest.1)

occurs_take : (way : List ℕ) (n : ℕ) → begins_with_text way (take n way) ≡ true
occurs_take way zero = refl
occurs_take [] (suc n) = refl
occurs_take (d ∷ way) (suc n) = and_from (d == d) (begins_with_text way (take n way)) (eq-eqb d d refl) (occurs_take way n)

occurs_front : (t more : List ℕ) → begins_with_text (t ++ more) t ≡ true
occurs_front [] more = refl
occurs_front (c ∷ t) more = and_from (c == c) (begins_with_text (t ++ more) t) (eq-eqb c c refl) (occurs_front t more)

-- every character is the same
pub occurs_each : (way t : List ℕ) → length t ≤ length way → ((k : ℕ) → k < length t → get_or way k 0 ≡ get_or t k 0) → begins_with_text way t ≡ true
occurs_each way [] long each = refl
occurs_each [] (c ∷ t) long each = absurd (omega arith)
occurs_each (d ∷ way) (c ∷ t) long each =
    and_from (d == c) (begins_with_text way t) (eq-eqb d c (each 0 (omega arith))) (occurs_each way t (omega arith) (λ k lt. each (suc k) (omega arith)))

text_is : (way t : List ℕ) (n : ℕ) → n ≤ length way → bytes_eq t (take n way) ≡ begins_with_length n way t
text_is way t n le = same_truth _ _
    (λ h. let same : t ≡ take n way = (bytes_eq-Decides t (take n way)).0 h in
    and_from (begins_with_text way t) (length t == n) (ap (begins_with_text way) same ∙ occurs_take way n) (eq-eqb (length t) n (ap length same ∙ length-take-le n way le)))
    (λ h. let parts = and_parts (begins_with_text way t) (length t == n) h in
    (bytes_eq-Decides t (take n way)).1 (sym (occurs_is way t parts.0).1 ∙ ap (λ k. take k way) (eqb-true (length t) n parts.1)))

spaced_is : (way t : List ℕ) (n : ℕ) → 0 < n → n ≤ length way → ends_in is_whitespace (bytes_eq t) (take n way) ≡ begins_with_spaced n way t
spaced_is way t zero some le = absurd (omega arith)
spaced_is way t (suc k) some le =
    let last = get_or way k 0 in
    let front = take k way in
    ap (ends_in is_whitespace (bytes_eq t)) (take-suc way k 0 (omega arith)) ∙ ends_in-snoc is_whitespace (bytes_eq t) front last
    ∙ same_truth _ _
    (λ h. let parts = and_parts (is_whitespace last) (bytes_eq t front) h in
    let occurs = and_parts (begins_with_text way t) (length t == k) (sym (text_is way t k (omega arith)) ∙ parts.1) in
    let long : length t ≡ k = eqb-true (length t) k occurs.1 in
    and_from (begins_with_text way t) (is_whitespace (get_or way (length t) 0) && (suc (length t) == suc k)) occurs.0
    (and_from (is_whitespace (get_or way (length t) 0)) (suc (length t) == suc k)
    (ap (λ i. is_whitespace (get_or way i 0)) long ∙ parts.0) (eq-eqb (suc (length t)) (suc k) (ap suc long))))
    (λ h. let parts = and_parts (begins_with_text way t) (is_whitespace (get_or way (length t) 0) && (suc (length t) == suc k)) h in
    let more = and_parts (is_whitespace (get_or way (length t) 0)) (suc (length t) == suc k) parts.1 in
    let next : suc (length t) ≡ suc k = eqb-true (suc (length t)) (suc k) more.1 in
    let long : length t ≡ k = omega arith in
    and_from (is_whitespace last) (bytes_eq t front) (ap (λ i. is_whitespace (get_or way i 0)) (sym long) ∙ more.0)
    (text_is way t k (omega arith) ∙ and_from (begins_with_text way t) (length t == k) parts.0 (eq-eqb (length t) k long)))

-- a text with its first character once or more is the text, or has it twice at least
repeats_parts : (c : ℕ) (rest x : List ℕ) → repeats (c ∷ rest) x ≡ true → (x ≡ c ∷ rest) ⊎ ((front : List ℕ) × (x ≡ front ++ (c ∷ c ∷ rest)))
repeats_parts c rest [] h = absurd (false≢true h)
repeats_parts c rest (d ∷ x) h =
    let parts = and_parts (d == c) (bytes_eq rest x || repeats (c ∷ rest) x) h in
    let first : d ≡ c = eqb-true d c parts.0 in
    ⊎_elim
    (λ here. inl (ap₂ (λ a l. a ∷ l) first (sym ((bytes_eq-Decides rest x).0 here))))
    (λ again. ⊎_elim
    (λ once. inr ([], ap₂ (λ a l. a ∷ l) first once))
    (λ more. inr (d ∷ more.0, ap (λ l. d ∷ l) more.1))
    (repeats_parts c rest x again))
    (or_cases (bytes_eq rest x) (repeats (c ∷ rest) x) parts.1)

module _ (way : List ℕ) (c : ℕ) (rest : List ℕ) (n : ℕ) (le : n ≤ length way) where
  abbrev t : List ℕ
  t = c ∷ rest

  abbrev x : List ℕ
  x = take n way

  repeats_once : reverse x ≡ t → begins_with_length n way (reverse t) ≡ true
  repeats_once e =
      let same : x ≡ reverse t = sym (reverse-reverse x) ∙ ap reverse e in
      and_from (begins_with_text way (reverse t)) (length (reverse t) == n) (ap (begins_with_text way) (sym same) ∙ occurs_take way n)
      (eq-eqb (length (reverse t)) n (ap length (sym same) ∙ length-take-le n way le))

  repeats_more : (front : List ℕ) → reverse x ≡ front ++ (c ∷ t) → continues way t ≡ true
  repeats_more front e =
      let past = reverse front ++ drop n way in
      let part : x ≡ (reverse t ++ c ∷ []) ++ reverse front =
      sym (reverse-reverse x) ∙ ap reverse e ∙ reverse-append front (c ∷ t) ∙ ap (λ l. l ++ reverse front) (reverse-append (c ∷ []) t) in
      let whole : way ≡ reverse t ++ c ∷ past =
      sym (take-append-drop n way) ∙ ap (λ l. l ++ drop n way) part ∙ append_assoc (reverse t ++ c ∷ []) (reverse front) (drop n way)
      ∙ append_assoc (reverse t) (c ∷ []) past in
      let long : length (reverse t) ≡ suc (length rest) = length-reverse t in
      let more : suc (length rest) < length way = omega (arith, ap length whole, length-append (reverse t) (c ∷ past), long) in
      let next : get_or way (suc (length rest)) 0 ≡ c =
      ap (λ l. get_or l (suc (length rest)) 0) whole ∙ ap (λ k. get_or (reverse t ++ c ∷ past) k 0) (sym long) ∙ get_or-append_seam (reverse t) c past 0 in
      and_from (begins_with_text way (reverse t)) (nat_lt (suc (length rest)) (length way) && (get_or way (suc (length rest)) 0 == c))
      (ap (λ l. begins_with_text l (reverse t)) whole ∙ occurs_front (reverse t) (c ∷ past))
      (and_from (nat_lt (suc (length rest)) (length way)) (get_or way (suc (length rest)) 0 == c)
      (lt-ltb (suc (length rest)) (length way) more) (eq-eqb (get_or way (suc (length rest)) 0) c next))

  repeats_here : begins_with_length n way (reverse t) ≡ true → repeats t (reverse x) ≡ true
  repeats_here h =
      let parts = and_parts (begins_with_text way (reverse t)) (length (reverse t) == n) h in
      let same : x ≡ reverse t = ap (λ k. take k way) (sym (eqb-true (length (reverse t)) n parts.1)) ∙ (occurs_is way (reverse t) parts.0).1 in
      ap (repeats t) (ap reverse same ∙ reverse-reverse t)
      ∙ and_from (c == c) (bytes_eq rest rest || repeats t rest) (eq-eqb c c refl) (or_left (bytes_eq rest rest) (repeats t rest) ((bytes_eq-Decides rest rest).1 refl))

repeated_is : (way t : List ℕ) (n : ℕ) → 0 < n → n ≤ length way → continues way t ≡ false → repeats t (reverse (take n way)) ≡ begins_with_length n way (reverse t)
repeated_is way [] zero some le off = absurd (omega arith)
repeated_is way [] (suc n) some le off = sym (apart 0 (suc n) (λ e. omega arith))
repeated_is way (c ∷ rest) n some le off = same_truth _ _
    (λ h. ⊎_elim
    (repeats_once way c rest n le)
    (λ more. absurd (false≢true (sym off ∙ repeats_more way c rest n le more.0 more.1)))
    (repeats_parts c rest (reverse (take n way)) h))
    (repeats_here way c rest n le)

-- ---- white space

space_is : (way : List ℕ) (n : ℕ) → 0 < n → n ≤ length way → is_space (take n way) ≡ (is_whitespace (get_or way 0 0) && (n == 1))
space_is way zero some le = absurd (omega arith)
space_is [] (suc n) some le = absurd (omega arith)
space_is (c ∷ way) (suc zero) some le = sym (and-true (is_whitespace c))
space_is (c ∷ []) (suc (suc n)) some le = absurd (omega arith)
space_is (c ∷ d ∷ way) (suc (suc n)) some le =
    sym (ap (λ b. is_whitespace c && b) (apart (suc (suc n)) 1 (λ e. omega arith)) ∙ and-false (is_whitespace c))

-- ---- pieces

-- whether a white space character comes first and is all, or a separator
abbrev pub blank : LineRules → List ℕ → ℕ → Bool
blank rules way n = (is_whitespace (get_or way 0 0) && (n == 1)) || begins_with_separator rules.separators n way

-- which lengths the pieces have, kind by kind
abbrev pub lengths : LineRules → Side → List ℕ → ℕ → Bool
lengths rules side way n =
    (blank rules way n || list_any (λ t. begins_with_length n way (walked side t)) (side_texts rules side))
    || (list_any (λ t. begins_with_spaced n way (walked side t)) (side_spaced rules side) || list_any (λ t. begins_with_length n way (reverse t)) (side_repeated rules side))

piece_is : (rules : LineRules) (side : Side) (way : List ℕ) (n : ℕ) → 0 < n → n ≤ length way
    → list_any (continues way) (side_repeated rules side) ≡ false → is_walked_piece rules side (take n way) ≡ lengths rules side way n
piece_is rules side way n some le off =
    let x = take n way in
    let marks : (rules.separators && is_separator x) ≡ begins_with_separator rules.separators n way =
    sym (ap (λ b. b && (rules.separators && is_separator x)) (le-leb n (length way) le)) in
    let spaces : (is_space x || (rules.separators && is_separator x)) ≡ blank rules way n =
    ap₂ (λ a b. a || b) (space_is way n some le) marks in
    walked_piece rules side x
    ∙ ap₂ (λ a b. a || b)
    (ap₂ (λ a b. a || b) spaces (same_any _ _ (side_texts rules side) (λ t. text_is way (walked side t) n le)))
    (ap₂ (λ a b. a || b) (same_any _ _ (side_spaced rules side) (λ t. spaced_is way (walked side t) n some le))
    (same_any_where _ _ (continues way) (side_repeated rules side) off (λ t none. repeated_is way t n some le none)))

-- nothing of them is longer than the way
no_text_beyond : (n : ℕ) (way t : List ℕ) → length way < n → begins_with_length n way t ≡ false
no_text_beyond n way t far = ⊎_elim
    (λ h. let parts = and_parts (begins_with_text way t) (length t == n) h in
    absurd (omega (arith, (occurs_is way t parts.0).0, eqb-true (length t) n parts.1)))
    (λ none. none)
    (cases_Bool (begins_with_length n way t))

no_spaced_beyond : (n : ℕ) (way t : List ℕ) → length way < n → begins_with_spaced n way t ≡ false
no_spaced_beyond n way t far = ⊎_elim
    (λ h. let parts = and_parts (begins_with_text way t) (is_whitespace (get_or way (length t) 0) && (suc (length t) == n)) h in
    let more = and_parts (is_whitespace (get_or way (length t) 0)) (suc (length t) == n) parts.1 in
    let long : suc (length t) ≡ n = eqb-true (suc (length t)) n more.1 in
    absurd (false≢true (ap is_whitespace (sym (get_or_past way (length t) 0 (omega arith))) ∙ more.0)))
    (λ none. none)
    (cases_Bool (begins_with_spaced n way t))

no_space_beyond : (n : ℕ) (way : List ℕ) → 0 < length way → length way < n → (is_whitespace (get_or way 0 0) && (n == 1)) ≡ false
no_space_beyond n way some far = ⊎_elim
    (λ h. absurd (omega (arith, eqb-true n 1 (and_parts (is_whitespace (get_or way 0 0)) (n == 1) h).1)))
    (λ none. none)
    (cases_Bool (is_whitespace (get_or way 0 0) && (n == 1)))

no_blank_beyond : (rules : LineRules) (n : ℕ) (way : List ℕ) → 0 < length way → length way < n → blank rules way n ≡ false
no_blank_beyond rules n way some far =
    ap₂ (λ a b. a || b) (no_space_beyond n way some far) (ap (λ b. b && (rules.separators && is_separator (take n way))) (lt-leb n (length way) far))

-- the bits of all kinds are the lengths of the pieces
pub all_lengths : (rules : LineRules) (side : Side) (way : List ℕ) (mask : ℕ) → 0 < length way
    → list_any (continues way) (side_repeated rules side) ≡ false → ((n : ℕ) → has_bit mask n ≡ lengths rules side way n) → AreLengths rules side way mask
all_lengths rules side way mask long off is = record {
  each = λ n some. is n ∙ ⊎_elim
      (λ far. none n far ∙ sym (ap (λ b. b && is_walked_piece rules side (take n way)) (lt-leb n (length way) far)))
      (λ near. sym (piece_is rules side way n some near off) ∙ sym (ap (λ b. b && is_walked_piece rules side (take n way)) (le-leb n (length way) near)))
      (cases_lt (length way) n);
}
  where
    none : (n : ℕ) → length way < n → lengths rules side way n ≡ false
    none n far =
        ap₂ (λ a b. a || b)
        (ap₂ (λ a b. a || b) (no_blank_beyond rules n way long far) (no_any _ (side_texts rules side) (λ t. no_text_beyond n way (walked side t) far)))
        (ap₂ (λ a b. a || b) (no_any _ (side_spaced rules side) (λ t. no_spaced_beyond n way (walked side t) far))
        (no_any _ (side_repeated rules side) (λ t. no_text_beyond n way (reverse t) far)))

pub has_bit_zero : (k : ℕ) → has_bit 0 k ≡ false
has_bit_zero k = ap (λ n. n == 1) (bit_at-zero k)

-- ---- where no text begins

none_of : (test : List ℕ → Bool) (side : Side) (way : List ℕ) (ts : List (List ℕ)) → ((t : List ℕ) → test t ≡ true → begins_with_text way (walked side t) ≡ true)
    → HasBits 0 side way ts → list_any test ts ≡ false
none_of test side way ts begins bits = elim (cases_Bool (list_any test ts)) [
  | inl some ↦
      let found = any_some test ts [] some in
      absurd (false≢true (sym (has_bit_zero found.0) ∙ bits.each found.0 found.1 (begins (get_or ts found.0 []) found.2)))
  | inr none ↦ none
]

none_repeated : (rules : LineRules) (test : List ℕ → Bool) (side : Side) (way : List ℕ) → ((t : List ℕ) → test t ≡ true → begins_with_text way (reverse t) ≡ true)
    → HasBits 0 side way (side_repeated rules side) → list_any test (side_repeated rules side) ≡ false
none_repeated rules test Front way begins bits = refl
none_repeated rules test End way begins bits = none_of test End way rules.tail_repeat begins bits

goes_begins : (way t : List ℕ) → continues way t ≡ true → begins_with_text way (reverse t) ≡ true
goes_begins way [] h = absurd (false≢true h)
goes_begins way (c ∷ t) h =
    (and_parts (begins_with_text way (reverse (c ∷ t))) (nat_lt (suc (length t)) (length way) && (get_or way (suc (length t)) 0 == c)) h).0

pub space_lengths : (rules : LineRules) (side : Side) (way : List ℕ) (mask : ℕ) → 0 < length way → HasBegun rules side way 0
    → ((n : ℕ) → has_bit mask n ≡ blank rules way n) → AreLengths rules side way mask
space_lengths rules side way mask long none is =
    all_lengths rules side way mask long (none_repeated rules (continues way) side way (goes_begins way) (none.repeated refl))
    (λ n. is n ∙ sym (ap₂ (λ a b. a || b)
    (ap (λ b. blank rules way n || b)
    (none_of (λ t. begins_with_length n way (walked side t)) side way (side_texts rules side)
    (λ t h. (and_parts (begins_with_text way (walked side t)) (length (walked side t) == n) h).0) none.texts)
    ∙ or-false (blank rules way n))
    (ap₂ (λ a b. a || b)
    (none_of (λ t. begins_with_spaced n way (walked side t)) side way (side_spaced rules side)
    (λ t h. (and_parts (begins_with_text way (walked side t)) (is_whitespace (get_or way (length (walked side t)) 0) && (suc (length (walked side t)) == n)) h).0) (none.spaced refl))
    (none_repeated rules (λ t. begins_with_length n way (reverse t)) side way
    (λ t h. (and_parts (begins_with_text way (reverse t)) (length (reverse t) == n) h).0) (none.repeated refl)))
    ∙ or-false (blank rules way n)))

-- ---- a repeated text that does not continue

pub continues_empty : (way t : List ℕ) → length t ≡ 0 → continues way t ≡ false
continues_empty way [] none = refl
continues_empty way (c ∷ t) none = absurd (omega arith)

pub continues_apart : (way t : List ℕ) → begins_with_text way (reverse t) ≡ false → continues way t ≡ false
continues_apart way [] off = refl
continues_apart way (c ∷ t) off = ap (λ b. b && (nat_lt (suc (length t)) (length way) && (get_or way (suc (length t)) 0 == c))) off

pub continues_short : (way t : List ℕ) → length way ≤ length t → continues way t ≡ false
continues_short way [] short = refl
continues_short way (c ∷ t) short =
    ap (λ b. begins_with_text way (reverse (c ∷ t)) && (b && (get_or way (suc (length t)) 0 == c))) (le-ltb (suc (length t)) (length way) short)
    ∙ and-false (begins_with_text way (reverse (c ∷ t)))

pub continues_other : (way t : List ℕ) (d : ℕ) → (get_or way (length t) 0 == get_or t 0 d) ≡ false → continues way t ≡ false
continues_other way [] d other = refl
continues_other way (c ∷ t) d other =
    ap (λ b. begins_with_text way (reverse (c ∷ t)) && (nat_lt (suc (length t)) (length way) && b)) other
    ∙ ap (λ b. begins_with_text way (reverse (c ∷ t)) && b) (and-false (nat_lt (suc (length t)) (length way)))
    ∙ and-false (begins_with_text way (reverse (c ∷ t)))

-- ---- bits

-- the bits above the lowest
pub has_bit_half : (mask k : ℕ) → has_bit (mask / 2) k ≡ has_bit mask (suc k)
has_bit_half mask k = ap (λ n. n == 1) (sym (bit_at-suc mask k))

pub has_bit_set : (mask k n : ℕ) → k < 64 → has_bit (bit_or mask (1 * 2 ^ k % 2 ^ 64)) n ≡ (has_bit mask n || (k == n))
has_bit_set mask k n small =
    ⊎_elim
    (λ same. let e : k ≡ n = eqb-true k n same in
    ap (λ m. has_bit (bit_or mask (1 * 2 ^ k % 2 ^ 64)) m) (sym e) ∙ ap (λ b. b == 1) (bit_at_set_same w64 mask k small)
    ∙ sym (or_right (has_bit mask n) (k == n) same))
    (λ other. ap (λ b. b == 1) (bit_at_set_other w64 mask k small n (λ e. false≢true (sym other ∙ eq-eqb k n (sym e))))
    ∙ sym (ap (λ b. has_bit mask n || b) other ∙ or-false (has_bit mask n)))
    (cases_Bool (k == n))

pub space_bit : (n : ℕ) → has_bit 2 n ≡ (n == 1)
space_bit zero = refl
space_bit (suc zero) = refl
space_bit (suc (suc n)) =
    ap (λ b. b == 1) (bit_at_above 2 2 (suc (suc n)) (omega arith) (omega arith)) ∙ sym (apart (suc (suc n)) 1 (λ e. omega arith))

-- of one only the lowest is set
pub only_first : (n : ℕ) → has_bit 1 n ≡ true → n ≡ 0
only_first zero h = refl
only_first (suc n) h = absurd (false≢true (sym (ap (λ b. b == 1) (bit_at_above 1 1 (suc n) (omega arith) (omega arith))) ∙ h))

-- the bits one index on
pub next_without : (mask : ℕ) (more : Bool) (d : ℕ) → has_bit mask 0 ≡ false → has_bit (mask / 2) d ≡ (has_bit mask (suc d) || (has_bit mask 0 && more))
next_without mask more d off =
    has_bit_half mask d ∙ sym (ap (λ b. has_bit mask (suc d) || (b && more)) off ∙ or-false (has_bit mask (suc d)))

pub next_with : (mask lengths : ℕ) (more : Bool) (d : ℕ) → has_bit mask 0 ≡ true → has_bit lengths (suc d) ≡ more
    → has_bit (bit_or mask lengths / 2) d ≡ (has_bit mask (suc d) || (has_bit mask 0 && more))
next_with mask lengths more d on is =
    has_bit_half (bit_or mask lengths) d ∙ has_bit_or mask lengths (suc d) ∙ ap (λ b. has_bit mask (suc d) || b) is
    ∙ sym (ap (λ b. has_bit mask (suc d) || (b && more)) on)
