-- Characters of ASCII and letters that stay as they are, one after another at the start of bytes, by masks of where they are.
use Rattle.std.proofs.Common.{◌≡◌, ◌⊎◌, ℕ, zero, suc, ◌+◌, ◌-◌, ◌*◌, ◌%◌, ◌^◌, ◌<◌, ◌≤◌, Bool, true, false, ◌&&◌, ◌||◌, List, length, get_or, drop, inl, inr, refl, sym, ap, ap₂, subst, ◌∙◌, arith, bit_and, bit_or, ltb-true}
use Rattle.std.specs.Prelude.{nat_le, nat_lt}
use Rattle.std.proofs.lemmas.Bool.{and_parts, or_cases, cases_eq, cases_lt}
use Rattle.std.proofs.lemmas.List.{get_or-drop, length-drop}
use Rattle.lic_letters.specs.OwnLetters.{begins_two, begins_three, continues}
use Rattle.lic_letters.specs.Simple.{AreOwn}
use Rattle.lic_letters.proofs.BitLemmas.{has_bit_and, has_bit_or, has_bit_shl, has_bit_shl_low}
use Rattle.lic_letters.proofs.OwnLetters.{two_own, three_own, two_leads, three_leads}
use Rattle.lic_letters.proofs.SpelledFronts.{none_own, one_own, own_on}
use Rattle.lic_trim.specs.PieceLengths.{has_bit}

-- at each of the first n offsets is a byte of ASCII, or one of the w bytes of a letter; none of these are cut off
module _ (bytes : List ℕ) (w n : ℕ) (low begin : ℕ → Bool) (some : 0 < w)
    (is_low : (i : ℕ) → low i ≡ true → (i < length bytes) × (get_or bytes i 0 < 128))
    (is_letter : (i : ℕ) → begin i ≡ true → AreOwn (drop i bytes) w)
    (low_apart : (i : ℕ) → low i ≡ true → begin i ≡ false)
    (apart : (i j : ℕ) → begin i ≡ true → 0 < j → j < w → begin (i + j) ≡ false)
    (covered : (i : ℕ) → i < n → (low i ≡ true) ⊎ ((j : ℕ) × (j < w) × (j ≤ i) × (begin (i - j) ≡ true)))
    (whole : (i : ℕ) → i < n → begin i ≡ true → i + w ≤ n) where
  -- no letter begins so shortly before this lane that it goes on there
  abbrev Parts : ℕ → Type 0
  Parts p = (j : ℕ) → 0 < j → j < w → j ≤ p → begin (p - j) ≡ false

  byte_own : (p : ℕ) → low p ≡ true → AreOwn (drop p bytes) 1
  byte_own p is =
      let here = is_low p is in
      let slot : p + 0 ≡ p = omega arith in
      let same : get_or (drop p bytes) 0 0 ≡ get_or bytes p 0 = get_or-drop p bytes 0 0 ∙ ap (λ k. get_or bytes k 0) slot in
      one_own (drop p bytes) (omega (arith, length-drop p bytes, here.0)) (omega (arith, same, here.1))

  after_low : (p : ℕ) → low p ≡ true → Parts p → Parts (p + 1)
  after_low p is parts j more few within = elim (cases_eq j 1) [
    | inl one ↦ let slot : p + 1 - j ≡ p = omega (arith, one) in ap begin slot ∙ low_apart p is
    | inr other ↦
        let slot : p + 1 - j ≡ p - (j - 1) = omega (arith, more) in
        ap begin slot ∙ parts (j - 1) (omega (arith, other, more)) (omega (arith, few)) (omega (arith, within))
  ]

  after_letter : (p : ℕ) → begin p ≡ true → Parts (p + w)
  after_letter p is j more few within =
      let slot : p + w - j ≡ p + (w - j) = omega (arith, few) in
      ap begin slot ∙ apart p (w - j) is (omega (arith, few)) (omega (arith, more, few))

  begins_here : (p j : ℕ) → Parts p → j < w → j ≤ p → begin (p - j) ≡ true → begin p ≡ true
  begins_here p j parts few within is = elim (cases_eq j 0) [
    | inl none ↦ let slot : p ≡ p - j = omega (arith, none) in ap begin slot ∙ is
    | inr more ↦ absurd (let clash : false ≡ true = sym (parts j (omega (arith, more)) few within) ∙ is in cc)
  ]

  done : (p : ℕ) → p ≡ n → AreOwn bytes p → AreOwn bytes n
  done p e own = subst (AreOwn bytes) e own

  walk : (fuel p : ℕ) → n ≤ p + fuel → p ≤ n → AreOwn bytes p → Parts p → AreOwn bytes n
  walk zero p near within own parts = done p (omega (arith, near, within)) own
  walk (suc fuel) p near within own parts = elim (cases_lt p n) [
    | inr past ↦ done p (omega (arith, past, within)) own
    | inl more ↦ elim (covered p more) [
      | inl is ↦ walk fuel (p + 1) (omega (arith, near)) (omega (arith, more)) (own_on bytes p 1 (drop p bytes) own refl (byte_own p is)) (after_low p is parts)
      | inr letter ↦
          let is = begins_here p letter.0 parts letter.1 letter.2 letter.3 in
          walk fuel (p + w) (omega (arith, near, some)) (whole p more is) (own_on bytes p w (drop p bytes) own refl (is_letter p is)) (after_letter p is)
    ]
  ]

  run_own : AreOwn bytes n
  run_own = walk n 0 (omega arith) (omega arith) (none_own bytes) (λ j more few within. absurd (omega (arith, more, within)))

-- ---- bits

bit_off : (m i : ℕ) → (16 ≤ i → has_bit m i ≡ false) → has_bit m i ≡ true → i < 16
bit_off m i above is = elim (cases_lt i 16) [
  | inl low ↦ low
  | inr high ↦ absurd (let clash : false ≡ true = sym (above high) ∙ is in cc)
]

none_true : (t : Bool) → (t ≡ true → ⊥) → t ≡ false
none_true false h = refl
none_true true h = absurd (h refl)

or-true : (t : Bool) → (t || true) ≡ true
or-true true = refl
or-true false = refl

-- a letter of w bytes that stays as it is
record IsLetterAt (bytes : List ℕ) (w i : ℕ) : Type 0 where
  lead : 192 ≤ get_or bytes i 0
  own : AreOwn (drop i bytes) w
  rest : (j : ℕ) → 0 < j → j < w → get_or bytes (i + j) 0 ≤ 191

-- a byte of ASCII is in lane i, or a letter that begins at most w - 1 offsets before it
abbrev Covers : ℕ → ℕ → ℕ → ℕ → Type 0
Covers w ascii begins i = (has_bit ascii i ≡ true) ⊎ ((j : ℕ) × (j < w) × (j ≤ i) × (has_bit begins (i - j) ≡ true))

covers_here : (w ascii begins i : ℕ) → 0 < w → has_bit begins i ≡ true → Covers w ascii begins i
covers_here w ascii begins i some is = let slot : i - 0 ≡ i = omega arith in inr (0, some, omega arith, ap (has_bit begins) slot ∙ is)

module _ (bytes first : List ℕ) (w ascii begins known n : ℕ) (some : 0 < w) (long : 18 ≤ length bytes)
    (firsts : (i : ℕ) → i < 16 → get_or first i 0 ≡ get_or bytes (0 + i) 0)
    (ascii_bits : (i : ℕ) → i < 16 → has_bit ascii i ≡ nat_lt (get_or first i 0) 128)
    (ascii_above : (i : ℕ) → 16 ≤ i → has_bit ascii i ≡ false)
    (letters : (i : ℕ) → has_bit begins i ≡ true → IsLetterAt bytes w i)
    (covers : (i : ℕ) → i < 64 → has_bit known i ≡ true → Covers w ascii begins i)
    (fills : (i j : ℕ) → has_bit begins i ≡ true → j < w → has_bit known (i + j) ≡ true)
    (within : n < 64) (zero_at : has_bit known n ≡ false) (below : (i : ℕ) → i < n → has_bit known i ≡ true) where
  low_byte : (i : ℕ) → has_bit ascii i ≡ true → (i < length bytes) × (get_or bytes i 0 < 128)
  low_byte i is =
      let few : i < 16 = bit_off ascii i (ascii_above i) is in
      let slot : 0 + i ≡ i = omega arith in
      let same : get_or first i 0 ≡ get_or bytes i 0 = firsts i few ∙ ap (λ k. get_or bytes k 0) slot in
      let low : get_or first i 0 < 128 = ltb-true (get_or first i 0) 128 (sym (ascii_bits i few) ∙ is) in
      (omega (arith, few, long), omega (arith, same, low))

  low_is_none : (i : ℕ) → has_bit ascii i ≡ true → has_bit begins i ≡ false
  low_is_none i is =
      let low : get_or bytes i 0 < 128 = (low_byte i is).1 in
      none_true (has_bit begins i) (λ yes. let lead : 192 ≤ get_or bytes i 0 = (letters i yes).lead in omega (arith, low, lead))

  rest_is_none : (i j : ℕ) → has_bit begins i ≡ true → 0 < j → j < w → has_bit begins (i + j) ≡ false
  rest_is_none i j is more few =
      let low : get_or bytes (i + j) 0 ≤ 191 = (letters i is).rest j more few in
      none_true (has_bit begins (i + j)) (λ yes. let lead : 192 ≤ get_or bytes (i + j) 0 = (letters (i + j) yes).lead in omega (arith, low, lead))

  whole_letter : (i : ℕ) → i < n → has_bit begins i ≡ true → i + w ≤ n
  whole_letter i inside is = elim (cases_lt n (i + w)) [
    | inl cut ↦
        let slot : i + (n - i) ≡ n = omega (arith, inside) in
        let few : n - i < w = omega (arith, cut, inside) in
        absurd (let clash : false ≡ true = sym zero_at ∙ ap (has_bit known) (sym slot) ∙ fills i (n - i) is few in cc)
    | inr not ↦ not
  ]

  marked_own : AreOwn bytes n
  marked_own =
      run_own bytes w n (has_bit ascii) (has_bit begins) some low_byte (λ i is. (letters i is).own) low_is_none rest_is_none
      (λ i inside. covers i (omega (arith, inside, within)) (below i inside)) whole_letter

-- a mask moved up by one lane
record IsMoved (from to : ℕ) : Type 0 where
  first : has_bit to 0 ≡ false
  rest : (i : ℕ) → suc i < 64 → has_bit to (suc i) ≡ has_bit from i

moved_from : (from to i : ℕ) → IsMoved from to → i < 64 → has_bit to i ≡ true → (1 ≤ i) × (has_bit from (i - 1) ≡ true)
moved_from from to zero moved few is = absurd (let clash : false ≡ true = sym moved.first ∙ is in cc)
moved_from from to (suc i) moved few is =
    let slot : suc i - 1 ≡ i = omega arith in
    (omega arith, ap (has_bit from) slot ∙ sym (moved.rest i few) ∙ is)

abbrev moved_up : ℕ → ℕ
moved_up mask = mask * 2 ^ 1 % 2 ^ 64

moved_is : (mask : ℕ) → IsMoved mask (moved_up mask)
moved_is mask = record {
  first = has_bit_shl_low mask 1 0 (omega arith) (omega arith);
  rest = λ i small. has_bit_shl mask 1 i (suc i) (omega arith) small;
}

-- ---- letters of two bytes

module _ (bytes first second : List ℕ) (ascii begins n : ℕ) (long : 18 ≤ length bytes) (small : (i : ℕ) → get_or bytes i 0 < 256)
    (firsts : (i : ℕ) → i < 16 → get_or first i 0 ≡ get_or bytes (0 + i) 0)
    (seconds : (i : ℕ) → i < 16 → get_or second i 0 ≡ get_or bytes (1 + i) 0)
    (ascii_bits : (i : ℕ) → i < 16 → has_bit ascii i ≡ nat_lt (get_or first i 0) 128)
    (ascii_above : (i : ℕ) → 16 ≤ i → has_bit ascii i ≡ false)
    (two_bits : (i : ℕ) → i < 16 → has_bit begins i ≡ begins_two (get_or first i 0) (get_or second i 0))
    (two_above : (i : ℕ) → 16 ≤ i → has_bit begins i ≡ false) where
  abbrev moved : ℕ
  moved = moved_up begins

  abbrev two_known : ℕ
  two_known = bit_or (bit_or ascii begins) moved

  two_known_is : (i : ℕ) → has_bit two_known i ≡ ((has_bit ascii i || has_bit begins i) || has_bit moved i)
  two_known_is i = has_bit_or (bit_or ascii begins) moved i ∙ ap (λ t. t || has_bit moved i) (has_bit_or ascii begins i)

  pub two_top : has_bit two_known 63 ≡ false
  two_top =
      two_known_is 63
      ∙ ap₂ (λ t u. (t || u) || has_bit moved 63) (ascii_above 63 (omega arith)) (two_above 63 (omega arith))
      ∙ (moved_is begins).rest 62 (omega arith) ∙ two_above 62 (omega arith)

  two_letter : (i : ℕ) → has_bit begins i ≡ true → IsLetterAt bytes 2 i
  two_letter i is =
      let few : i < 16 = bit_off begins i (two_above i) is in
      let here : 0 + i ≡ i = omega arith in
      let next : 1 + i ≡ i + 1 = omega arith in
      let one : get_or first i 0 ≡ get_or bytes i 0 = firsts i few ∙ ap (λ k. get_or bytes k 0) here in
      let two : get_or second i 0 ≡ get_or bytes (i + 1) 0 = seconds i few ∙ ap (λ k. get_or bytes k 0) next in
      let both : begins_two (get_or bytes i 0) (get_or bytes (i + 1) 0) ≡ true = ap₂ begins_two (sym one) (sym two) ∙ sym (two_bits i few) ∙ is in
      let leads = two_leads (get_or bytes i 0) (get_or bytes (i + 1) 0) (small i) (small (i + 1)) both in
      let start : i + 0 ≡ i = omega arith in
      let a : get_or (drop i bytes) 0 0 ≡ get_or bytes i 0 = get_or-drop i bytes 0 0 ∙ ap (λ k. get_or bytes k 0) start in
      let b : get_or (drop i bytes) 1 0 ≡ get_or bytes (i + 1) 0 = get_or-drop i bytes 1 0 in
      record {
        lead = omega (arith, leads.0);
        own = two_own (drop i bytes) (omega (arith, length-drop i bytes, few, long)) (omega (arith, a, small i)) (omega (arith, b, small (i + 1)))
            (ap₂ begins_two a b ∙ both);
        rest = λ j more less. let slot : i + j ≡ i + 1 = omega (arith, more, less) in
            let same : get_or bytes (i + j) 0 ≡ get_or bytes (i + 1) 0 = ap (λ k. get_or bytes k 0) slot in omega (arith, same, leads.1);
      }

  two_covers : (i : ℕ) → i < 64 → has_bit two_known i ≡ true → Covers 2 ascii begins i
  two_covers i few is = elim (or_cases _ _ (sym (two_known_is i) ∙ is)) [
    | inl one ↦ elim (or_cases _ _ one) [
      | inl low ↦ inl low
      | inr begin ↦ covers_here 2 ascii begins i (omega arith) begin
    ]
    | inr past ↦ let from = moved_from begins moved i (moved_is begins) few past in
        inr (1, omega arith, from.0, from.1)
  ]

  two_fills : (i j : ℕ) → has_bit begins i ≡ true → j < 2 → has_bit two_known (i + j) ≡ true
  two_fills i zero is few =
      let slot : i + 0 ≡ i = omega arith in
      ap (has_bit two_known) slot ∙ two_known_is i ∙ ap (λ t. (has_bit ascii i || t) || has_bit moved i) is
      ∙ ap (λ t. t || has_bit moved i) (or-true (has_bit ascii i))
  two_fills i (suc zero) is few =
      let slot : i + 1 ≡ suc i = omega arith in
      let low : i < 16 = bit_off begins i (two_above i) is in
      ap (has_bit two_known) slot ∙ two_known_is (suc i)
      ∙ ap (λ t. (has_bit ascii (suc i) || has_bit begins (suc i)) || t) ((moved_is begins).rest i (omega (arith, low)) ∙ is)
      ∙ or-true (has_bit ascii (suc i) || has_bit begins (suc i))
  two_fills i (suc (suc j)) is few = absurd (omega (arith, few))

  pub two_run : n < 64 → has_bit two_known n ≡ false → ((i : ℕ) → i < n → has_bit two_known i ≡ true) → AreOwn bytes n
  two_run within zero_at below =
      marked_own bytes first 2 ascii begins two_known n (omega arith) long firsts ascii_bits ascii_above two_letter two_covers two_fills within zero_at below

-- ---- letters of three bytes

module _ (bytes first second third : List ℕ) (ascii starts ons n : ℕ) (long : 18 ≤ length bytes) (small : (i : ℕ) → get_or bytes i 0 < 256)
    (firsts : (i : ℕ) → i < 16 → get_or first i 0 ≡ get_or bytes (0 + i) 0)
    (nexts : (i : ℕ) → i < 16 → get_or second i 0 ≡ get_or bytes (1 + i) 0)
    (lasts : (i : ℕ) → i < 16 → get_or third i 0 ≡ get_or bytes (2 + i) 0)
    (ascii_bits : (i : ℕ) → i < 16 → has_bit ascii i ≡ nat_lt (get_or first i 0) 128)
    (ascii_above : (i : ℕ) → 16 ≤ i → has_bit ascii i ≡ false)
    (three_bits : (i : ℕ) → i < 16 → has_bit starts i ≡ begins_three (get_or first i 0) (get_or second i 0))
    (three_above : (i : ℕ) → 16 ≤ i → has_bit starts i ≡ false)
    (on_bits : (i : ℕ) → i < 16 → has_bit ons i ≡ continues (get_or third i 0)) where
  abbrev three_begins : ℕ
  three_begins = bit_and starts ons

  abbrev seconds : ℕ
  seconds = moved_up three_begins

  abbrev thirds : ℕ
  thirds = moved_up seconds

  abbrev three_known : ℕ
  three_known = bit_or (bit_or (bit_or ascii three_begins) seconds) thirds

  three_known_is : (i : ℕ) → has_bit three_known i ≡ (((has_bit ascii i || has_bit three_begins i) || has_bit seconds i) || has_bit thirds i)
  three_known_is i =
      has_bit_or (bit_or (bit_or ascii three_begins) seconds) thirds i
      ∙ ap (λ t. t || has_bit thirds i) (has_bit_or (bit_or ascii three_begins) seconds i)
      ∙ ap (λ t. (t || has_bit seconds i) || has_bit thirds i) (has_bit_or ascii three_begins i)

  begins_above : (i : ℕ) → 16 ≤ i → has_bit three_begins i ≡ false
  begins_above i high = has_bit_and starts ons i ∙ ap (λ t. t && has_bit ons i) (three_above i high)

  pub three_top : has_bit three_known 63 ≡ false
  three_top =
      three_known_is 63
      ∙ ap₂ (λ t u. ((t || u) || has_bit seconds 63) || has_bit thirds 63) (ascii_above 63 (omega arith)) (begins_above 63 (omega arith))
      ∙ ap₂ (λ t u. t || u) ((moved_is three_begins).rest 62 (omega arith) ∙ begins_above 62 (omega arith))
      ((moved_is seconds).rest 62 (omega arith) ∙ (moved_is three_begins).rest 61 (omega arith) ∙ begins_above 61 (omega arith))

  three_letter : (i : ℕ) → has_bit three_begins i ≡ true → IsLetterAt bytes 3 i
  three_letter i is =
      let few : i < 16 = bit_off three_begins i (begins_above i) is in
      let parts = and_parts (has_bit starts i) (has_bit ons i) (sym (has_bit_and starts ons i) ∙ is) in
      let here : 0 + i ≡ i = omega arith in
      let next : 1 + i ≡ i + 1 = omega arith in
      let last : 2 + i ≡ i + 2 = omega arith in
      let one : get_or first i 0 ≡ get_or bytes i 0 = firsts i few ∙ ap (λ k. get_or bytes k 0) here in
      let two : get_or second i 0 ≡ get_or bytes (i + 1) 0 = nexts i few ∙ ap (λ k. get_or bytes k 0) next in
      let three : get_or third i 0 ≡ get_or bytes (i + 2) 0 = lasts i few ∙ ap (λ k. get_or bytes k 0) last in
      let both : begins_three (get_or bytes i 0) (get_or bytes (i + 1) 0) ≡ true = ap₂ begins_three (sym one) (sym two) ∙ sym (three_bits i few) ∙ parts.0 in
      let on : continues (get_or bytes (i + 2) 0) ≡ true = ap continues (sym three) ∙ sym (on_bits i few) ∙ parts.1 in
      let leads = three_leads (get_or bytes i 0) (get_or bytes (i + 1) 0) (small i) (small (i + 1)) both in
      let goes = and_parts (nat_le 128 (get_or bytes (i + 2) 0)) (nat_lt (get_or bytes (i + 2) 0) 192) on in
      let less : get_or bytes (i + 2) 0 < 192 = ltb-true (get_or bytes (i + 2) 0) 192 goes.1 in
      let start : i + 0 ≡ i = omega arith in
      let a : get_or (drop i bytes) 0 0 ≡ get_or bytes i 0 = get_or-drop i bytes 0 0 ∙ ap (λ k. get_or bytes k 0) start in
      let b : get_or (drop i bytes) 1 0 ≡ get_or bytes (i + 1) 0 = get_or-drop i bytes 1 0 in
      let d : get_or (drop i bytes) 2 0 ≡ get_or bytes (i + 2) 0 = get_or-drop i bytes 2 0 in
      record {
        lead = omega (arith, leads.0);
        own = three_own (drop i bytes) (omega (arith, length-drop i bytes, few, long)) (omega (arith, a, small i)) (omega (arith, b, small (i + 1)))
            (ap₂ begins_three a b ∙ both) (ap continues d ∙ on);
        rest = λ j more less_than. elim (cases_eq j 1) [
          | inl is_one ↦ let same : get_or bytes (i + j) 0 ≡ get_or bytes (i + 1) 0 = ap (λ k. get_or bytes (i + k) 0) is_one in omega (arith, same, leads.1)
          | inr other ↦
              let is_two : j ≡ 2 = omega (arith, more, less_than, other) in
              let same : get_or bytes (i + j) 0 ≡ get_or bytes (i + 2) 0 = ap (λ k. get_or bytes (i + k) 0) is_two in omega (arith, same, less)
        ];
      }

  three_covers : (i : ℕ) → i < 64 → has_bit three_known i ≡ true → Covers 3 ascii three_begins i
  three_covers i few is = elim (or_cases _ _ (sym (three_known_is i) ∙ is)) [
    | inl most ↦ elim (or_cases _ _ most) [
      | inl one ↦ elim (or_cases _ _ one) [
        | inl low ↦ inl low
        | inr begin ↦ covers_here 3 ascii three_begins i (omega arith) begin
      ]
      | inr second ↦ let from = moved_from three_begins seconds i (moved_is three_begins) few second in inr (1, omega arith, from.0, from.1)
    ]
    | inr past ↦
        let from = moved_from seconds thirds i (moved_is seconds) few past in
        let before = moved_from three_begins seconds (i - 1) (moved_is three_begins) (omega (arith, few)) from.1 in
        let slot : i - 2 ≡ i - 1 - 1 = omega arith in
        inr (2, omega arith, omega (arith, from.0, before.0), ap (has_bit three_begins) slot ∙ before.1)
  ]

  three_fills : (i j : ℕ) → has_bit three_begins i ≡ true → j < 3 → has_bit three_known (i + j) ≡ true
  three_fills i zero is few =
      let slot : i + 0 ≡ i = omega arith in
      ap (has_bit three_known) slot ∙ three_known_is i ∙ ap (λ t. ((has_bit ascii i || t) || has_bit seconds i) || has_bit thirds i) is
      ∙ ap (λ t. (t || has_bit seconds i) || has_bit thirds i) (or-true (has_bit ascii i))
  three_fills i (suc zero) is few =
      let slot : i + 1 ≡ suc i = omega arith in
      let low : i < 16 = bit_off three_begins i (begins_above i) is in
      ap (has_bit three_known) slot ∙ three_known_is (suc i)
      ∙ ap (λ t. ((has_bit ascii (suc i) || has_bit three_begins (suc i)) || t) || has_bit thirds (suc i)) ((moved_is three_begins).rest i (omega (arith, low)) ∙ is)
      ∙ ap (λ t. t || has_bit thirds (suc i)) (or-true (has_bit ascii (suc i) || has_bit three_begins (suc i)))
  three_fills i (suc (suc zero)) is few =
      let slot : i + 2 ≡ suc (suc i) = omega arith in
      let low : i < 16 = bit_off three_begins i (begins_above i) is in
      ap (has_bit three_known) slot ∙ three_known_is (suc (suc i))
      ∙ ap (λ t. ((has_bit ascii (suc (suc i)) || has_bit three_begins (suc (suc i))) || has_bit seconds (suc (suc i))) || t)
      ((moved_is seconds).rest (suc i) (omega (arith, low)) ∙ (moved_is three_begins).rest i (omega (arith, low)) ∙ is)
      ∙ or-true ((has_bit ascii (suc (suc i)) || has_bit three_begins (suc (suc i))) || has_bit seconds (suc (suc i)))
  three_fills i (suc (suc (suc j))) is few = absurd (omega (arith, few))

  pub three_run : n < 64 → has_bit three_known n ≡ false → ((i : ℕ) → i < n → has_bit three_known i ≡ true) → AreOwn bytes n
  three_run within zero_at below =
      marked_own bytes first 3 ascii three_begins three_known n (omega arith) long firsts ascii_bits ascii_above three_letter three_covers three_fills
      within zero_at below
