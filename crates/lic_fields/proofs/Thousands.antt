-- Numbers that differ in their last three digits alone: what ends the fields of each.
use Rattle.std.proofs.Common.{◌≡◌, ℕ, ◌+◌, ◌-◌, ◌/◌, ◌%◌, ◌^◌, ◌<◌, ◌≤◌, List, [], ◌∷◌, ◌++◌, length, take, drop, get_or, refl, sym, ap, ◌∙◌, arith, append_assoc, length-append, length-drop}
use Rattle.std.proofs.Math.Seq.{take-append_seam}
use Rattle.std.proofs.lemmas.Fmt.{decimal_digit, decimal_step}
use Rattle.std.proofs.lemmas.List.{get_or-drop}
use Rattle.std.proofs.lemmas.List.FromFn.{get_or-map-range_with_len, length-map-range_with_len}
use Rattle.std.specs.Prelude.{decimal}
use Rattle.itoa.proofs.Decimal.{decimal_pair}
use Rattle.lic_fields.specs.Fields.{field}
use Rattle.lic_fields.specs.Fronts.{EndsField, IsThousand, first_digits, last_digits, last_digits_below_1000}

-- the last three digits of a number, without the tab
abbrev last_three : ℕ → List ℕ
last_three n = (48 + n / 100 % 10) ∷ (48 + n / 10 % 10) ∷ (48 + n % 10) ∷ []

decimal_three : (n : ℕ) → 100 ≤ n → n < 1000 → decimal n ≡ last_three n
decimal_three n low high =
    let a : n / 100 % 10 ≡ n / 100 = omega arith in
    let b : n % 100 / 10 ≡ n / 10 % 10 = omega arith in
    let c : n % 100 % 10 ≡ n % 10 = omega arith in
    rw (decimal_pair n low (omega arith), decimal_digit (n / 100) (omega arith), a, b, c) refl

decimal_more : (n : ℕ) → 1000 ≤ n → n < 2 ^ 64 → decimal n ≡ decimal (n / 1000) ++ last_three n
decimal_more n low fits =
    let a : n / 100 / 10 ≡ n / 1000 = omega arith in
    let b : n % 100 / 10 ≡ n / 10 % 10 = omega arith in
    let c : n % 100 % 10 ≡ n % 10 = omega arith in
    rw (decimal_pair n (omega arith) fits, decimal_step (n / 100) (omega arith) (omega arith), append_assoc, a, b, c) refl

-- what comes before the last three of some bytes
but_three : (front : List ℕ) (a b c : ℕ) → take (length (front ++ (a ∷ b ∷ c ∷ [])) - 3) (front ++ (a ∷ b ∷ c ∷ [])) ≡ front
but_three front a b c =
    let long : length (front ++ (a ∷ b ∷ c ∷ [])) - 3 ≡ length front =
    (let e = length-append front (a ∷ b ∷ c ∷ []) in omega (arith, e)) in
    ap (λ n. take n (front ++ (a ∷ b ∷ c ∷ []))) long ∙ take-append_seam front (a ∷ b ∷ c ∷ [])

pub first_digits_three : (n : ℕ) → 100 ≤ n → n < 1000 → first_digits n ≡ []
first_digits_three n low high = ap (λ l. take (length l - 3) l) (decimal_three n low high)

pub first_digits_more : (n : ℕ) → 1000 ≤ n → n < 2 ^ 64 → first_digits n ≡ decimal (n / 1000)
first_digits_more n low fits =
    ap (λ l. take (length l - 3) l) (decimal_more n low fits) ∙ but_three (decimal (n / 1000)) _ _ _

pub ends_three : (n : ℕ) → 100 ≤ n → n < 1000 → EndsField [] (last_digits n) n
ends_three n low high = (refl, ap (λ l. field l 0x09) (decimal_three n low high))

pub ends_more : (n : ℕ) (first : List ℕ) → 1000 ≤ n → n < 2 ^ 64 → first ≡ decimal (n / 1000) → EndsField first (last_digits n) n
ends_more n first low fits is = (
  refl,
  ap (λ l. field l 0x09) (decimal_more n low fits)
      ∙ (append_assoc (decimal (n / 1000)) (last_three n) (0x09 ∷ []) ∙ ap (λ l. l ++ last_digits n) (sym is)),
)

-- the digits of the table from an offset on
table_long : (from : ℕ) → length (drop from last_digits_below_1000) ≡ 1000 - from
table_long from =
    length-drop from last_digits_below_1000 ∙ ap (λ n. n - from) (length-map-range_with_len last_digits 0 1000)

table_at : (from k j : ℕ) → from + k ≡ j → j < 1000 → get_or (drop from last_digits_below_1000) k [] ≡ last_digits j
table_at from k j at within =
    get_or-drop from last_digits_below_1000 k []
    ∙ get_or-map-range_with_len last_digits 0 1000 (from + k) j [] (omega (arith, at, within)) (omega (arith, at))

pub hundreds : (digits : List (List ℕ)) → digits ≡ drop 100 last_digits_below_1000 → IsThousand 100 digits
hundreds digits is =
    let long : length digits ≡ 900 = ap length is ∙ table_long 100 in
    record {
      least_fits = omega arith;
      few = omega (arith, long);
      ends = λ k within.
          let at : get_or digits k [] ≡ last_digits (100 + k) = ap (λ l. get_or l k []) is ∙ table_at 100 k (100 + k) refl (omega (arith, within, long)) in
          let four = ends_three (100 + k) (omega arith) (omega (arith, within, long)) in
          rw (at, first_digits_three 100 (omega arith) (omega arith)) four;
    }

-- the last three digits of a number within a thousand
same_three : (least k : ℕ) → least % 1000 ≡ 0 → last_digits (least + k) ≡ last_digits k
same_three least k even =
    let a : (least + k) / 100 % 10 ≡ k / 100 % 10 = omega (arith, even) in
    let b : (least + k) / 10 % 10 ≡ k / 10 % 10 = omega (arith, even) in
    let c : (least + k) % 10 ≡ k % 10 = omega (arith, even) in
    rw (a, b, c) refl

pub thousand : (least : ℕ) (digits : List (List ℕ)) → 1000 ≤ least → least < 2 ^ 63 → least % 1000 ≡ 0
    → digits ≡ drop 0 last_digits_below_1000 → IsThousand least digits
thousand least digits low fits even is =
    let long : length digits ≡ 1000 = ap length is ∙ table_long 0 in
    record {
      least_fits = fits;
      few = omega (arith, long);
      ends = λ k within.
          let at : get_or digits k [] ≡ last_digits (least + k) =
          ap (λ l. get_or l k []) is ∙ (table_at 0 k k (omega arith) (omega (arith, within, long)) ∙ sym (same_three least k even)) in
          let same : least / 1000 ≡ (least + k) / 1000 = omega (arith, even, within, long) in
          let first : first_digits least ≡ decimal ((least + k) / 1000) = first_digits_more least low (omega (arith, fits)) ∙ ap decimal same in
          rw at (ends_more (least + k) (first_digits least) (omega (arith, low)) (omega (arith, fits, within, long)) first);
    }
