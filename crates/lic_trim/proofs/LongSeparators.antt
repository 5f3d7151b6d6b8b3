-- In a long separator sequences end at all indices from the third on, and no other piece leads out of it but from its last indices.
use Rattle.std.proofs.Common.{◌≡◌, ℕ, zero, suc, ◌+◌, ◌-◌, ◌<◌, ◌≤◌, Bool, true, ◌&&◌, ◌||◌, ◌==◌, List, [], ◌∷◌, length, take, get_or, reverse, inl, inr, refl, sym, ap, ◌∙◌, arith}
use Rattle.std.specs.Prelude.{slice_range, slice_index, slice_index_or, bytes_eq}
use Rattle.std.specs.List.{list_any}
use Rattle.std.specs.Char.{is_whitespace}
use Rattle.std.proofs.lemmas.Bool.{false≢true, and_parts, and_from, or_cases, or_left, or_right, cases_lt, eqb-true}
use Rattle.std.proofs.lemmas.List.{length-reverse, get_or-reverse, reverse-reverse}
use Rattle.std.proofs.lemmas.Nat.Bits.{bit_at_ones, bit_at_ones_above}
use Rattle.std.proofs.lemmas.Slice.Eq.{bytes_eq-Decides}
use Rattle.lic_kind.specs.LineRules.{LineRules}
use Rattle.lic_trim.specs.Leaps.{IsLeap}
use Rattle.lic_trim.specs.Lines.{is_space, is_separator, repeats}
use Rattle.lic_trim.specs.PieceLengths.{has_bit}
use Rattle.lic_trim.specs.Texts.{is_sequence, ends_in}
use Rattle.lic_trim.specs.Walks.{Side, walked, is_walked_piece, side_texts, side_spaced, side_repeated}
use Rattle.lic_trim.proofs.KindEnds.{space_parts}
use Rattle.lic_trim.proofs.PieceLengths.{only_first}
use Rattle.lic_trim.proofs.PieceEnds.{length_part, slice_at, separator_parts, separator_from}
use Rattle.lic_trim.proofs.SequenceLemmas.{sequence_continues}
use Rattle.lic_trim.proofs.SequenceIndices.{AreEnds}
use Rattle.lic_trim.proofs.SideEnds.{walked_piece}
use Rattle.lic_trim.proofs.Stops.{any_some, ends_in-length}
use Rattle.lic_trim.proofs.Walking.{length-walked}

-- ---- a text with its first character once or more

-- it begins with that character as often as it is longer, and once more
repeats_first : (c : ℕ) (rest y : List ℕ) → repeats (c ∷ rest) y ≡ true
    → (length rest < length y) × ((i : ℕ) → i + length rest < length y → get_or y i 0 ≡ c)
repeats_first c rest [] h = absurd (false≢true h)
repeats_first c rest (d ∷ y) h =
    let parts = and_parts (d == c) (bytes_eq rest y || repeats (c ∷ rest) y) h in
    let first : d ≡ c = eqb-true d c parts.0 in
    elim (or_cases (bytes_eq rest y) (repeats (c ∷ rest) y) parts.1) [
      | inl once ↦
          let many : length rest ≡ length y = ap length ((bytes_eq-Decides rest y).0 once) in
          (omega arith, only first many)
      | inr more ↦
          let known = repeats_first c rest y more in
          (omega (arith, known.0), each first known.1)
    ]
  where
    only : d ≡ c → length rest ≡ length y → (i : ℕ) → i + length rest < suc (length y) → get_or (d ∷ y) i 0 ≡ c
    only first many zero lt = first
    only first many (suc i) lt = absurd (omega arith)

    each : d ≡ c → ((i : ℕ) → i + length rest < length y → get_or y i 0 ≡ c) → (i : ℕ) → i + length rest < suc (length y) → get_or (d ∷ y) i 0 ≡ c
    each first known zero lt = first
    each first known (suc i) lt = known i (omega arith)

-- seen from its end it goes on with one same character from the last of the text on
repeats_last : (t x : List ℕ) → repeats t (reverse x) ≡ true
    → (0 < length t) × (length t ≤ length x) × ((i k : ℕ) → length t ≤ i + 1 → i < length x → length t ≤ k + 1 → k < length x → get_or x i 0 ≡ get_or x k 0)
repeats_last [] x h = absurd (false≢true h)
repeats_last (c ∷ rest) x h =
    let known = repeats_first c rest (reverse x) h in
    let many : length (reverse x) ≡ length x = length-reverse x in
    let long : length rest < length (reverse x) = known.0 in
    let is = λ (i : ℕ) (low : suc (length rest) ≤ i + 1) (high : i < length x).
    let index : length (reverse x) - 1 - (length x - 1 - i) ≡ i = omega (arith, many) in
    sym (ap (λ l. get_or l i 0) (reverse-reverse x)) ∙ at i low high in
    (omega arith, omega (arith, many), λ i k low high low' high'. is i low high ∙ sym (is k low' high'))
  where
    at : (i : ℕ) → suc (length rest) ≤ i + 1 → i < length x → get_or (reverse (reverse x)) i 0 ≡ c
    at i low high =
        let known = repeats_first c rest (reverse x) h in
        let many : length (reverse x) ≡ length x = length-reverse x in
        get_or-reverse (reverse x) i 0 (omega (arith, many)) ∙ known.1 (length (reverse x) - 1 - i) (omega (arith, many))

module _ (rules : LineRules) (side : Side) (way : List ℕ) (at far all : ℕ) (is : IsLeap rules side way at far all) where
  abbrev p : List ℕ → Bool
  p = is_walked_piece rules side

  abbrev end : ℕ
  end = at + is.count

  -- from the third index on the part from here is a separator
  is_separator_to : (m : ℕ) → at + 3 ≤ m → m ≤ end → p (slice_range way at m) ≡ true
  is_separator_to m low high =
      let x = slice_range way at m in
      let long : length x ≡ m - at = length_part [] way m at (omega (arith, is.streak.within)) in
      let marks : is_separator x ≡ true =
      separator_from x (slice_index way at) is.streak.mark (omega (arith, long))
      (λ i lt. slice_at way at m i (omega (arith, long)) ∙ is.streak.same i (omega (arith, long))) in
      walked_piece rules side x
      ∙ or_left ((is_space x || (rules.separators && is_separator x)) || list_any (λ t. bytes_eq (walked side t) x) (side_texts rules side)) _
      (or_left (is_space x || (rules.separators && is_separator x)) _
      (or_right (is_space x) _ (and_from rules.separators (is_separator x) is.streak.separators marks)))

  -- a piece that begins before the last indices stays in the separator
  module _ (j m : ℕ) (low : at ≤ j) (high : j < far) (over : end < m) (within : m ≤ length way) where
    abbrev x : List ℕ
    x = slice_range way j m

    abbrev k : ℕ
    k = end - j

    size : length x ≡ m - j
    size = length_part [] way m j within

    first : (i : ℕ) → j + i < end → get_or x i 0 ≡ slice_index way at
    first i lt =
        let index : at + (j + i - at) ≡ j + i = omega arith in
        slice_at way j m i (omega arith) ∙ ap (slice_index way) (sym index) ∙ is.streak.same (j + i - at) (omega arith)

    other : get_or x k 0 ≡ slice_index way at → ⊥
    other same =
        let index : j + k ≡ end = omega (arith, is.end) in
        is.streak.stop (omega arith) (ap (slice_index way) (sym index) ∙ sym (slice_at way j m k (omega (arith, is.end))) ∙ same)

    never : p x ≡ true → ⊥
    never h =
        let texts = list_any (λ t. bytes_eq (walked side t) x) (side_texts rules side) in
        let spaced = list_any (λ t. ends_in is_whitespace (bytes_eq (walked side t)) x) (side_spaced rules side) in
        let repeated = list_any (λ t. repeats t (reverse x)) (side_repeated rules side) in
        let marks = rules.separators && is_separator x in
        elim (or_cases ((is_space x || marks) || texts) (spaced || repeated) (sym (walked_piece rules side x) ∙ h)) [
          | inl left ↦ elim (or_cases (is_space x || marks) texts left) [
            | inl blank ↦ elim (or_cases (is_space x) marks blank) [
              | inl space ↦ let parts = space_parts x space in omega (arith, ap length parts.1, size, is.end)
              | inr mark ↦
                  let parts = separator_parts x (and_parts rules.separators (is_separator x) mark).1 in
                  other (parts.3 k (omega (arith, size, is.end)) ∙ sym (parts.3 0 (omega (arith, size))) ∙ first 0 (omega (arith, is.end)))
            ]
            | inr text ↦
                let found = any_some (λ t. bytes_eq (walked side t) x) (side_texts rules side) [] text in
                let t = slice_index_or (side_texts rules side) found.0 [] in
                let fits : length t ≤ is.reach = is.short.texts found.0 [] found.1 in
                omega (arith, ap length ((bytes_eq-Decides (walked side t) x).0 found.2), length-walked side t, size, is.end)
          ]
          | inr right ↦ elim (or_cases spaced repeated right) [
            | inl space ↦
                let found = any_some (λ t. ends_in is_whitespace (bytes_eq (walked side t)) x) (side_spaced rules side) [] space in
                let t = slice_index_or (side_spaced rules side) found.0 [] in
                let fits : length t ≤ is.reach = is.short.spaced found.0 [] found.1 in
                omega (arith, ends_in-length is_whitespace (walked side t) x found.2, length-walked side t, size, is.end)
            | inr repeat ↦
                let found = any_some (λ t. repeats t (reverse x)) (side_repeated rules side) [] repeat in
                let t = slice_index_or (side_repeated rules side) found.0 [] in
                let fits : length t ≤ is.reach = is.short.repeated found.0 [] found.1 in
                let known = repeats_last t x found.2 in
                other (known.2 k (length t - 1) (omega (arith, is.end)) (omega (arith, size, is.end)) (omega (arith, known.0)) (omega (arith, known.0, size, is.end))
                ∙ first (length t - 1) (omega (arith, known.0, is.end)))
          ]
        ]

  pub leapt : (longest : ℕ) → AreEnds p way at 1 longest → AreEnds p way far all far
  leapt longest are =
      let start : at + 0 ≡ at = omega arith in
      let here : is_sequence p (take at way) ≡ true = ap (λ n. is_sequence p (take n way)) (sym start) ∙ (are.sound 0 refl).1 in
      let sequence_to = λ (m : ℕ) (low : at + 3 ≤ m) (high : m ≤ end).
      sequence_continues p way at m (omega arith) here (is_separator_to m low high) in
      record {
        sound = λ d bit. elim (cases_lt d (is.reach + 2)) [
          | inl inside ↦ (omega (arith, is.end, is.streak.within), sequence_to (far + d) (omega (arith, is.beyond)) (omega (arith, is.end)))
          | inr outside ↦ absurd (false≢true (sym (ap (λ n. has_bit n d) is.bits ∙ ap (λ n. n == 1) (bit_at_ones_above (is.reach + 2) d outside)) ∙ bit))
        ];
        marked = λ j m before after fits sequence piece.
            let stays : m ≤ end = elim (cases_lt end m) [
              | inl over ↦ elim (cases_lt j at) [
                | inl old ↦
                    let none : m - at ≡ 0 = only_first (m - at) (are.marked j m old (omega (arith, is.beyond)) fits sequence piece) in
                    absurd (omega (arith, none, is.end))
                | inr new ↦ absurd (never j m new before over fits piece)
              ]
              | inr fine ↦ fine
            ] in
            ap (λ n. has_bit n (m - far)) is.bits ∙ ap (λ n. n == 1) (bit_at_ones (is.reach + 2) (m - far) (omega (arith, is.end)));
        first = λ none. absurd (omega (arith, is.beyond));
        before = λ m low sequence. omega arith;
        sequence = sequence_to far is.beyond (omega (arith, is.end));
        within = omega (arith, is.end, is.streak.within);
        past = omega arith;
      }

  -- one ends at that index
  pub all_here : has_bit all 0 ≡ true
  all_here = ap (λ n. has_bit n 0) is.bits ∙ ap (λ n. n == 1) (bit_at_ones (is.reach + 2) 0 (omega arith))
