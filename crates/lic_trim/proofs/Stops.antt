-- Where no piece can begin at a sequence any more, nothing beyond is a sequence.
use Rattle.std.proofs.Common.{◌≡◌, ℕ, zero, suc, ◌+◌, ◌-◌, ◌<◌, ◌≤◌, Bool, true, false, ◌&&◌, ◌||◌, ◌==◌, ◌⊎◌, inl, inr, List, [], ◌∷◌, length, take, reverse, refl, sym, ap, ◌∙◌, subst, ⊎_elim, arith}
use Rattle.std.specs.Prelude.{slice_range, slice_index, slice_index_or, bytes_eq, nat_le}
use Rattle.std.specs.List.{list_any}
use Rattle.std.specs.Char.{is_whitespace}
use Rattle.std.proofs.lemmas.Bool.{false≢true, le-leb, and_parts, or_cases, or_left, or_right, cases_Bool, cases_lt}
use Rattle.std.proofs.lemmas.List.{length-reverse}
use Rattle.std.proofs.lemmas.Slice.Eq.{bytes_eq-Decides}
use Rattle.lic_trim.specs.Texts.{is_sequence, ends_in}
use Rattle.lic_kind.specs.Kinds.{kind_of, is_mark_kind}
use Rattle.lic_kind.specs.LineRules.{LineRules}
use Rattle.lic_trim.specs.Lines.{is_space, is_separator, repeats}
use Rattle.lic_trim.specs.Walks.{Side, walked, is_walked_piece, side_texts, side_spaced, side_repeated, AreSequences, IsStreakFront, AreShort}
use Rattle.lic_trim.proofs.PieceEnds.{length_part, slice_at, separator_parts}
use Rattle.lic_trim.proofs.KindEnds.{space_parts}
use Rattle.lic_trim.proofs.SideEnds.{walked_piece, repeats_more}
use Rattle.lic_trim.proofs.SequenceLemmas.{sequence_ends, sequence_continues}
use Rattle.lic_trim.proofs.Walking.{length-walked}

pub any_some : {A : Type 0} (test : A → Bool) (xs : List A) (d : A) → list_any test xs ≡ true
    → (k : ℕ) × (k < length xs) × (test (slice_index_or xs k d) ≡ true)
any_some test [] d h = absurd (false≢true h)
any_some test (x ∷ xs) d h =
    ⊎_elim
    (λ here. (0, omega arith, here))
    (λ later. let found = any_some test xs d later in let lt : found.0 < length xs = found.1 in (suc found.0, omega arith, found.2))
    (or_cases (test x) (list_any test xs) h)

pub any_from : {A : Type 0} (test : A → Bool) (xs : List A) (k : ℕ) (d : A) → k < length xs → test (slice_index_or xs k d) ≡ true → list_any test xs ≡ true
any_from test [] k d lt h = absurd (omega arith)
any_from test (x ∷ xs) zero d lt h = or_left (test x) (list_any test xs) h
any_from test (x ∷ xs) (suc k) d lt h = or_right (test x) (list_any test xs) (any_from test xs k d (omega arith) h)

-- what ends in an element has that and what is before it
pub ends_in-length : (last : ℕ → Bool) (t text : List ℕ) → ends_in last (bytes_eq t) text ≡ true → length text ≡ length t + 1
ends_in-length last t text h = at (reverse text) refl h
  where
    at : (backwards : List ℕ) → reverse text ≡ backwards
        → elim backwards as (λ _. Bool) [ [] ↦ false | c ∷ rest ↦ last c && bytes_eq t (reverse rest) ] ≡ true
        → length text ≡ length t + 1
    at [] same e = absurd (false≢true e)
    at (c ∷ rest) same e =
        let text_is : t ≡ reverse rest = (bytes_eq-Decides t (reverse rest)).0 (and_parts (last c) (bytes_eq t (reverse rest)) e).1 in
        omega (arith, ap length same, length-reverse text, ap length text_is, length-reverse rest)

-- no separator goes on beyond an index where its streak begins at no flagged index, or is of no mark
pub breaks_at : (flags : List Bool) (line : List ℕ) (k first : ℕ) → IsStreakFront flags line (k + 1) first
    → (nat_le first k && is_mark_kind (kind_of (slice_index line k))) ≡ false
    → IsStreakFront flags line (k + 1) (k + 1) ⊎ (is_mark_kind (kind_of (slice_index line (k + 1 - 1))) ≡ false)
breaks_at flags line k first front none =
    let here : k + 1 - 1 ≡ k = omega arith in
    let within : first ≤ k + 1 = front.within in
    ⊎_elim
    (λ low. inr (ap (λ i. is_mark_kind (kind_of (slice_index line i))) here
    ∙ sym (ap (λ b. b && is_mark_kind (kind_of (slice_index line k))) (le-leb first k (omega arith))) ∙ none))
    (λ high. let e : first ≡ k + 1 = omega arith in inl (subst (λ n. IsStreakFront flags line (k + 1) n) e front))
    (cases_lt first (k + 1))

module _ (rules : LineRules) (side : Side) (flags : List Bool) (line : List ℕ) (end longest reach : ℕ)
    (sequences : AreSequences (is_walked_piece rules side) flags line) (count : length flags ≡ end)
    (breaks : IsStreakFront flags line end end ⊎ (is_mark_kind (kind_of (slice_index line (end - 1))) ≡ false)) (short : AreShort rules side reach)
    (above : (m : ℕ) → longest < m → m < end → is_sequence (is_walked_piece rules side) (take m line) ≡ false) (far : reach + longest + 1 < end) where
  abbrev pub p : List ℕ → Bool
  p = is_walked_piece rules side

  -- a longer repetition is a piece one index before
  repeated_before : (m j : ℕ) (t : List ℕ) → end ≤ m + 1 → m + 1 ≤ length line → j ≤ longest → length t ≤ reach
      → repeats t (reverse (slice_range line j (m + 1))) ≡ true → repeats t (reverse (slice_range line j m)) ≡ true
  repeated_before m j [] past within low fits h = absurd (false≢true h)
  repeated_before m j (c ∷ rest) past within low fits h =
      let part = reverse (slice_range line j m) in
      let long : length part ≡ m - j = length-reverse (slice_range line j m) ∙ length_part flags line m j (omega arith) in
      let more = and_parts (slice_index line m == c) (bytes_eq rest part || repeats (c ∷ rest) part)
      (sym (repeats_more flags line m c rest (omega arith) j (omega arith)) ∙ h) in
      ⊎_elim
      (λ here. absurd (omega (arith, ap length ((bytes_eq-Decides rest part).0 here))))
      (λ before. before)
      (or_cases (bytes_eq rest part) (repeats (c ∷ rest) part) more.1)

  -- a piece from a sequence to an index beyond can only be a repetition
  piece_before : (m j : ℕ) → end ≤ m + 1 → m + 1 ≤ length line → j ≤ longest → slice_index_or flags j false ≡ true
      → p (slice_range line j (m + 1)) ≡ true → p (slice_range line j m) ≡ true
  piece_before m j past within low flag h =
      let x = slice_range line j (m + 1) in
      let y = slice_range line j m in
      let size : length x ≡ m + 1 - j = length_part flags line (m + 1) j within in
      let texts = list_any (λ t. bytes_eq (walked side t) x) (side_texts rules side) in
      let spaced = list_any (λ t. ends_in is_whitespace (bytes_eq (walked side t)) x) (side_spaced rules side) in
      let repeated = list_any (λ t. repeats t (reverse x)) (side_repeated rules side) in
      let marks = rules.separators && is_separator x in
      ⊎_elim
      (λ first. ⊎_elim
      (λ second. ⊎_elim
      (λ space. absurd (let parts = space_parts x space in omega (arith, ap length parts.1)))
      (λ mark.
      let parts = separator_parts x (and_parts rules.separators (is_separator x) mark).1 in
      let at = λ (i : ℕ) (from : j ≤ i) (to : i < m + 1).
      let off : j + (i - j) ≡ i = omega arith in
      sym (slice_at line j (m + 1) (i - j) (omega arith) ∙ ap (slice_index line) off) ∙ parts.3 (i - j) (omega arith) in
      let last = at (end - 1) (omega arith) (omega arith) in
      ⊎_elim
      (λ front.
      let other = front.least j (omega arith) (omega arith) flag in
      let below : other.0 < end = other.2 in
      absurd (other.3 (at other.0 other.1 (omega arith) ∙ sym last)))
      (λ plain.
      let here : is_mark_kind (kind_of (slice_index line (end - 1))) ≡ true = ap (λ d. is_mark_kind (kind_of d)) last ∙ parts.2 in
      absurd (false≢true (sym plain ∙ here)))
      breaks)
      (or_cases (is_space x) marks second))
      (λ text.
      let found = any_some (λ t. bytes_eq (walked side t) x) (side_texts rules side) [] text in
      let t = slice_index_or (side_texts rules side) found.0 [] in
      let fits : length t ≤ reach = short.texts found.0 [] found.1 in
      absurd (omega (arith, ap length ((bytes_eq-Decides (walked side t) x).0 found.2), length-walked side t)))
      (or_cases (is_space x || marks) texts first))
      (λ last. ⊎_elim
      (λ space.
      let found = any_some (λ t. ends_in is_whitespace (bytes_eq (walked side t)) x) (side_spaced rules side) [] space in
      let t = slice_index_or (side_spaced rules side) found.0 [] in
      let fits : length t ≤ reach = short.spaced found.0 [] found.1 in
      absurd (omega (arith, ends_in-length is_whitespace (walked side t) x found.2, length-walked side t)))
      (λ repeat.
      let found = any_some (λ t. repeats t (reverse x)) (side_repeated rules side) [] repeat in
      let t = slice_index_or (side_repeated rules side) found.0 [] in
      let fits : length t ≤ reach = short.repeated found.0 [] found.1 in
      walked_piece rules side y
      ∙ or_right ((is_space y || (rules.separators && is_separator y)) || list_any (λ u. bytes_eq (walked side u) y) (side_texts rules side)) _
      (or_right (list_any (λ u. ends_in is_whitespace (bytes_eq (walked side u)) y) (side_spaced rules side)) _
      (any_from (λ u. repeats u (reverse y)) (side_repeated rules side) found.0 [] found.1 (repeated_before m j t past within low fits found.2))))
      (or_cases spaced repeated last))
      (or_cases ((is_space x || marks) || texts) (spaced || repeated) (sym (walked_piece rules side x) ∙ h))

  beyond : (n m : ℕ) → m ≤ n → longest < m → m ≤ length line → is_sequence p (take m line) ≡ false
  beyond zero m le more within = absurd (omega arith)
  beyond (suc n) m le more within =
      ⊎_elim
      (λ before. above m more before)
      (λ past. ⊎_elim
      (λ yes.
      let e = sequence_ends p line m (omega arith) within yes in
      let j = e.0 in
      let below : j < m = e.1 in
      let low : j ≤ longest = ⊎_elim (λ high.
      absurd (false≢true (sym (beyond n j (omega arith) high (omega arith)) ∙ e.2))) (λ fine. fine)
      (cases_lt longest j) in
      let last : m - 1 + 1 ≡ m = omega arith in
      let piece = piece_before (m - 1) j (omega arith) (omega arith) low (sequences.each j (omega arith) ∙ e.2)
      (subst (λ i. p (slice_range line j i) ≡ true) (sym last) e.3) in
      absurd (false≢true (sym (beyond n (m - 1) (omega arith) (omega arith) (omega arith)) ∙ sequence_continues p line j (m - 1) (omega arith) e.2 piece)))
      (λ none. none)
      (cases_Bool (is_sequence p (take m line))))
      (cases_lt m end)

  pub nothing_beyond : (m : ℕ) → longest < m → m ≤ length line → is_sequence p (take m line) ≡ false
  nothing_beyond m more within = beyond m m (omega arith) more within
