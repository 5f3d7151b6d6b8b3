-- The indices where sequences of pieces end, from one to the next.
use Rattle.std.proofs.Common.{◌≡◌, ℕ, zero, suc, ◌+◌, ◌-◌, ◌<◌, ◌≤◌, Bool, true, false, ◌&&◌, ◌||◌, if◌then◌else◌, ◌==◌, List, length, take, drop, get_or, refl, sym, ap, ◌∙◌, subst, ⊎_elim, arith}
use Rattle.std.specs.Prelude.{slice_range, slice_index, nat_le}
use Rattle.std.specs.Char.{is_whitespace}
use Rattle.std.proofs.lemmas.Bool.{false≢true, and_parts, and_from, or_cases, or_left, or_right, cases_Bool, cases_lt, cond-true, cond-false, leb-true, le-leb}
use Rattle.std.proofs.lemmas.List.{length-drop, get_or-drop}
use Rattle.lic_kind.specs.Kinds.{kind_of, is_mark_kind}
use Rattle.lic_kind.specs.LineRules.{LineRules}
use Rattle.lic_kind.proofs.KindLemmas.{kind_of-white}
use Rattle.lic_trim.specs.Beginnings.{HasBegun}
use Rattle.lic_trim.specs.PieceLengths.{has_bit, AreLengths}
use Rattle.lic_trim.specs.Texts.{is_sequence, greatest, longest_front}
use Rattle.lic_trim.specs.Walks.{Side, is_walked_piece}
use Rattle.lic_trim.proofs.PieceLengths.{has_bit_zero, or-false, space_bit, space_lengths, next_with}
use Rattle.lic_trim.proofs.SeparatorLengths.{bits_of_word}
use Rattle.lic_trim.proofs.SequenceLemmas.{sequence_ends, sequence_continues}
use Rattle.lic_trim.proofs.TailSequences.{greatest_stays}

-- bit d says whether a sequence ends d indices on from here, where all sequences that end before are followed
pub record AreEnds (p : List ℕ → Bool) (way : List ℕ) (at ends longest : ℕ) : Type 0 where
  pub sound : (d : ℕ) → has_bit ends d ≡ true → (at + d ≤ length way) × (is_sequence p (take (at + d) way) ≡ true)
  pub marked : (j m : ℕ) → j < at → at ≤ m → m ≤ length way → is_sequence p (take j way) ≡ true → p (slice_range way j m) ≡ true → has_bit ends (m - at) ≡ true
  pub first : at ≡ 0 → has_bit ends 0 ≡ true
  pub before : (m : ℕ) → m < at → is_sequence p (take m way) ≡ true → m ≤ longest
  pub sequence : is_sequence p (take longest way) ≡ true
  pub within : longest ≤ length way
  pub past : longest ≤ at

-- the ends one index on: those that were known, and where a sequence ends here those of the pieces that are here
abbrev pub next_ends : (List ℕ → Bool) → List ℕ → ℕ → ℕ → ℕ → Bool
next_ends p way at ends d = has_bit ends (suc d) || (has_bit ends 0 && (nat_le (suc d) (length (drop at way)) && p (take (suc d) (drop at way))))

pub start_ends : (p : List ℕ → Bool) (way : List ℕ) (ends : ℕ) → ((d : ℕ) → has_bit ends d ≡ true → d ≡ 0) → has_bit ends 0 ≡ true → AreEnds p way 0 ends 0
start_ends p way ends only one = record {
  sound = λ d h. let none : d ≡ 0 = only d h in (omega arith, ap (λ k. is_sequence p (take (0 + k) way)) none);
  marked = λ j m low. absurd (omega arith);
  first = λ e. one;
  before = λ m low. absurd (omega arith);
  sequence = refl;
  within = omega arith;
  past = omega arith;
}

module _ (p : List ℕ → Bool) (way : List ℕ) (at ends longest : ℕ) (are : AreEnds p way at ends longest) where
  -- a sequence that ends here is known
  here : at ≤ length way → is_sequence p (take at way) ≡ true → has_bit ends 0 ≡ true
  here within sequence =
      ⊎_elim
      (λ some. let e = sequence_ends p way at some within sequence in
      let none : at - at ≡ 0 = omega arith in
      ap (has_bit ends) (sym none) ∙ are.marked e.0 at e.1 (omega arith) within e.2 e.3)
      (λ start. are.first (omega arith))
      (cases_lt 0 at)

  module _ (inside : at < length way) (next : ℕ) (is : (d : ℕ) → has_bit next d ≡ next_ends p way at ends d) where
    long : length (drop at way) ≡ length way - at
    long = length-drop at way

    piece_end : (d : ℕ) → has_bit ends 0 ≡ true → (nat_le (suc d) (length (drop at way)) && p (take (suc d) (drop at way))) ≡ true
        → (at + 1 + d ≤ length way) × (is_sequence p (take (at + 1 + d) way) ≡ true)
    piece_end d bit h =
        let parts = and_parts (nat_le (suc d) (length (drop at way))) (p (take (suc d) (drop at way))) h in
        let fits : suc d ≤ length (drop at way) = leb-true (suc d) (length (drop at way)) parts.0 in
        let start : at + 0 ≡ at = omega arith in
        let size : suc d ≡ at + 1 + d - at = omega arith in (
          omega (arith, long),
          sequence_continues p way at (at + 1 + d) (omega arith) (ap (λ k. is_sequence p (take k way)) (sym start) ∙ (are.sound 0 bit).1)
              (ap (λ n. p (take n (drop at way))) (sym size) ∙ parts.1),
        )

    sound_next : (d : ℕ) → has_bit next d ≡ true → (at + 1 + d ≤ length way) × (is_sequence p (take (at + 1 + d) way) ≡ true)
    sound_next d h =
        let index : at + suc d ≡ at + 1 + d = omega arith in
        ⊎_elim
        (λ old. subst (λ m. (m ≤ length way) × (is_sequence p (take m way) ≡ true)) index (are.sound (suc d) old))
        (λ new. let parts = and_parts (has_bit ends 0) (nat_le (suc d) (length (drop at way)) && p (take (suc d) (drop at way))) new in piece_end d parts.0 parts.1)
        (or_cases (has_bit ends (suc d)) (has_bit ends 0 && (nat_le (suc d) (length (drop at way)) && p (take (suc d) (drop at way)))) (sym (is d) ∙ h))

    marked_next : (j m : ℕ) → j < at + 1 → at + 1 ≤ m → m ≤ length way → is_sequence p (take j way) ≡ true → p (slice_range way j m) ≡ true
        → has_bit next (m - (at + 1)) ≡ true
    marked_next j m low high fits sequence piece =
        let d = m - (at + 1) in
        let size : suc d ≡ m - at = omega arith in
        is d ∙ ⊎_elim
        (λ old. or_left (has_bit ends (suc d)) _ (ap (has_bit ends) size ∙ are.marked j m old (omega arith) fits sequence piece))
        (λ new. let same : j ≡ at = omega arith in
        or_right (has_bit ends (suc d)) _
        (and_from (has_bit ends 0) _ (here (omega arith) (ap (λ k. is_sequence p (take k way)) (sym same) ∙ sequence))
        (and_from (nat_le (suc d) (length (drop at way))) (p (take (suc d) (drop at way))) (le-leb (suc d) (length (drop at way)) (omega (arith, long)))
        (ap (λ n. p (take n (drop at way))) size ∙ ap (λ k. p (slice_range way k m)) (sym same) ∙ piece))))
        (cases_lt j at)

    abbrev latest : ℕ
    latest = if has_bit ends 0 then at else longest

    pub ends_next : AreEnds p way (at + 1) next latest
    ends_next = ⊎_elim
        (λ yes. let is_at : latest ≡ at = cond-true (has_bit ends 0) at longest yes in
        let start : at + 0 ≡ at = omega arith in
        record {
          sound = sound_next;
          marked = marked_next;
          first = λ e. absurd (omega arith);
          before = λ m low sequence. omega arith;
          sequence = ap (λ k. is_sequence p (take k way)) (is_at ∙ sym start) ∙ (are.sound 0 yes).1;
          within = omega (arith, is_at);
          past = omega (arith, is_at);
        })
        (λ no. let is_longest : latest ≡ longest = cond-false (has_bit ends 0) at longest no in
        record {
          sound = sound_next;
          marked = marked_next;
          first = λ e. absurd (omega arith);
          before = λ m low sequence. ⊎_elim
              (λ old. let old_is : m ≤ longest = are.before m old sequence in omega (arith, is_longest))
              (λ new. let same : m ≡ at = omega arith in absurd (false≢true (sym no ∙ here (omega arith) (ap (λ k. is_sequence p (take k way)) (sym same) ∙ sequence))))
              (cases_lt m at);
          sequence = ap (λ k. is_sequence p (take k way)) is_longest ∙ are.sequence;
          within = omega (arith, is_longest, are.within);
          past = omega (arith, is_longest, are.past);
        })
        (cases_Bool (has_bit ends 0))

  greatest_is : (k : ℕ) → k ≤ length way → is_sequence p (take k way) ≡ true → ((m : ℕ) → k < m → m ≤ length way → is_sequence p (take m way) ≡ false)
      → k ≡ longest_front (is_sequence p) way
  greatest_is k within sequence none = sym (greatest_stays (λ m. is_sequence p (take m way)) k (length way) within none ∙ itself (λ m. is_sequence p (take m way)) k sequence)
    where
      itself : (test : ℕ → Bool) (k : ℕ) → test k ≡ true → greatest test k ≡ k
      itself test zero h = refl
      itself test (suc k) h = cond-true (test (suc k)) (suc k) (greatest test k) h

  -- where nothing ends any more
  none_beyond : ends ≡ 0 → (bound m : ℕ) → m ≤ bound → longest < m → m ≤ length way → is_sequence p (take m way) ≡ false
  none_beyond none zero m le more fits = absurd (omega arith)
  none_beyond none (suc bound) m le more fits = ⊎_elim
      (λ yes. absurd (⊎_elim
      (λ old. let low : m ≤ longest = are.before m old yes in omega arith)
      (λ high.
      let no_bit = λ (d : ℕ). ap (λ n. has_bit n d) none ∙ has_bit_zero d in
      let e = sequence_ends p way m (omega arith) fits yes in
      ⊎_elim
      (λ old. false≢true (sym (no_bit (m - at)) ∙ are.marked e.0 m old high fits e.2 e.3))
      (λ new.
      let below : e.0 < m = e.1 in
      ⊎_elim
      (λ further. false≢true (sym (none_beyond none bound e.0 (omega arith) further (omega arith)) ∙ e.2))
      (λ same. let start : e.0 ≡ at = omega (arith, are.past) in
      false≢true (sym (no_bit 0) ∙ here (omega arith) (ap (λ k. is_sequence p (take k way)) (sym start) ∙ e.2)))
      (cases_lt longest e.0))
      (cases_lt e.0 at))
      (cases_lt m at)))
      (λ no. no)
      (cases_Bool (is_sequence p (take m way)))

  pub no_more_ends : ends ≡ 0 → longest ≡ longest_front (is_sequence p) way
  no_more_ends none = greatest_is longest are.within are.sequence (λ m more fits. none_beyond none m m (omega arith) more fits)

  -- and at the end of the way
  pub all_ends : at ≡ length way → (if has_bit ends 0 then at else longest) ≡ longest_front (is_sequence p) way
  all_ends whole = ⊎_elim
      (λ yes. let start : at + 0 ≡ at = omega arith in
      cond-true (has_bit ends 0) at longest yes
      ∙ greatest_is at (omega arith) (ap (λ k. is_sequence p (take k way)) (sym start) ∙ (are.sound 0 yes).1) (λ m more fits. absurd (omega arith)))
      (λ no. cond-false (has_bit ends 0) at longest no
      ∙ greatest_is longest are.within are.sequence (λ m more fits. ⊎_elim
      (λ yes. absurd (⊎_elim
      (λ old. let low : m ≤ longest = are.before m old yes in omega arith)
      (λ high. let same : m ≡ at = omega arith in false≢true (sym no ∙ here (omega arith) (ap (λ k. is_sequence p (take k way)) (sym same) ∙ yes)))
      (cases_lt m at)))
      (λ none. none)
      (cases_Bool (is_sequence p (take m way)))))
      (cases_Bool (has_bit ends 0))

-- where white space is, and no text begins with it, the one end goes on
pub blank_ends : (rules : LineRules) (side : Side) (way : List ℕ) (at longest : ℕ) → AreEnds (is_walked_piece rules side) way at 1 longest → at < length way
    → is_whitespace (slice_index way at) ≡ true → HasBegun rules side (drop at way) 0
    → AreEnds (is_walked_piece rules side) way (at + 1) 1 at
blank_ends rules side way at longest are inside white closed =
    let p = is_walked_piece rules side in
    let rest = drop at way in
    let long = length-drop at way in
    let start : at + 0 ≡ at = omega arith in
    let first : get_or rest 0 0 ≡ slice_index way at = get_or-drop at way 0 0 ∙ ap (slice_index way) start in
    let light : is_whitespace (get_or rest 0 0) ≡ true = ap is_whitespace first ∙ white in
    let no_mark : is_mark_kind (kind_of (get_or rest 0 0)) ≡ false = ap is_mark_kind (kind_of-white (get_or rest 0 0) light) in
    let lengths : AreLengths rules side rest 2 =
    space_lengths rules side rest 2 (omega (arith, long)) closed
    (λ n. space_bit n ∙ ap (λ b. b && (n == 1)) (sym light)
    ∙ sym (or-false (is_whitespace (get_or rest 0 0) && (n == 1)))
    ∙ ap (λ b. (is_whitespace (get_or rest 0 0) && (n == 1)) || b) (sym (has_bit_zero n) ∙ bits_of_word rest rules.separators no_mark n)) in
    ends_next p way at 1 longest are inside 1
    (λ d. next_with 1 2 (nat_le (suc d) (length rest) && p (take (suc d) rest)) d refl (lengths.each (suc d) (omega arith)))
