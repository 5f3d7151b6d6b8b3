-- Where sequences of pieces end, seen from an index where one does.
use Rattle.std.proofs.Common.{◌≡◌, ℕ, zero, suc, ◌+◌, ◌-◌, ◌/◌, ◌<◌, ◌≤◌, Bool, true, false, ◌&&◌, if◌then◌else◌, List, length, take, drop, get_or, refl, sym, ap, ◌∙◌, subst, arith}
use Rattle.std.specs.Prelude.{slice_index, nat_le}
use Rattle.std.specs.Char.{is_whitespace}
use Rattle.std.proofs.lemmas.Bool.{cond-true, cond-false}
use Rattle.std.proofs.lemmas.List.{get_or-drop}
use Rattle.lic_kind.specs.LineRules.{LineRules}
use Rattle.lic_trim.specs.Beginnings.{HasBegun}
use Rattle.lic_trim.specs.PieceLengths.{has_bit}
use Rattle.lic_trim.specs.Spaces.{AreSpaces}
use Rattle.lic_trim.specs.Texts.{is_sequence, longest_front}
use Rattle.lic_trim.specs.Walks.{Side, is_walked_piece}
use Rattle.lic_trim.proofs.PieceLengths.{only_first, has_bit_half, next_without}
use Rattle.lic_trim.proofs.SequenceIndices.{AreEnds, next_ends, start_ends, ends_next, blank_ends, all_ends, no_more_ends}

-- a sequence ends here, and bit d says whether one ends d indices on
pub record AreEndsFrom (p : List ℕ → Bool) (way : List ℕ) (at ends : ℕ) : Type 0 where
  pub are : AreEnds p way at ends at
  pub here : has_bit ends 0 ≡ true

-- the longest one so far ends here
pub from_here : (p : List ℕ → Bool) (way : List ℕ) (at ends longest : ℕ) → AreEnds p way at ends longest → has_bit ends 0 ≡ true → AreEndsFrom p way at ends
from_here p way at ends longest are here =
    let start : at + 0 ≡ at = omega arith in
    let sound = are.sound 0 here in
    record {
      are = record {
        sound = are.sound;
        marked = are.marked;
        first = are.first;
        before = λ m low sequence. omega arith;
        sequence = ap (λ k. is_sequence p (take k way)) (sym start) ∙ sound.1;
        within = omega (arith, sound.0);
        past = omega arith;
      };
      here = here;
    }

-- after white space that no text begins in
module _ (rules : LineRules) (side : Side) (way : List ℕ) (n : ℕ) (spaces : AreSpaces way n)
    (closed : (rest : List ℕ) → is_whitespace (slice_index rest 0) ≡ true → HasBegun rules side rest 0) where
  abbrev pieces : List ℕ → Bool
  pieces = is_walked_piece rules side

  up_to : (k : ℕ) → k ≤ n → AreEndsFrom pieces way k 1
  up_to zero le = record { are = start_ends pieces way 1 only_first refl; here = refl }
  up_to (suc k) le =
      let next : k + 1 ≡ suc k = omega arith in
      let start : k + 0 ≡ k = omega arith in
      let white = spaces.all k (omega arith) in
      let first : is_whitespace (get_or (drop k way) 0 0) ≡ true = ap is_whitespace (get_or-drop k way 0 0 ∙ ap (slice_index way) start) ∙ white in
      subst (λ m. AreEndsFrom pieces way m 1) next
      (from_here pieces way (k + 1) 1 k
      (blank_ends rules side way k k (up_to k (omega arith)).are (omega (arith, spaces.within)) white (closed (drop k way) first)) refl)

  pub after_spaces : AreEndsFrom pieces way n 1
  after_spaces = up_to n (omega arith)

-- one more white space character
pub one_space : (rules : LineRules) (side : Side) (way : List ℕ) (at : ℕ) → AreEndsFrom (is_walked_piece rules side) way at 1 → at < length way
    → is_whitespace (slice_index way at) ≡ true
    → ((rest : List ℕ) → is_whitespace (slice_index rest 0) ≡ true → HasBegun rules side rest 0) → AreEndsFrom (is_walked_piece rules side) way (at + 1) 1
one_space rules side way at from inside white closed =
    let start : at + 0 ≡ at = omega arith in
    let first : is_whitespace (get_or (drop at way) 0 0) ≡ true = ap is_whitespace (get_or-drop at way 0 0 ∙ ap (slice_index way) start) ∙ white in
    from_here (is_walked_piece rules side) way (at + 1) 1 at (blank_ends rules side way at at from.are inside white (closed (drop at way) first)) refl

-- ---- on to the next index where one ends

-- the same ends
same_ends : (p : List ℕ → Bool) (way : List ℕ) (at ends new longest : ℕ) → AreEnds p way at ends longest → ((d : ℕ) → has_bit new d ≡ has_bit ends d)
    → AreEnds p way at new longest
same_ends p way at ends new longest are same = record {
  sound = λ d bit. are.sound d (sym (same d) ∙ bit);
  marked = λ j m low high fits sequence piece. same (m - at) ∙ are.marked j m low high fits sequence piece;
  first = λ none. same 0 ∙ are.first none;
  before = are.before;
  sequence = are.sequence;
  within = are.within;
  past = are.past;
}

-- the ends so many indices on, where none is before
skipped : (p : List ℕ → Bool) (way : List ℕ) (longest k at ends new : ℕ) → AreEnds p way at ends longest → ((d : ℕ) → d < k → has_bit ends d ≡ false)
    → at + k ≤ length way → ((d : ℕ) → has_bit new d ≡ has_bit ends (k + d)) → AreEnds p way (at + k) new longest
skipped p way longest zero at ends new are none fits same =
    let index : at ≡ at + 0 = omega arith in
    subst (λ m. AreEnds p way m new longest) index
    (same_ends p way at ends new longest are (λ d. let last : 0 + d ≡ d = omega arith in same d ∙ ap (has_bit ends) last))
skipped p way longest (suc k) at ends new are none fits same =
    let off : has_bit ends 0 ≡ false = none 0 (omega arith) in
    let stays : (if has_bit ends 0 then at else longest) ≡ longest = cond-false (has_bit ends 0) at longest off in
    let one : AreEnds p way (at + 1) (ends / 2) longest =
    subst (AreEnds p way (at + 1) (ends / 2)) stays
    (ends_next p way at ends longest are (omega arith) (ends / 2)
    (λ d. next_without ends (nat_le (suc d) (length (drop at way)) && p (take (suc d) (drop at way))) d off)) in
    let index : at + 1 + k ≡ at + suc k = omega arith in
    subst (λ m. AreEnds p way m new longest) index
    (skipped p way longest k (at + 1) (ends / 2) new one
    (λ d lt. has_bit_half ends d ∙ none (suc d) (omega arith))
    (omega arith)
    (λ d. let further : suc k + d ≡ suc (k + d) = omega arith in
    same d ∙ ap (has_bit ends) further ∙ sym (has_bit_half ends (k + d))))

module _ (p : List ℕ → Bool) (way : List ℕ) (at ends : ℕ) (from : AreEndsFrom p way at ends) (inside : at < length way) (next : ℕ)
    (is : (d : ℕ) → has_bit next d ≡ next_ends p way at ends d) where
  later : AreEnds p way (at + 1) next at
  later =
      subst (AreEnds p way (at + 1) next) (cond-true (has_bit ends 0) at at from.here)
      (ends_next p way at ends at from.are inside next is)

  pub none_later : next ≡ 0 → at ≡ longest_front (is_sequence p) way
  none_later none = no_more_ends p way (at + 1) next at later none

  pub next_here : (step rest : ℕ) → has_bit rest 0 ≡ true → ((d : ℕ) → has_bit rest d ≡ has_bit next (step + d)) → ((d : ℕ) → d < step → has_bit next d ≡ false)
      → AreEndsFrom p way (at + (1 + step)) rest
  next_here step rest here same none =
      let last : step + 0 ≡ step = omega arith in
      let index : at + 1 + step ≡ at + (1 + step) = omega arith in
      let fits = (later.sound step (ap (has_bit next) (sym last) ∙ sym (same 0) ∙ here)).0 in
      subst (λ m. AreEndsFrom p way m rest) index
      (from_here p way (at + 1 + step) rest at (skipped p way at step (at + 1) next rest later none fits same) here)

-- ---- at the end of the way
pub at_end : (p : List ℕ → Bool) (way : List ℕ) (at ends : ℕ) → AreEndsFrom p way at ends → at ≡ length way → at ≡ longest_front (is_sequence p) way
at_end p way at ends from whole = sym (cond-true (has_bit ends 0) at at from.here) ∙ all_ends p way at ends at from.are whole
