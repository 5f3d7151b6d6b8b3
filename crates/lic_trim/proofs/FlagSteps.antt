-- One more flag.
use Rattle.std.proofs.Common.{◌≡◌, ℕ, ◌+◌, ◌<◌, ◌≤◌, Bool, true, false, cond, List, [], ◌∷◌, ◌++◌, length, take, refl, sym, ap, ◌∙◌, subst, ⊎_elim, arith, add-one}
use Rattle.std.specs.Prelude.{slice_index_or}
use Rattle.std.proofs.lemmas.Bool.{cases_lt}
use Rattle.std.proofs.lemmas.List.{get_or_append_left, get_or_push, length_push}
use Rattle.lic_trim.specs.Texts.{is_sequence, greatest}
use Rattle.lic_trim.specs.Walks.{ends_piece, AreSequences, IsStreakFront}
use Rattle.lic_trim.proofs.SequenceLemmas.{sequence_ends, sequence_continues}
use Rattle.lic_trim.proofs.TextLemmas.{same_truth}
use Rattle.lic_trim.proofs.PieceEnds.{ends-true, ends-from}

-- whether a front is a sequence is what the test of its last piece says
pub sequence_value : (p : List ℕ → Bool) (flags : List Bool) (line : List ℕ) (n : ℕ) → AreSequences p flags line → 0 < n
    → n ≤ length flags → n ≤ length line → ends_piece p flags line n ≡ is_sequence p (take n line)
sequence_value p flags line n sequences some flagged within = same_truth _ _
    (λ h.
    let e = ends-true flags line n p h in
    let below : e.from < n = e.below in
    sequence_continues p line e.from n (omega arith) (sym (sequences.each e.from (omega arith)) ∙ e.flagged) e.piece)
    (λ h.
    let e = sequence_ends p line n some within h in
    let below : e.0 < n = e.1 in
    ends-from flags line n p (record { from = e.0; below = e.1; flagged = sequences.each e.0 (omega arith) ∙ e.2; piece = e.3 }))

pub sequences_push : (p : List ℕ → Bool) (flags : List Bool) (line : List ℕ) (n : ℕ) (b : Bool) → AreSequences p flags line
    → 0 < n → length flags ≡ n → n ≤ length line → b ≡ ends_piece p flags line n → AreSequences p (flags ++ b ∷ []) line
sequences_push p flags line n b sequences some flagged within value = record {
  each = λ i lt.
      let long = length_push flags b in
      ⊎_elim
      (λ low. get_or_append_left flags (b ∷ []) false i low ∙ sequences.each i low)
      (λ high.
      let last : i ≡ n = omega arith in
      get_or_push flags b false i (omega arith) ∙ value ∙ sequence_value p flags line n sequences some (omega arith) within ∙ ap (λ m. is_sequence p (take m line)) (sym last))
      (cases_lt i (length flags));
}

pub front_push : (flags : List Bool) (line : List ℕ) (n first : ℕ) (b : Bool) → n ≤ length flags
    → IsStreakFront flags line n first → IsStreakFront (flags ++ b ∷ []) line n first
front_push flags line n first b within front = record {
  within = front.within;
  same = front.same;
  flagged = λ lt. get_or_append_left flags (b ∷ []) false first (omega arith) ∙ front.flagged lt;
  least = λ j low high flag. front.least j low high (sym (get_or_append_left flags (b ∷ []) false j (omega arith)) ∙ flag);
}

pub greatest_more : (test : ℕ → Bool) (k : ℕ) → greatest test (k + 1) ≡ cond (test (k + 1)) (k + 1) (greatest test k)
greatest_more test k = ap (greatest test) (add-one k) ∙ ap (λ n. cond (test n) n (greatest test k)) (sym (add-one k))

-- before the first index
pub sequences_start : (p : List ℕ → Bool) (line : List ℕ) → AreSequences p (true ∷ []) line
sequences_start p line = record {
  each = λ k lt. let first : 0 ≡ k = omega arith in
      subst (λ n. slice_index_or (true ∷ []) n false ≡ is_sequence p (take n line)) first refl;
}

pub front_start : (flags : List Bool) (line : List ℕ) → IsStreakFront flags line 0 0
front_start flags line = record {
  within = omega arith;
  same = λ i low high. absurd (omega arith);
  flagged = λ lt. absurd (omega arith);
  least = λ j low high flag. absurd (omega arith);
}
