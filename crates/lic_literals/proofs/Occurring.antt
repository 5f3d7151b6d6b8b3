-- Where a literal occurs in bytes, and in a part of them.
use Rattle.std.proofs.Common.{◌≡◌, ℕ, ◌+◌, ◌-◌, ◌<◌, ◌≤◌, List, length, take, drop, get_or, sym, ap, ◌∙◌, subst, arith}
use Rattle.std.specs.Prelude.{slice_range}
use Rattle.std.proofs.lemmas.List.{length-drop, length-take, get_or-take, get_or-drop}
use Rattle.memchr.specs.Find.{OccursAt}
use Rattle.memchr.proofs.lemmas.MatchLemmas.{OccursAt-from_part, OccursAt-part}
use Rattle.lic_literals.specs.Ends.{EndsAt}

module _ (bytes literal : List ℕ) where
  -- bytes that are between two offsets are within the bytes, if there are any
  range_fits : (p q : ℕ) → 0 < length literal → q ≡ p + length literal → slice_range bytes p q ≡ literal → q ≤ length bytes
  range_fits p q some at is =
      let size : length (slice_range bytes p q) ≡ length literal = ap length is in
      let dropped : length (drop p bytes) ≡ length bytes - p = length-drop p bytes in
      omega (arith, length-take (q - p) (drop p bytes), size, dropped)

  pub EndsAt-from_range : (p q : ℕ) → 0 < length literal → q ≡ p + length literal → slice_range bytes p q ≡ literal → EndsAt bytes literal q
  EndsAt-from_range p q some at is = record { start = p; end = at; within = range_fits p q some at is; is = is }

  pub EndsAt-range : (p q : ℕ) → EndsAt bytes literal q → q ≡ p + length literal → slice_range bytes p q ≡ literal
  EndsAt-range p q ends at =
      let same : ends.start ≡ p = omega (arith, ends.end) in
      subst (λ s. slice_range bytes s q ≡ literal) same ends.is

  -- in memchr's word
  pub OccursAt-from_end : (p q : ℕ) → EndsAt bytes literal q → q ≡ p + length literal → OccursAt bytes literal p
  OccursAt-from_end p q ends at =
      let size : q - p ≡ length literal = omega arith in
      OccursAt-from_part bytes literal p (omega (arith, ends.within))
      (ap (λ n. take n (drop p bytes)) (sym size) ∙ EndsAt-range p q ends at)

  pub EndsAt-from_occurrence : (p q : ℕ) → OccursAt bytes literal p → q ≡ p + length literal → EndsAt bytes literal q
  EndsAt-from_occurrence p q occurs at =
      let size : q - p ≡ length literal = omega arith in
      record {
        start = p;
        end = at;
        within = omega (arith, occurs.fits);
        is = ap (λ n. take n (drop p bytes)) size ∙ OccursAt-part bytes literal p occurs;
      }

  -- what is in a part of the bytes is in the bytes, and the other way round
  module _ (from to : ℕ) (inside : to ≤ length bytes) (some : from ≤ to) where
    pub part_length : length (slice_range bytes from to) ≡ to - from
    part_length = omega (arith, length-take (to - from) (drop from bytes), length-drop from bytes)

    part_reads : (i : ℕ) → i < to - from → get_or (slice_range bytes from to) i 0 ≡ get_or bytes (from + i) 0
    part_reads i h = get_or-take (to - from) (drop from bytes) i 0 h ∙ get_or-drop from bytes i 0

    pub occurs_within : (k : ℕ) → OccursAt (slice_range bytes from to) literal k → OccursAt bytes literal (from + k)
    occurs_within k occurs = record {
      fits = omega (arith, occurs.fits, part_length);
      reads = λ j h.
          let same : from + k + j ≡ from + (k + j) = omega arith in
          ap (λ n. get_or bytes n 0) same ∙ sym (part_reads (k + j) (omega (arith, occurs.fits, part_length))) ∙ occurs.reads j h;
    }

    pub occurs_in_part : (p : ℕ) → OccursAt bytes literal p → from ≤ p → p + length literal ≤ to → OccursAt (slice_range bytes from to) literal (p - from)
    occurs_in_part p occurs after before = record {
      fits = omega (arith, part_length);
      reads = λ j h.
          let same : from + (p - from + j) ≡ p + j = omega arith in
          part_reads (p - from + j) (omega arith) ∙ ap (λ n. get_or bytes n 0) same ∙ occurs.reads j h;
    }

-- a part of a literal occurs where the literal does
pub occurs_part : (bytes literal : List ℕ) (q a b : ℕ) → OccursAt bytes literal q → a ≤ b → b ≤ length literal →
    OccursAt bytes (slice_range literal a b) (q + a)
occurs_part bytes literal q a b occurs order bounded =
    let size : length (slice_range literal a b) ≡ b - a = part_length literal literal a b bounded order in
    record {
      fits = omega (arith, occurs.fits, size);
      reads = λ j h.
          let same : q + a + j ≡ q + (a + j) = omega arith in
          ap (λ n. get_or bytes n 0) same ∙ occurs.reads (a + j) (omega (arith, size)) ∙ sym (part_reads literal literal a b bounded order j (omega (arith, size)));
    }
