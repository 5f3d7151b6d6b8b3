-- Where spaces, spaced texts and separators end.
use Rattle.std.proofs.Common.{◌≡◌, ℕ, ◌+◌, ◌-◌, ◌<◌, ◌≤◌, Bool, true, false, ◌&&◌, List, [], ◌∷◌, ◌++◌, length, take, drop, get_or, refl, sym, ap, ◌∙◌, subst, ⊎_elim, arith}
use Rattle.std.specs.Prelude.{slice_range, slice_index_or, slice_index, bytes_eq, nat_le}
use Rattle.std.specs.Char.{is_whitespace}
use Rattle.std.proofs.lemmas.Bool.{and_parts, and_from, false≢true, cases_lt, leb-true, le-leb}
use Rattle.std.proofs.lemmas.Slice.Eq.{bytes_eq-Decides}
use Rattle.lic_kind.specs.Kinds.{kind_of, is_mark_kind}
use Rattle.lic_trim.specs.Texts.{ends_in}
use Rattle.lic_trim.specs.Lines.{is_space, is_separator}
use Rattle.lic_trim.specs.Walks.{ends_piece, IsStreakFront}
use Rattle.lic_trim.proofs.TextLemmas.{same_truth}
use Rattle.lic_trim.proofs.PieceEnds.{ends-true, ends-from, slice_snoc, slice_at, ends_in-snoc, length_part, separator_parts, separator_from}

-- what a white space piece is
pub space_parts : (text : List ℕ) → is_space text ≡ true → (c : ℕ) × (text ≡ c ∷ []) × (is_whitespace c ≡ true)
space_parts [] h = absurd (false≢true h)
space_parts (c ∷ []) h = (c, refl, h)
space_parts (c ∷ d ∷ text) h = absurd (false≢true h)

pub slice_one : (line : List ℕ) (before : ℕ) → before < length line → slice_range line before (before + 1) ≡ slice_index line before ∷ []
slice_one line before within =
    let none : before - before ≡ 0 = omega arith in
    slice_snoc line before before (omega arith) within ∙ ap (λ n. take n (drop before line) ++ slice_index line before ∷ []) none

module _ (flags : List Bool) (line : List ℕ) (end before : ℕ) (last : end ≡ before + 1) (within : end ≤ length line) where
  -- the last part of a line, of one character
  one : slice_range line before end ≡ slice_index line before ∷ []
  one = ap (slice_range line before) last ∙ slice_one line before (omega arith)

  more : (j : ℕ) → j ≤ before → slice_range line j end ≡ slice_range line j before ++ slice_index line before ∷ []
  more j h = ap (slice_range line j) last ∙ slice_snoc line j before h (omega arith)

  pub space_ends : ends_piece is_space flags line end ≡ (slice_index_or flags before false && is_whitespace (slice_index line before))
  space_ends = same_truth _ _
      (λ h.
      let e = ends-true flags line end is_space h in
      let parts = space_parts _ e.piece in
      let below : e.from < end = e.below in
      let long : 1 ≡ end - e.from = sym (ap length parts.1) ∙ length_part flags line end e.from within in
      let index : e.from ≡ before = omega arith in
      let c : parts.0 ≡ slice_index line before =
      sym (ap (λ l. get_or l 0 0) parts.1) ∙ ap (λ j. get_or (slice_range line j end) 0 0) index
      ∙ ap (λ l. get_or l 0 0) one in
      and_from _ _ (subst (λ i. slice_index_or flags i false ≡ true) index e.flagged) (subst (λ d. is_whitespace d ≡ true) c parts.2))
      (λ h.
      let parts = and_parts (slice_index_or flags before false) (is_whitespace (slice_index line before)) h in
      ends-from flags line end is_space
      (record {
        from = before;
        below = omega arith;
        flagged = parts.0;
        piece =
            subst (λ l. is_space l ≡ true) (sym one) parts.1;
      }))

  pub spaced_from : (t : List ℕ) → is_whitespace (slice_index line before) ≡ true → length t ≤ before
      → slice_index_or flags (before - length t) false ≡ true → slice_range line (before - length t) before ≡ t
      → ends_piece (ends_in is_whitespace (bytes_eq t)) flags line end ≡ true
  spaced_from t white fits flag text =
      ends-from flags line end (ends_in is_whitespace (bytes_eq t)) (record {
        from = before - length t;
        below = omega arith;
        flagged = flag;
        piece = subst (λ l. ends_in is_whitespace (bytes_eq t) l ≡ true) (sym (more (before - length t) (omega arith)))
            (ends_in-snoc is_whitespace (bytes_eq t) (slice_range line (before - length t) before)
            (slice_index line before)
            ∙ and_from (is_whitespace (slice_index line before))
            (bytes_eq t (slice_range line (before - length t) before)) white
            ((bytes_eq-Decides t _).1 (sym text)));
      })

  pub spaced_only : (t : List ℕ) → ends_piece (ends_in is_whitespace (bytes_eq t)) flags line end ≡ true
      → (is_whitespace (slice_index line before) ≡ true) × (length t ≤ before)
      × (slice_index_or flags (before - length t) false ≡ true) × (slice_range line (before - length t) before ≡ t)
  spaced_only t h =
      let e = ends-true flags line end (ends_in is_whitespace (bytes_eq t)) h in
      let below : e.from < end = e.below in
      let piece = sym (ends_in-snoc is_whitespace (bytes_eq t) (slice_range line e.from before)
      (slice_index line before))
      ∙ subst (λ l. ends_in is_whitespace (bytes_eq t) l ≡ true) (more e.from (omega arith)) e.piece in
      let parts = and_parts (is_whitespace (slice_index line before)) (bytes_eq t (slice_range line e.from before)) piece in
      let text : t ≡ slice_range line e.from before = (bytes_eq-Decides t _).0 parts.1 in
      let long : length t ≡ before - e.from = ap length text ∙ length_part flags line before e.from (omega arith) in
      let index : e.from ≡ before - length t = omega arith in (
        parts.0,
        omega arith,
        subst (λ i. slice_index_or flags i false ≡ true) index e.flagged,
        ap (λ i. slice_range line i before) (sym index) ∙ sym text,
      )

  pub separator_ends : (first : ℕ) → IsStreakFront flags line end first
      → ends_piece is_separator flags line end
      ≡ (is_mark_kind (kind_of (slice_index line (end - 1))) && nat_le 3 (end - first))
  separator_ends first front = same_truth _ _
      (λ h.
      let e = ends-true flags line end is_separator h in
      let below : e.from < end = e.below in
      let parts = separator_parts _ e.piece in
      let long = length_part flags line end e.from within in
      let each = λ (i : ℕ) (low : e.from ≤ i) (high : i < end).
      let off : e.from + (i - e.from) ≡ i = omega arith in
      sym (slice_at line e.from end (i - e.from) (omega arith) ∙ ap (slice_index line) off) ∙ parts.3 (i - e.from) (omega arith) in
      let mark : is_mark_kind (kind_of (slice_index line (end - 1))) ≡ true =
      subst (λ d. is_mark_kind (kind_of d) ≡ true) (sym (each (end - 1) (omega arith) (omega arith))) parts.2 in
      let some : 3 ≤ end - e.from = omega arith in
      ⊎_elim
      (λ low.
      let other = front.least e.from low below e.flagged in
      absurd (other.3 (each other.0 other.1 other.2 ∙ sym (each (end - 1) (omega arith) (omega arith)))))
      (λ high. and_from _ _ mark (le-leb 3 (end - first) (omega arith)))
      (cases_lt e.from first))
      (λ h.
      let parts = and_parts (is_mark_kind (kind_of (slice_index line (end - 1)))) (nat_le 3 (end - first)) h in
      let some : 3 ≤ end - first = leb-true 3 (end - first) parts.1 in
      let long = length_part flags line end first within in
      ends-from flags line end is_separator (record {
        from = first;
        below = omega arith;
        flagged = front.flagged (omega arith);
        piece = separator_from (slice_range line first end) (slice_index line (end - 1)) parts.0
            (omega arith) (λ i lt. slice_at line first end i (omega arith)
            ∙ front.same (first + i) (omega arith) (omega arith));
      }))

  -- what the test of the one index says
  pub spaced_none : (t : List ℕ)
      → (is_whitespace (slice_index line before) ≡ true → length t ≤ before
      → slice_index_or flags (before - length t) false ≡ true → ⊥)
      → false ≡ ends_piece (ends_in is_whitespace (bytes_eq t)) flags line end
  spaced_none t never = same_truth _ _ (λ h. absurd (false≢true h)) (λ h. let e = spaced_only t h in absurd (never e.0 e.1 e.2))

  pub spaced_value : (t : List ℕ) (b : Bool) → is_whitespace (slice_index line before) ≡ true → length t ≤ before
      → slice_index_or flags (before - length t) false ≡ true
      → b ≡ bytes_eq (slice_range line (before - length t) before) t
      → b ≡ ends_piece (ends_in is_whitespace (bytes_eq t)) flags line end
  spaced_value t b white fits flag e = same_truth _ _
      (λ h. spaced_from t white fits flag ((bytes_eq-Decides _ t).0 (sym e ∙ h)))
      (λ h. e ∙ (bytes_eq-Decides _ t).1 (spaced_only t h).3)
