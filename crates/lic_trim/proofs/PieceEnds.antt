-- Where pieces end.
use Rattle.std.proofs.Common.{◌≡◌, ℕ, zero, suc, ◌+◌, ◌-◌, ◌<◌, ◌≤◌, Bool, true, false, ◌&&◌, ◌||◌, List, [], ◌∷◌, ◌++◌, length, take, drop, get_or, refl, sym, ap, ◌∙◌, subst, ⊎_elim, arith}
use Rattle.std.specs.Prelude.{slice_range, slice_index_or, slice_index, bytes_eq, reverse, nat_le, ◌==◌}
use Rattle.std.specs.List.{list_all}
use Rattle.std.proofs.lemmas.Bool.{and_parts, or_cases, and_from, or_left, or_right, false≢true, cases_lt, leb-true, le-leb, eqb-true, eq-eqb}
use Rattle.std.proofs.lemmas.Slice.Eq.{bytes_eq-Decides}
use Rattle.std.proofs.lemmas.List.{length-take-le, length-drop, take_more, get_or-drop, get_or-take, reverse-append, reverse-reverse}
use Rattle.lic_kind.specs.Kinds.{kind_of, is_mark_kind}
use Rattle.lic_trim.specs.Texts.{ends_in}
use Rattle.lic_trim.specs.Lines.{is_separator}
use Rattle.lic_trim.specs.Walks.{any_below, ends_piece}
use Rattle.lic_trim.proofs.TextLemmas.{same_truth}

pub any_below-some : (test : ℕ → Bool) (n : ℕ) → any_below test n ≡ true → (j : ℕ) × (j < n) × (test j ≡ true)
any_below-some test zero h = absurd (false≢true h)
any_below-some test (suc n) h =
    ⊎_elim
    (λ here. (n, omega arith, here))
    (λ below. let found = any_below-some test n below in (found.0, (let lt : found.0 < n = found.1 in omega arith), found.2))
    (or_cases (test n) (any_below test n) h)

pub any_below-from : (test : ℕ → Bool) (n j : ℕ) → j < n → test j ≡ true → any_below test n ≡ true
any_below-from test zero j lt h = absurd (omega arith)
any_below-from test (suc n) j lt h =
    ⊎_elim
    (λ below. or_right (test n) _ (any_below-from test n j below h))
    (λ last. let e : j ≡ n = omega arith in or_left (test n) _ (subst (λ i. test i ≡ true) e h))
    (cases_lt j n)

-- a piece that ends here, after a flagged index
pub record Ends (p : List ℕ → Bool) (flags : List Bool) (line : List ℕ) (end : ℕ) : Type 0 where
  pub from : ℕ
  pub below : from < end
  pub flagged : slice_index_or flags from false ≡ true
  pub piece : p (slice_range line from end) ≡ true

-- a part of a line, and the character after it
pub slice_snoc : (line : List ℕ) (j before : ℕ) → j ≤ before → before < length line
    → slice_range line j (before + 1) ≡ slice_range line j before ++ slice_index line before ∷ []
slice_snoc line j before h within =
    let len : length (drop j line) ≡ length line - j = length-drop j line in
    let more : before + 1 - j ≡ (before - j) + 1 = omega arith in
    let index : j + (before - j) ≡ before = omega arith in
    ap (λ n. take n (drop j line)) more
    ∙ take_more (drop j line) (before - j) 0 (omega arith)
    ∙ ap (λ c. take (before - j) (drop j line) ++ c ∷ []) (get_or-drop j line (before - j) 0 ∙ ap (λ i. get_or line i 0) index)

-- a part of a line, element by element
pub slice_at : (line : List ℕ) (j end i : ℕ) → j + i < end → get_or (slice_range line j end) i 0 ≡ slice_index line (j + i)
slice_at line j end i h = get_or-take (end - j) (drop j line) i 0 (omega arith) ∙ get_or-drop j line i 0

pub ends_in-snoc : (last : ℕ → Bool) (q : List ℕ → Bool) (front : List ℕ) (c : ℕ) → ends_in last q (front ++ c ∷ []) ≡ (last c && q front)
ends_in-snoc last q front c =
    ap (λ l. elim l as (λ _. Bool) [ [] ↦ false | d ∷ rest ↦ last d && q (reverse rest) ]) (reverse-append front (c ∷ []))
    ∙ ap (λ l. last c && q l) (reverse-reverse front)

-- what a separator is
pub separator_parts : (text : List ℕ) → is_separator text ≡ true
    → (3 ≤ length text) × (m : ℕ) × (is_mark_kind (kind_of m) ≡ true)
    × ((i : ℕ) → i < length text → get_or text i 0 ≡ m)
separator_parts [] h = absurd (false≢true h)
separator_parts (c ∷ text) h =
    let a = and_parts (is_mark_kind (kind_of c) && nat_le 2 (length text)) (list_all (λ d. d == c) text) h in
    let b = and_parts (is_mark_kind (kind_of c)) (nat_le 2 (length text)) a.0 in
    let long = leb-true 2 (length text) b.1 in
    (omega arith, c, b.0, all_same c text a.1)
  where
    all_below : (c : ℕ) (text : List ℕ) → list_all (λ d. d == c) text ≡ true → (i : ℕ) → i < length text → get_or text i 0 ≡ c
    all_below c [] h i lt = absurd (omega arith)
    all_below c (d ∷ text) h zero lt = eqb-true d c (and_parts (d == c) _ h).0
    all_below c (d ∷ text) h (suc i) lt = all_below c text (and_parts (d == c) _ h).1 i (omega arith)

    all_same : (c : ℕ) (text : List ℕ) → list_all (λ d. d == c) text ≡ true → (i : ℕ) → i < length (c ∷ text) → get_or (c ∷ text) i 0 ≡ c
    all_same c text h zero lt = refl
    all_same c text h (suc i) lt = all_below c text h i (omega arith)

pub separator_from : (text : List ℕ) (m : ℕ) → is_mark_kind (kind_of m) ≡ true → 3 ≤ length text
    → ((i : ℕ) → i < length text → get_or text i 0 ≡ m) → is_separator text ≡ true
separator_from [] m mark long each = absurd (omega arith)
separator_from (c ∷ text) m mark long each =
    let first : c ≡ m = each 0 (omega arith) in
    and_from _ _ (and_from _ _ (subst (λ d. is_mark_kind (kind_of d) ≡ true) (sym first) mark) (le-leb 2 (length text) (omega arith)))
    (all_from text (λ i lt. each (suc i) (omega arith) ∙ sym first))
  where
    all_from : (text : List ℕ) → ((i : ℕ) → i < length text → get_or text i 0 ≡ c) → list_all (λ d. d == c) text ≡ true
    all_from [] each = refl
    all_from (d ∷ text) each = and_from (d == c) _ (eq-eqb d c (each 0 (omega arith))) (all_from text (λ i lt. each (suc i) (omega arith)))

module _ (flags : List Bool) (line : List ℕ) (end : ℕ) where
  pub ends-true : (p : List ℕ → Bool) → ends_piece p flags line end ≡ true → Ends p flags line end
  ends-true p h =
      let found = any_below-some (λ j. slice_index_or flags j false && p (slice_range line j end)) end h in
      let parts = and_parts (slice_index_or flags found.0 false) (p (slice_range line found.0 end)) found.2 in
      record { from = found.0; below = found.1; flagged = parts.0; piece = parts.1 }

  pub ends-from : (p : List ℕ → Bool) → Ends p flags line end → ends_piece p flags line end ≡ true
  ends-from p e = any_below-from (λ j. slice_index_or flags j false && p (slice_range line j end)) end e.from e.below (and_from _ _ e.flagged e.piece)

  -- a piece of one kind is one of another
  pub ends_as : (p q : List ℕ → Bool) (e : Ends p flags line end) → q (slice_range line e.from end) ≡ true → ends_piece q flags line end ≡ true
  ends_as p q e h = ends-from q (record { from = e.from; below = e.below; flagged = e.flagged; piece = h })

  -- pieces of two kinds
  pub ends_piece-or : (p q : List ℕ → Bool) → ends_piece (λ x. p x || q x) flags line end ≡ (ends_piece p flags line end || ends_piece q flags line end)
  ends_piece-or p q = same_truth _ _
      (λ h.
      let e = ends-true (λ x. p x || q x) h in
      let part = slice_range line e.from end in
      ⊎_elim
      (λ a. or_left (ends_piece p flags line end) (ends_piece q flags line end) (ends_as (λ x. p x || q x) p e a))
      (λ b. or_right (ends_piece p flags line end) (ends_piece q flags line end) (ends_as (λ x. p x || q x) q e b))
      (or_cases (p part) (q part) e.piece))
      (λ h.
      ⊎_elim
      (λ a. let e = ends-true p a in ends_as p (λ x. p x || q x) e (or_left _ (q (slice_range line e.from end)) e.piece))
      (λ b. let e = ends-true q b in ends_as q (λ x. p x || q x) e (or_right (p (slice_range line e.from end)) _ e.piece))
      (or_cases (ends_piece p flags line end) (ends_piece q flags line end) h))

  -- no piece of a kind that has none
  pub ends_piece-none : ends_piece (λ _. false) flags line end ≡ false
  ends_piece-none = same_truth _ _ (λ h. (ends-true (λ _. false) h).piece) (λ h. absurd (false≢true h))

  -- the length of a part of a line
  pub length_part : (from : ℕ) → end ≤ length line → length (slice_range line from end) ≡ end - from
  length_part from within = length-take-le (end - from) (drop from line) (omega (arith, length-drop from line))

  -- a text ends here where it comes before this index, after a flagged one
  pub text_ends : (t : List ℕ) → 0 < length t → length t ≤ end → slice_index_or flags (end - length t) false ≡ true
      → slice_range line (end - length t) end ≡ t → ends_piece (bytes_eq t) flags line end ≡ true
  text_ends t some fits flag text =
      ends-from (bytes_eq t) (record {
        from = end - length t;
        below = omega arith;
        flagged = flag;
        piece =
            (bytes_eq-Decides t _).1 (sym text);
      })

  pub text_ends-only : (t : List ℕ) → end ≤ length line → ends_piece (bytes_eq t) flags line end ≡ true
      → (0 < length t) × (length t ≤ end) × (slice_index_or flags (end - length t) false ≡ true)
      × (slice_range line (end - length t) end ≡ t)
  text_ends-only t within h =
      let e = ends-true (bytes_eq t) h in
      let text : t ≡ slice_range line e.from end = (bytes_eq-Decides t _).0 e.piece in
      let below : e.from < end = e.below in
      let long : length t ≡ end - e.from = ap length text ∙ length_part e.from within in
      let index : e.from ≡ end - length t = omega arith in (
        omega arith,
        omega arith,
        subst (λ i. slice_index_or flags i false ≡ true) index e.flagged,
        ap (λ i. slice_range line i end) (sym index) ∙ sym text,
      )

  -- what a test of the one index says
  pub text_ends-none : (t : List ℕ) → end ≤ length line → (0 < length t → length t ≤ end → ⊥) → false ≡ ends_piece (bytes_eq t) flags line end
  text_ends-none t within never = same_truth _ _ (λ h. absurd (false≢true h)) (λ h. let e = text_ends-only t within h in absurd (never e.0 e.1))

  pub text_ends-value : (t : List ℕ) (b : Bool) → end ≤ length line → 0 < length t → length t ≤ end
      → slice_index_or flags (end - length t) false ≡ true → b ≡ bytes_eq (slice_range line (end - length t) end) t
      → b ≡ ends_piece (bytes_eq t) flags line end
  text_ends-value t b within some fits flag e = same_truth _ _
      (λ h. text_ends t some fits flag ((bytes_eq-Decides _ t).0 (sym e ∙ h)))
      (λ h. e ∙ (bytes_eq-Decides _ t).1 (text_ends-only t within h).3)

  pub text_ends-unflagged : (t : List ℕ) → end ≤ length line → slice_index_or flags (end - length t) false ≡ false
      → slice_index_or flags (end - length t) false ≡ ends_piece (bytes_eq t) flags line end
  text_ends-unflagged t within unflagged = same_truth _ _ (λ h. absurd (false≢true (sym unflagged ∙ h))) (λ h. (text_ends-only t within h).2)
