-- Marks that move on by one position.
use Rattle.std.proofs.Common.{◌≡◌, ◌≢◌, ℕ, zero, suc, ◌+◌, ◌-◌, ◌≤◌, ◌<◌, ◌==◌, ◌&&◌, Bool, true, false, List, [], ◌∷◌, length, drop, set, get_or, replicate, refl, sym, ap, ◌∙◌, ⊎_elim, arith}
use Rattle.std.proofs.lemmas.Bool.{cases_lt, cases_eq}
use Rattle.std.proofs.lemmas.List.{get_or-set_same, get_or-set_other, get_or-drop}
use Rattle.lic_marks.specs.Cores.{Core, cat_all, any_prefix, one}
use Rattle.lic_marks.specs.Marks.{shift}
use Rattle.lic_marks.specs.Rows.{weight, flags_of, marks_of, first_flag, Leaves, Shifts}
use Rattle.lic_marks.specs.Nodes.{letter_cores}
use Rattle.lic_rows.specs.Bits.{flag_at, IsKeptOutside}
use Rattle.lic_marks.specs.Moves.{flag_before, Moves}
use Rattle.lic_marks.proofs.RowSteps.{length-flags_of}
use Rattle.lic_marks.proofs.LetterSteps.{weight-letters, weight-copies, weight-up_to}
use Rattle.lic_marks.proofs.Patches.{patched}

and_none : (b : Bool) → (b && false) ≡ false
and_none true = refl
and_none false = refl

and_all : (b : Bool) → (b && true) ≡ b
and_all true = refl
and_all false = refl

-- the flag before a position of the range but the first
came : (old : List Bool) (at : ℕ) (entry : Bool) (j : ℕ) → flag_before (drop at old) entry (suc j) ≡ get_or old (at + j) false
came old at entry j = get_or-drop at old j false

none_and : (b c : Bool) → b ≡ false → (b && c) ≡ false
none_and true c h = cc
none_and false c h = refl

-- ---- all at once

module _ (entry : Bool) (old : List Bool) (at n : ℕ) (new : List Bool) (kept : IsKeptOutside at (at + n) (flag_at old) (flag_at new)) where
  pub Moves-slid : (passed : Bool) → passed ≡ true → get_or new at false ≡ entry
      → ((k : ℕ) → at ≤ k → suc k < at + n → get_or new (suc k) false ≡ get_or old k false) → Moves (λ j. passed) entry old at n new
  Moves-slid passed is first rest = record {
    inside = λ j h. slid j h ∙ sym (and_all (flag_before (drop at old) entry j)) ∙ ap (λ b. flag_before (drop at old) entry j && b) (sym is);
    before = kept.before;
    past = kept.past;
  }
    where
      slid : (j : ℕ) → j < n → get_or new (at + j) false ≡ flag_before (drop at old) entry j
      slid zero h =
          let here : at + 0 ≡ at = omega arith in
          ap (λ k. get_or new k false) here ∙ first
      slid (suc j) h =
          let here : at + suc j ≡ suc (at + j) = omega arith in
          ap (λ k. get_or new k false) here ∙ rest (at + j) (omega arith) (omega arith) ∙ sym (came old at entry j)

  pub Moves-cleared : (passed : Bool) → passed ≡ false → ((k : ℕ) → at ≤ k → k < at + n → get_or new k false ≡ false) → Moves (λ j. passed) entry old at n new
  Moves-cleared passed is none = record {
    inside = λ j h. none (at + j) (omega arith) (omega arith)
        ∙ sym (and_none (flag_before (drop at old) entry j)) ∙ ap (λ b. flag_before (drop at old) entry j && b) (sym is);
    before = kept.before;
    past = kept.past;
  }

-- ---- mark by mark, from the last to the first

-- The walk has come down to `position`: after it marks have moved, and before it they have not.
pub record Falls (takes : ℕ → Bool) (old : List Bool) (at n : ℕ) (row : List Bool) (position : ℕ) : Type 0 where
  pub below : (k : ℕ) → k < position → get_or row k false ≡ get_or old k false
  pub here : position < at + n → get_or row position false ≡ false
  pub above : (j : ℕ) → j < n → position < at + j → get_or row (at + j) false ≡ (get_or old (at + j - 1) false && takes j)
  pub past : (k : ℕ) → at + n ≤ k → get_or row k false ≡ get_or old k false

module _ (takes : ℕ → Bool) (old : List Bool) (at n : ℕ) where
  pub Falls-start : (position : ℕ) → position ≡ at + n → Falls takes old at n old position
  Falls-start position e = record {
    below = λ k h. refl;
    here = λ inside. absurd (omega (arith, e));
    above = λ j h high. absurd (omega (arith, e));
    past = λ k h. refl;
  }

  module _ (row : List Bool) (position : ℕ) (f : Falls takes old at n row position) (within : position ≤ at + n) where
    -- down to a position after which, and before the last one, nothing is marked
    module _ (new : List Bool) (q : ℕ) (begun : at ≤ q) (less : q < position) (none : (k : ℕ) → q < k → k < position → get_or row k false ≡ false)
        (here : get_or new q false ≡ false) (next : q + 1 < at + n → get_or new (q + 1) false ≡ (get_or row q false && takes (q + 1 - at)))
        (other : (k : ℕ) → k ≢ q → (k ≡ q + 1 → at + n ≤ k) → get_or new k false ≡ get_or row k false) where
      gap : (k : ℕ) → q + 2 ≤ k → k ≤ position → k < at + n → get_or new k false ≡ false
      gap k low high inside = other k (omega arith) (λ e. absurd (omega arith))
          ∙ ⊎_elim (λ before. none k (omega arith) before) (λ same. let e : k ≡ position = omega arith in
          ap (λ i. get_or row i false) e ∙ f.here (omega arith)) (cases_lt k position)

      pub Falls-to : Falls takes old at n new q
      Falls-to = record {
        below = λ k h. other k (omega arith) (λ e. absurd (omega arith)) ∙ f.below k (omega arith);
        here = λ inside. here;
        above = λ j h high. ⊎_elim (λ same. at_next j h same) (λ apart. ⊎_elim
            (λ beyond. other (at + j) (omega arith) (λ e. absurd (apart e)) ∙ f.above j h beyond)
            (λ until. gap (at + j) (omega (arith, apart)) until (omega arith)
            ∙ sym (none_and _ (takes j) (sym (f.below (at + j - 1) (omega (arith, apart))) ∙ none (at + j - 1) (omega (arith, apart)) (omega (arith, apart)))))
            (cases_lt position (at + j))) (cases_eq (at + j) (q + 1));
        past = λ k h. other k (omega arith) (λ e. h) ∙ f.past k h;
      }
        where
          at_next : (j : ℕ) → j < n → at + j ≡ q + 1 → get_or new (at + j) false ≡ (get_or old (at + j - 1) false && takes j)
          at_next j h same =
              let size : q + 1 - at ≡ j = omega arith in
              let prior : q ≡ at + j - 1 = omega arith in
              ap (λ k. get_or new k false) same ∙ next (omega arith) ∙ ap (λ i. get_or row q false && takes i) size
              ∙ ap (λ b. b && takes j) (f.below q less ∙ ap (λ k. get_or old k false) prior)

    -- where the range has no mark
    module _ (q : ℕ) (begun : at ≤ q) (less : q < position) (none : (k : ℕ) → q ≤ k → k < position → get_or row k false ≡ false) where
      none_next : q + 1 < at + n → get_or row (q + 1) false ≡ (get_or row q false && takes (q + 1 - at))
      none_next inside = ⊎_elim (λ before. none (q + 1) (omega arith) before)
          (λ last. let e : q + 1 ≡ position = omega arith in ap (λ k. get_or row k false) e ∙ f.here (omega (arith, inside))) (cases_lt (q + 1) position)
          ∙ sym (none_and _ (takes (q + 1 - at)) (none q (omega arith) less))

      pub Falls-past : Falls takes old at n row q
      Falls-past = Falls-to row q begun less (λ k low high. none k (omega arith) high) (none q (omega arith) less) none_next (λ k a b. refl)

  -- down to the first position
  module _ (row : List Bool) (f : Falls takes old at n row at) where
    first_position : at + 0 ≡ at
    first_position = omega arith

    later : (entry : Bool) (j : ℕ) → suc j < n → get_or row (at + suc j) false ≡ (flag_before (drop at old) entry (suc j) && takes (suc j))
    later entry j h =
        let prior : at + suc j - 1 ≡ at + j = omega arith in
        f.above (suc j) h (omega arith) ∙ ap (λ k. get_or old k false && takes (suc j)) prior ∙ ap (λ b. b && takes (suc j)) (sym (came old at entry j))

    pub Moves-fallen : (entry : Bool) → (entry ≡ true → n ≡ 0) → Moves takes entry old at n row
    Moves-fallen entry out = record { inside = inside; before = f.below; past = f.past }
      where
        first : (e : Bool) → (e ≡ true → n ≡ 0) → 0 < n → get_or row at false ≡ (e && takes 0)
        first true out h = absurd (omega (arith, out refl))
        first false out h = f.here (omega arith)

        inside : (j : ℕ) → j < n → get_or row (at + j) false ≡ (flag_before (drop at old) entry j && takes j)
        inside zero h = ap (λ k. get_or row k false) first_position ∙ first entry out h
        inside (suc j) h = later entry j h

    pub Moves-entered : 0 < n → at + n ≤ length row → (entry : Bool) → entry ≡ true → Moves takes entry old at n (set row at (takes 0))
    Moves-entered some width entry is = record {
      inside = inside;
      before = λ k h. get_or-set_other row at k (takes 0) false (omega arith) ∙ f.below k h;
      past = λ k h. get_or-set_other row at k (takes 0) false (omega arith) ∙ f.past k h;
    }
      where
        inside : (j : ℕ) → j < n → get_or (set row at (takes 0)) (at + j) false ≡ (flag_before (drop at old) entry j && takes j)
        inside zero h =
            ap (λ k. get_or (set row at (takes 0)) k false) first_position ∙ get_or-set_same row at (takes 0) false (omega arith) ∙ ap (λ b. b && takes 0) (sym is)
        inside (suc j) h = get_or-set_other row at (at + suc j) (takes 0) false (omega arith) ∙ later entry j h

-- ---- the marks of flags that were moved on

-- the flag before a position, where the row's first is left out
before_next : (row : List Bool) (j : ℕ) → flag_before (drop 1 row) (first_flag row) j ≡ get_or row j false
before_next [] zero = refl
before_next (flag ∷ row) zero = refl
before_next [] (suc j) = refl
before_next (flag ∷ row) (suc j) = refl

flag-letters : (text : List ℕ) (after entry : Bool) (c : ℕ) (row : List Bool) (j : ℕ) → j < length text →
    get_or (flags_of (cat_all (letter_cores text)) (shift (cat_all (letter_cores text)) after entry (marks_of (cat_all (letter_cores text)) row) c)) j false
    ≡ (flag_before row entry j && (c == get_or text j 0))
flag-letters [] after entry c row j h = absurd (omega arith)
flag-letters (d ∷ text) after entry c row zero h = refl
flag-letters (d ∷ text) after entry c row (suc j) h =
    flag-letters text after (first_flag row) c (drop 1 row) j (omega (arith, h)) ∙ ap (λ b. b && (c == get_or text j 0)) (before_next row j)

flag-copies : (passes : ℕ → Bool) (n : ℕ) (after entry : Bool) (c : ℕ) (row : List Bool) (j : ℕ) → j < n →
    get_or (flags_of (cat_all (replicate n (one passes)))
    (shift (cat_all (replicate n (one passes))) after entry
    (marks_of (cat_all (replicate n (one passes))) row) c)) j false
    ≡ (flag_before row entry j && passes c)
flag-copies passes zero after entry c row j h = absurd (omega arith)
flag-copies passes (suc n) after entry c row zero h = refl
flag-copies passes (suc n) after entry c row (suc j) h =
    flag-copies passes n after (first_flag row) c (drop 1 row) j (omega (arith, h)) ∙ ap (λ b. b && passes c) (before_next row j)

flag-up_to : (passes : ℕ → Bool) (n : ℕ) (after entry : Bool) (c : ℕ) (row : List Bool) (j : ℕ) → j < n →
    get_or (flags_of (any_prefix (replicate n (one passes)))
    (shift (any_prefix (replicate n (one passes))) after entry
    (marks_of (any_prefix (replicate n (one passes))) row) c)) j false
    ≡ (flag_before row entry j && passes c)
flag-up_to passes zero after entry c row j h = absurd (omega arith)
flag-up_to passes (suc n) after entry c row zero h = refl
flag-up_to passes (suc n) after entry c row (suc j) h =
    flag-up_to passes n after (first_flag row) c (drop 1 row) j (omega (arith, h)) ∙ ap (λ b. b && passes c) (before_next row j)

module _ (r : Core) (takes : ℕ → Bool) (after entry : Bool) (c : ℕ) (old : List Bool) (at n : ℕ) (new : List Bool) (x : Bool)
    (size : weight r ≡ n) (width : at + n ≤ length old) (long : length new ≡ length old)
    (flags : (j : ℕ) → j < n → get_or (flags_of r (shift r after entry (marks_of r (drop at old)) c)) j false
    ≡ (flag_before (drop at old) entry j && takes j)) where
  Shifts-moved : Leaves r after entry old at x → Moves takes entry old at n new → Shifts r after entry c old at new x
  Shifts-moved p m =
      let few = length-flags_of r (shift r after entry (marks_of r (drop at old)) c) in
      record {
        walk = p;
        row = patched old (flags_of r (shift r after entry (marks_of r (drop at old)) c)) at (at + weight r) (omega arith) (omega (arith, few)) new
            (omega (arith, size)) long m.before (λ j h. m.inside j (omega (arith, h, few, size)) ∙ sym (flags j (omega (arith, h, few, size))))
            (λ k h. m.past k (omega (arith, h, size)));
      }

pub Shifts-letters : (text : List ℕ) (after entry : Bool) (c : ℕ) (old : List Bool) (at : ℕ) (new : List Bool) (x : Bool) →
    at + length text ≤ length old → length new ≡ length old → Leaves (cat_all (letter_cores text)) after entry old at x →
    Moves (λ j. c == get_or text j 0) entry old at (length text) new → Shifts (cat_all (letter_cores text)) after entry c old at new x
Shifts-letters text after entry c old at new x width long p m =
    Shifts-moved (cat_all (letter_cores text)) (λ j. c == get_or text j 0) after entry c old at (length text) new x
    (weight-letters text) width long (flag-letters text after entry c (drop at old)) p m

module _ (passes : ℕ → Bool) (n : ℕ) (after entry : Bool) (c : ℕ) (old : List Bool) (at : ℕ) (new : List Bool) (x : Bool)
    (width : at + n ≤ length old) (long : length new ≡ length old) where
  pub Shifts-copies : Leaves (cat_all (replicate n (one passes))) after entry old at x → Moves (λ j. passes c) entry old at n new →
      Shifts (cat_all (replicate n (one passes))) after entry c old at new x
  Shifts-copies p m =
      Shifts-moved (cat_all (replicate n (one passes))) (λ j. passes c) after entry c old at n new x
      (weight-copies passes n) width long (flag-copies passes n after entry c (drop at old)) p m

  pub Shifts-up_to : Leaves (any_prefix (replicate n (one passes))) after entry old at x → Moves (λ j. passes c) entry old at n new →
      Shifts (any_prefix (replicate n (one passes))) after entry c old at new x
  Shifts-up_to p m =
      Shifts-moved (any_prefix (replicate n (one passes))) (λ j. passes c) after entry c old at n new x
      (weight-up_to passes n) width long (flag-up_to passes n after entry c (drop at old)) p m
