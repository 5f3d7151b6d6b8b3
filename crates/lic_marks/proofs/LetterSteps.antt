-- What is computed on the flags of letters in a row.
use Rattle.std.proofs.Common.{◌≡◌, ℕ, zero, suc, ◌+◌, ◌-◌, ◌≤◌, ◌==◌, ◌||◌, Bool, List, [], ◌∷◌, length, get_or, take, drop, replicate, refl, ap, ◌∙◌, subst, arith, length-drop, ne_eqb}
use Rattle.std.specs.List.{list_any, slice_range}
use Rattle.lic_marks.specs.Cores.{cat_all, any_prefix, one}
use Rattle.lic_marks.specs.Rows.{weight, marks_of, Leaves}
use Rattle.lic_marks.specs.Marks.{is_nullable, can_leave}
use Rattle.lic_marks.specs.Nodes.{letter_cores}
use Rattle.lic_marks.proofs.Answers.{or_none}
use Rattle.lic_marks.proofs.RowSteps.{Leaves-empty, Leaves-one, Leaves-cat}

pub weight-letters : (text : List ℕ) → weight (cat_all (letter_cores text)) ≡ length text
weight-letters [] = refl
weight-letters (c ∷ text) = omega (arith, weight-letters text)

-- one can leave where the last letter is marked
pub Leaves-letters : (text : List ℕ) (after entry : Bool) (row : List Bool) (at : ℕ) (d : Bool) → (length text ≡ 0 → ⊥) →
    at + length text ≤ length row → Leaves (cat_all (letter_cores text)) after entry row at (get_or row (at + length text - 1) d)
Leaves-letters [] after entry row at d some width = absurd (some refl)
Leaves-letters (c ∷ []) after entry row at d some width =
    let here : at + 1 - 1 ≡ at = omega arith in
    Leaves-cat (one (λ x. x == c)) (cat_all []) after entry row at (get_or row (at + 1 - 1) d) (get_or row (at + 1 - 1) d)
    (Leaves-one (λ x. x == c) after entry row at (get_or row (at + 1 - 1) d) d (omega (arith, width)) (ap (λ k. get_or row k d) here))
    (Leaves-empty after (get_or row (at + 1 - 1) d) row (at + 1))
Leaves-letters (c ∷ e ∷ text) after entry row at d some width =
    let next : at + 1 + length (e ∷ text) - 1 ≡ at + length (c ∷ e ∷ text) - 1 = omega arith in
    let more : suc (length text) ≡ 0 → ⊥ = λ h. cc in
    Leaves-cat (one (λ x. x == c)) (cat_all (letter_cores (e ∷ text))) after entry row at (get_or row at d) (get_or row (at + length (c ∷ e ∷ text) - 1) d)
    (Leaves-one (λ x. x == c) after entry row at (get_or row at d) d (omega (arith, width)) refl)
    (subst (λ k. Leaves (cat_all (letter_cores (e ∷ text))) after (get_or row at d) row (at + 1) (get_or row k d)) next
    (Leaves-letters (e ∷ text) after (get_or row at d) row (at + 1) d more (omega (arith, width))))

-- ---- that many letters that pass, or up to that many

pub weight-copies : (passes : ℕ → Bool) (n : ℕ) → weight (cat_all (replicate n (one passes))) ≡ n
weight-copies passes zero = refl
weight-copies passes (suc n) = omega (arith, weight-copies passes n)

pub weight-up_to : (passes : ℕ → Bool) (n : ℕ) → weight (any_prefix (replicate n (one passes))) ≡ n
weight-up_to passes zero = refl
weight-up_to passes (suc n) = omega (arith, weight-up_to passes n)

pub nullable-copies : (passes : ℕ → Bool) (n : ℕ) → (n == 0) ≡ is_nullable (cat_all (replicate n (one passes)))
nullable-copies passes zero = refl
nullable-copies passes (suc n) = ne_eqb (suc n) 0 (λ z. cc)

last_copy : (n : ℕ) (passes : ℕ → Bool) (after entry : Bool) (row : List Bool) (at : ℕ) (d : Bool) → at + suc n ≤ length row →
    Leaves (cat_all (replicate (suc n) (one passes))) after entry row at (get_or row (at + n) d)
last_copy zero passes after entry row at d width =
    let here : at + 0 ≡ at = omega arith in
    Leaves-cat (one passes) (cat_all []) after entry row at (get_or row (at + 0) d) (get_or row (at + 0) d)
    (Leaves-one passes after entry row at (get_or row (at + 0) d) d (omega (arith, width)) (ap (λ k. get_or row k d) here))
    (Leaves-empty after (get_or row (at + 0) d) row (at + 1))
last_copy (suc n) passes after entry row at d width =
    let next : at + 1 + n ≡ at + suc n = omega arith in
    Leaves-cat (one passes) (cat_all (replicate (suc n) (one passes))) after entry row at (get_or row at d) (get_or row (at + suc n) d)
    (Leaves-one passes after entry row at (get_or row at d) d (omega (arith, width)) refl)
    (subst (λ k. Leaves (cat_all (replicate (suc n) (one passes))) after (get_or row at d) row (at + 1) (get_or row k d)) next
    (last_copy n passes after (get_or row at d) row (at + 1) d (omega (arith, width))))

-- one can leave that many letters where the last one is marked
pub Leaves-copies : (n : ℕ) (passes : ℕ → Bool) (after entry : Bool) (row : List Bool) (at : ℕ) (d : Bool) → (n ≡ 0 → ⊥) →
    at + n ≤ length row → Leaves (cat_all (replicate n (one passes))) after entry row at (get_or row (at + n - 1) d)
Leaves-copies zero passes after entry row at d some width = absurd (some refl)
Leaves-copies (suc n) passes after entry row at d some width =
    let last : at + n ≡ at + suc n - 1 = omega arith in
    subst (λ k. Leaves (cat_all (replicate (suc n) (one passes))) after entry row at (get_or row k d)) last (last_copy n passes after entry row at d width)

can_leave-up_to : (n : ℕ) (passes : ℕ → Bool) (after entry : Bool) (row : List Bool) → n ≤ length row →
    (entry || list_any (λ flag. flag) (take n row))
    ≡ can_leave (any_prefix (replicate n (one passes))) after entry
    (marks_of (any_prefix (replicate n (one passes))) row)
can_leave-up_to zero passes after entry row width = or_none entry
can_leave-up_to (suc n) passes after entry [] width = absurd (omega (arith, width))
can_leave-up_to (suc n) passes after entry (flag ∷ row) width =
    ap (λ b. entry || b) (can_leave-up_to n passes after flag row (omega (arith, width)))

-- one can leave up to that many letters where one enters or any is marked
pub Leaves-up_to : (n : ℕ) (passes : ℕ → Bool) (after entry : Bool) (row : List Bool) (at : ℕ) → at + n ≤ length row →
    Leaves (any_prefix (replicate n (one passes))) after entry row at (entry || list_any (λ flag. flag) (slice_range row at (at + n)))
Leaves-up_to n passes after entry row at width =
    let size : at + n - at ≡ n = omega arith in
    record {
      answer = ap (λ k. entry || list_any (λ flag. flag) (take k (drop at row))) size
          ∙ can_leave-up_to n passes after entry (drop at row) (omega (arith, length-drop at row));
    }
