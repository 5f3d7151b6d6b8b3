-- Rows in which no flag is set, or some.
use Rattle.std.proofs.Common.{◌≡◌, ℕ, suc, ◌+◌, ◌-◌, ◌≤◌, ◌<◌, ◌↔◌, not, Bool, true, false, List, [], ◌∷◌, ◌++◌, length, take, drop, get_or, replicate, refl, sym, ap, ◌∙◌, ⊎_elim, arith}
use Rattle.std.specs.List.{slice_range, list_any}
use Rattle.std.proofs.lemmas.Bool.{cases_lt}
use Rattle.std.proofs.lemmas.List.{get_or-replicate, length-replicate, get_or_default, get_or_past}
use Rattle.std.proofs.lemmas.List.Edits.{get_or-between, length-between}
use Rattle.std.proofs.lemmas.List.Folds.{list_any_at}
use Rattle.lic_rows.specs.Bits.{flag_at, IsKeptOutside}
use Rattle.lic_marks.proofs.Patches.{patched}

-- a row of which each flag is clear
pub all_clear : (row : List Bool) → ((k : ℕ) (d : Bool) → k < length row → get_or row k d ≡ false) → row ≡ replicate (length row) false
all_clear [] all = refl
all_clear (flag ∷ row) all =
    let first : flag ≡ false = all 0 true (omega arith) in
    ap (λ x. x ∷ row) first ∙ ap (λ s. false ∷ s) (all_clear row (λ k d inside. all (suc k) d (omega (arith, inside))))

pub clear_flag : (row : List Bool) → row ≡ replicate (length row) false → (k : ℕ) (d : Bool) → k < length row → get_or row k d ≡ false
clear_flag row clear k d inside = ap (λ s. get_or s k d) clear ∙ get_or-replicate (length row) k false d inside

pub row_clear : (row : List Bool) → ((k : ℕ) → k < length row → get_or row k false ≡ false) → row ≡ replicate (length row) false
row_clear row clear = all_clear row (λ k d inside. get_or_default row k d false inside ∙ clear k inside)

pub flag-replicate : (n k : ℕ) → get_or (replicate n false) k false ≡ false
flag-replicate n k =
    ⊎_elim (λ low. get_or-replicate n k false false low) (λ high. get_or_past (replicate n false) k false (omega (arith, high, length-replicate n false)))
    (cases_lt k n)

-- the whole row taken back
pub cleared : (old new : List Bool) (end : ℕ) → end ≡ length old → length new ≡ length old → ((k : ℕ) → 0 ≤ k → k < end → get_or new k false ≡ false)
    → new ≡ replicate (length old) false
cleared old new end whole long none =
    row_clear new (λ k inside. none k (omega arith) (omega (arith, inside, whole, long))) ∙ ap (λ n. replicate n false) long

unset : (x : Bool) → (x ≡ true → ⊥) → x ≡ false
unset true h = absurd (h refl)
unset false h = refl

-- a row is clear where no flag of it is set
pub clear_if_none : (row : List Bool) (end : ℕ) → end ≡ length row → (b : Bool)
    → (b ≡ true) ↔ ((k : ℕ) × (0 ≤ k) × (k < end) × (get_or row k false ≡ true)) → (not b ≡ true) ↔ (row ≡ replicate (length row) false)
clear_if_none row end e true some = (
  λ h. cc,
  λ clear. let s = some.0 refl in absurd (let none = clear_flag row clear s.0 false (omega (arith, s.2, e)) in let set = s.3 in cc),
)
clear_if_none row end e false some = (
  λ h. row_clear row (λ k inside. unset (get_or row k false) (λ set. let t = some.1 (k, omega arith, omega (arith, e), set) in cc)),
  λ clear. refl,
)

-- a range taken back
pub patched_clear : (old new : List Bool) (at end : ℕ) → at ≤ end → end ≤ length old → length new ≡ length old →
    IsKeptOutside at end (flag_at old) (flag_at new) → ((k : ℕ) → at ≤ k → k < end → get_or new k false ≡ false)
    → new ≡ take at old ++ replicate (end - at) false ++ drop end old
patched_clear old new at end order width long kept here =
    patched old (replicate (end - at) false) at end (omega arith) (omega (arith, length-replicate (end - at) false)) new width long kept.before
    (λ j h. here (at + j) (omega arith) (omega (arith, h, length-replicate (end - at) false)) ∙ sym (flag-replicate (end - at) j)) kept.past

-- ---- some flag is set

pub found : (xs : List Bool) → list_any (λ flag. flag) xs ≡ true → (k : ℕ) × (k < length xs) × (get_or xs k false ≡ true)
found [] h = cc
found (true ∷ xs) h = (0, omega arith, refl)
found (false ∷ xs) h = let f = found xs h in (suc f.0, omega (arith, f.1), f.2)

pub same_answer : (a b : Bool) → (a ≡ true → b ≡ true) → (b ≡ true → a ≡ true) → a ≡ b
same_answer true b f g = sym (f refl)
same_answer false true f g = g refl
same_answer false false f g = refl

-- some flag of a range is set
pub any_is : (row : List Bool) (at end : ℕ) (b : Bool) → end ≤ length row
    → (b ≡ true) ↔ ((k : ℕ) × (at ≤ k) × (k < end) × (get_or row k false ≡ true)) → b ≡ list_any (λ flag. flag) (slice_range row at end)
any_is row at end b width is = same_answer b (list_any (λ flag. flag) (slice_range row at end))
    (λ h. let e = is.0 h in
    let same : at + (e.0 - at) ≡ e.0 = omega (arith, e.1) in
    list_any_at (λ flag. flag) (slice_range row at end) (e.0 - at) false (omega (arith, e.1, e.2, length-between row at end width))
    (get_or-between row at end (e.0 - at) false (omega (arith, e.1, e.2)) ∙ ap (λ i. get_or row i false) same ∙ e.3))
    (λ h. let f = found (slice_range row at end) h in
    let near : f.0 < end - at = omega (arith, f.1, length-between row at end width) in
    is.1 (at + f.0, omega arith, omega (arith, near), sym (get_or-between row at end f.0 false (omega (arith, near))) ∙ f.2))

-- none of a range is set
pub none_set : (row : List Bool) (at end : ℕ) (b : Bool) → b ≡ false
    → (b ≡ true) ↔ ((k : ℕ) × (at ≤ k) × (k < end) × (get_or row k false ≡ true)) → (k : ℕ) → at ≤ k → k < end → get_or row k false ≡ false
none_set row at end b none some k low high = unset (get_or row k false) (λ set. absurd (let any = some.1 (k, low, high, set) in cc))
