-- The members of a bracket, one after another.
use Rattle.std.proofs.Common.{◌≡◌, ℕ, zero, suc, ◌+◌, Bool, true, false, eqb, List, [], ◌∷◌, ◌++◌, length, drop, Result, Ok, Err, refl, ap, sym, ◌∙◌, append_assoc, arith}
use Rattle.std.proofs.lemmas.List.{drop-drop, append-nil}
use Rattle.std.proofs.lemmas.Bool.Decides.{nat_tests}
use Rattle.lic_ere.specs.declared.class.Member.{Member}
use Rattle.lic_ere.specs.declared.fault.EreFault.{EreFault}
use Rattle.lic_ere.specs.declared.fault.EreCause.TheVariants.{BracketNotClosed}
use Rattle.lic_ere.specs.Located.{Located, further, with_remaining}
use Rattle.lic_ere.specs.Faults.{fault_at, map_ok, ◌>>=◌}
use Rattle.lic_ere.specs.Brackets.{member_at, closes, members_at}
use Rattle.lic_ere.proofs.FaultLemmas.{map_ok-same, map_ok-map_ok, with_remaining-further}

-- what is read of the rest, after what was read before
abbrev pub following : {A : Type 0} → List A → Result (List A × List Located) EreFault → Result (List A × List Located) EreFault
following front r = map_ok (λ x. (front ++ x.0, x.1)) r

-- the members from here on, and what comes after them
abbrev pub members_of : ℕ → Bool → List Located → Result (List Member × List Located) EreFault
members_of offset first rest = map_ok (with_remaining rest) (members_at offset first 0 rest)

pub members-skipped : (offset : ℕ) (first : Bool) (n : ℕ) (xs : List Located)
    → map_ok (with_remaining xs) (members_at offset first n xs) ≡ members_of offset first (drop n xs)
unfolding members_at
members-skipped offset first zero xs = refl
members-skipped offset first (suc n) [] = refl
members-skipped offset first (suc n) (x ∷ xs) =
    map_ok-map_ok (with_remaining (x ∷ xs)) (further 1) (members_at offset first n xs)
    ∙ map_ok-same (λ y. with_remaining (x ∷ xs) (further 1 y)) (with_remaining xs) (members_at offset first n xs) (λ y. with_remaining-further 1 (x ∷ xs) y)
    ∙ members-skipped offset first n xs

module _ (offset : ℕ) (first : Bool) (x : Located) (after : List Located) (open_yet : closes first x.1 ≡ false) where
  abbrev next : Result (Member × ℕ) EreFault → Result (List Member × ℕ) EreFault
  next r = r >>= λ m. map_ok (λ ms. (m.0 ∷ ms.0, 1 + ms.1)) (members_at offset false m.1 after)

  members-next : members_at offset first 0 (x ∷ after) ≡ next (member_at x after)
  unfolding members_at
  members-next = rw open_yet refl

  next_turn : (r : Result (Member × ℕ) EreFault) (m : Member) (rest : List Located)
      → map_ok (with_remaining after) r ≡ Ok (m, rest)
      → map_ok (with_remaining (x ∷ after)) (next r) ≡ following (m ∷ []) (members_of offset false rest)
  next_turn (Err e) m rest is = absurd cc
  next_turn (Ok t) m rest is =
      let one : t.0 ≡ m = ap (λ (r : Result (Member × List Located) EreFault). elim r [ Ok y ↦ y.0 | Err e ↦ m ]) is in
      let two : drop t.1 after ≡ rest = ap (λ (r : Result (Member × List Located) EreFault). elim r [ Ok y ↦ y.1 | Err e ↦ rest ]) is in
      map_ok-map_ok (with_remaining (x ∷ after)) (λ ms. (t.0 ∷ ms.0, 1 + ms.1)) (members_at offset false t.1 after)
      ∙ map_ok-same (λ ms. with_remaining (x ∷ after) (t.0 ∷ ms.0, 1 + ms.1)) (λ ms. (t.0 ∷ ms.0, drop ms.1 after))
      (members_at offset false t.1 after) (λ ms.
      ap (λ (l : List Located). (t.0 ∷ ms.0, l)) (sym (drop-drop ms.1 1 (x ∷ after))))
      ∙ sym (map_ok-map_ok (λ y. (t.0 ∷ y.0, y.1)) (with_remaining after) (members_at offset false t.1 after))
      ∙ ap (λ (r : Result (List Member × List Located) EreFault). following (t.0 ∷ []) r) (members-skipped offset false t.1 after)
      ∙ (λ i. following (one i ∷ []) (members_of offset false (two i)))

  next_fails : (r : Result (Member × ℕ) EreFault) (e : EreFault) → map_ok (with_remaining after) r ≡ Err e → map_ok (with_remaining (x ∷ after)) (next r) ≡ Err e
  next_fails (Ok t) e is = absurd cc
  next_fails (Err d) e is = ap (λ (r : Result (Member × List Located) EreFault). elim r [ Ok y ↦ Err e | Err f ↦ Err f ]) is

  -- one more member
  pub members_turn : (rest : List Located) (m : Member) (others : List Located) → rest ≡ x ∷ after
      → map_ok (with_remaining after) (member_at x after) ≡ Ok (m, others)
      → members_of offset first rest ≡ following (m ∷ []) (members_of offset false others)
  members_turn rest m others all is =
      ap (members_of offset first) all ∙ ap (map_ok (with_remaining (x ∷ after))) members-next ∙ next_turn (member_at x after) m others is

  -- a fault in a member
  pub members_fail : (rest : List Located) (e : EreFault) → rest ≡ x ∷ after
      → map_ok (with_remaining after) (member_at x after) ≡ Err e → members_of offset first rest ≡ Err e
  members_fail rest e all is =
      ap (members_of offset first) all ∙ ap (map_ok (with_remaining (x ∷ after))) members-next ∙ next_fails (member_at x after) e is

pub following-following : {A : Type 0} (front more : List A) (r : Result (List A × List Located) EreFault) → following (front ++ more) r ≡ following front (following more r)
following-following front more (Ok x) = ap (λ l. Ok (l, x.1)) (append_assoc front more x.0)
following-following front more (Err e) = refl

-- one more member of a loop, which has count members so far
pub one_more : (offset count counted : ℕ) (front now : List Member) (x : Located) (after rest : List Located)
    (m : Member) (others : List Located) (total : Result (List Member × List Located) EreFault)
    → now ≡ front ++ m ∷ [] → counted ≡ count + 1 → closes (eqb count 0) x.1 ≡ false → rest ≡ x ∷ after
    → map_ok (with_remaining after) (member_at x after) ≡ Ok (m, others)
    → following front (members_of offset (eqb count 0) rest) ≡ total → following now (members_of offset (eqb counted 0) others) ≡ total
one_more offset count counted front now x after rest m others total pushed more open_yet all is so_far =
    let some : eqb counted 0 ≡ false = grind (arith, nat_tests) in
    (λ i. following (pushed i) (members_of offset (some i) others))
    ∙ following-following front (m ∷ []) (members_of offset false others)
    ∙ ap (following front) (sym (members_turn offset (eqb count 0) x after open_yet rest m others all is))
    ∙ so_far

-- the loop at the `]`
pub closed : (offset count : ℕ) (front : List Member) (x : Located) (after rest : List Located) (total : Result (List Member × List Located) EreFault)
    → closes (eqb count 0) x.1 ≡ true → rest ≡ x ∷ after → following front (members_of offset (eqb count 0) rest) ≡ total → total ≡ Ok (front, after)
unfolding members_at
closed offset count front x after rest total closing all so_far =
    sym so_far ∙ ap (λ (l : List Located). following front (members_of offset (eqb count 0) l)) all
    ∙ rw closing (ap (λ (l : List Member). Ok (l, after)) (append-nil front))

-- the loop at a fault
pub failed : (offset count : ℕ) (front : List Member) (x : Located) (after rest : List Located) (e : EreFault)
    (total : Result (List Member × List Located) EreFault)
    → closes (eqb count 0) x.1 ≡ false → rest ≡ x ∷ after → following front (members_of offset (eqb count 0) rest) ≡ total
    → map_ok (with_remaining after) (member_at x after) ≡ Err e → total ≡ Err e
failed offset count front x after rest e total open_yet all so_far is =
    sym so_far ∙ ap (following front) (members_fail offset (eqb count 0) x after open_yet rest e all is)

-- the loop at the end of the pattern
pub ended : (offset : ℕ) (first : Bool) (front : List Member) (rest : List Located) (total : Result (List Member × List Located) EreFault)
    → length rest ≡ 0 → following front (members_of offset first rest) ≡ total → total ≡ Err (fault_at offset BracketNotClosed)
unfolding members_at
ended offset first front [] total none so_far = sym so_far
ended offset first front (x ∷ rest) total none so_far = absurd (omega arith)
