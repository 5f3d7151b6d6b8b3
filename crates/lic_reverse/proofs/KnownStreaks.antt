-- Streaks that are known, and those that continue from them.
use Rattle.std.proofs.Common.{◌≡◌, ◌⊎◌, ℕ, zero, suc, ◌+◌, ◌-◌, ◌<◌, ◌≤◌, Bool, true, List, [], ◌∷◌, length, get_or, take, drop, inl, inr, refl, sym, ap, subst, ◌∙◌, arith, drop-cons, slice_range}
use Rattle.std.specs.Str.{IsAscii}
use Rattle.std.proofs.Math.Utf8.{encode, low_scalar}
use Rattle.std.proofs.lemmas.List.{get_or-drop, get_or-take}
use Rattle.std.proofs.lemmas.Str.{encode_ascii}
use Rattle.lic_places.specs.Places.{Occurs}
use Rattle.lic_reverse.specs.declared.letters.streak.Streak.{Streak}
use Rattle.lic_view.specs.LettersBefore.{IsLetterBefore}
use Rattle.lic_reverse.specs.Streaks.{IsChain, IsStreakStart}
use Rattle.lic_reverse.specs.StreaksKnown.{IsLongest, IsNoneBefore, IsStreakBackTo}
use Rattle.lic_reverse.proofs.StreakChains.{letter-forward}

-- no letters come before the first place
pub longest-first : (bytes : List ℕ) (passes : ℕ → Bool) (count : ℕ) (streak : Streak) → streak.low ≡ 0 → streak.place ≡ 0 → streak.number ≡ 0 → IsLongest bytes passes count streak
longest-first bytes passes count streak low place none = record {
  few = omega arith;
  chain = subst (λ n. IsChain bytes passes n streak.low streak.place) (sym none) (low ∙ sym place);
  stop = inr (λ p c is passing. omega (arith, letter-forward bytes streak.low p c is));
}

-- the place where it begins
pub longest-start : (bytes : List ℕ) (passes : ℕ → Bool) (count place : ℕ) (streak : Streak) → streak.place ≡ place → IsLongest bytes passes count streak →
    IsStreakStart bytes passes count place streak.low
longest-start bytes passes count place streak same longest = record {
  number = streak.number;
  few = longest.few;
  chain = subst (IsChain bytes passes streak.number streak.low) same longest.chain;
  stop = longest.stop;
}

-- one chain after another
pub chain-joined : (bytes : List ℕ) (passes : ℕ → Bool) (m n low middle place : ℕ) → IsChain bytes passes m low middle → IsChain bytes passes n middle place →
    IsChain bytes passes (m + n) low place
chain-joined bytes passes zero n low middle place first second =
    let none : n ≡ 0 + n = omega arith in
    subst (λ k. IsChain bytes passes k low place) none (subst (λ x. IsChain bytes passes n x place) (sym first) second)
chain-joined bytes passes (suc m) n low middle place first second =
    let next : suc (m + n) ≡ suc m + n = omega arith in
    subst (λ k. IsChain bytes passes k low place) next
    (first.0, first.1, first.2, first.3, chain-joined bytes passes m n first.0 middle place first.4 second)

-- two streaks, one after the other, without the letters that are too many
pub longest-joined : (bytes : List ℕ) (passes : ℕ → Bool) (count many : ℕ) (first second streak : Streak) → IsLongest bytes passes count first →
    IsStreakBackTo bytes passes count first.place second → second.low ≡ first.place → many ≡ first.number - (count - second.number) →
    ((n q : ℕ) → IsChain bytes passes (many + n) first.low q → IsChain bytes passes n streak.low q) →
    streak.place ≡ second.place → streak.number ≡ (first.number - many) + second.number → IsLongest bytes passes count streak
longest-joined bytes passes count many first second streak longest back meets gone shortened place number = record {
  few = omega (arith, longest.few, back.few);
  chain = subst (λ n. IsChain bytes passes n streak.low streak.place) (sym number)
      (subst (IsChain bytes passes ((first.number - many) + second.number) streak.low) (sym place)
      (chain-joined bytes passes (first.number - many) second.number streak.low first.place second.place
      (shortened (first.number - many) first.place (subst (λ n. IsChain bytes passes n first.low first.place) all longest.chain))
      (subst (λ x. IsChain bytes passes second.number x second.place) meets back.chain)));
  stop = by_many many gone longest.stop;
}
  where
    stays : many ≡ 0 → streak.low ≡ first.low
    stays none =
        let no_more : 0 ≡ many + 0 = omega arith in
        shortened 0 first.low (subst (λ n. IsChain bytes passes n first.low first.low) no_more refl)

    all : first.number ≡ many + (first.number - many)
    all = omega arith

    by_many : (n : ℕ) → n ≡ first.number - (count - second.number) → (first.number ≡ count) ⊎ IsNoneBefore bytes passes first.low →
        (streak.number ≡ count) ⊎ IsNoneBefore bytes passes streak.low
    by_many (suc n) is stop = inl (omega (arith, is, gone, number, longest.few, back.few))
    by_many zero is (inl full) = inl (omega (arith, is, gone, full, number, longest.few, back.few))
    by_many zero is (inr none) = inr (subst (IsNoneBefore bytes passes) (sym (stays (omega arith))) none)

-- a byte of ASCII is a letter
ascii-letter : (bytes : List ℕ) (p : ℕ) → get_or bytes p 0 < 128 → p < length bytes → IsLetterBefore bytes (suc p) p (get_or bytes p 0)
ascii-letter bytes p ascii within = record { scalar = low_scalar c (omega (arith, ascii)); occurs = occurs }
  where
    c : ℕ
    c = get_or bytes p 0

    one : encode c ≡ c ∷ []
    one = encode_ascii c ascii

    many : suc p - p ≡ 1
    many = omega arith

    here : take (suc p - p) (drop p bytes) ≡ c ∷ []
    here = ap (λ n. take n (drop p bytes)) many ∙ ap (take 1) (drop-cons bytes p 0 within) ∙ ap (λ b. b ∷ []) refl

    occurs : Occurs bytes p (encode c) (suc p)
    occurs = (omega (arith, ap length one), here ∙ sym one)

-- bytes of ASCII are a chain of letters
ascii-chain : (bytes : List ℕ) (n low place : ℕ) → ((p : ℕ) → low ≤ p → p < place → get_or bytes p 0 < 128) → place ≤ length bytes → place ≡ low + n →
    IsChain bytes (λ _. true) n low place
ascii-chain bytes zero low place ascii within is = omega arith
ascii-chain bytes (suc n) low place ascii within is = (
  suc low,
  get_or bytes low 0,
  ascii-letter bytes low (ascii low (omega arith) (omega arith)) (omega arith),
  refl,
  ascii-chain bytes n (suc low) place (λ p from to. ascii p (omega arith) to) within (omega arith),
)

-- so is a block of them that ends at a place
pub block-chain : (bytes : List ℕ) (size place : ℕ) → size ≤ place → place ≤ length bytes → IsAscii (slice_range bytes (place - size) place) →
    IsChain bytes (λ _. true) size (place - size) place
block-chain bytes size place many within ascii = ascii-chain bytes size (place - size) place each within (omega arith)
  where
    each : (p : ℕ) → place - size ≤ p → p < place → get_or bytes p 0 < 128
    each p from to =
        let at : (place - size) + (p - (place - size)) ≡ p = omega arith in
        let same : get_or (slice_range bytes (place - size) place) (p - (place - size)) 0 ≡ get_or bytes p 0 =
        get_or-take (place - (place - size)) (drop (place - size) bytes) (p - (place - size)) 0 (omega arith)
        ∙ get_or-drop (place - size) bytes (p - (place - size)) 0
        ∙ ap (λ k. get_or bytes k 0) at in
        omega (arith, ascii (p - (place - size)), same)

pub ascii-start : (bytes : List ℕ) (count place : ℕ) → IsAscii bytes → place ≤ length bytes → count ≤ place → IsStreakStart bytes (λ _. true) count place (place - count)
ascii-start bytes count place ascii within many = record {
  number = count;
  few = omega arith;
  chain = ascii-chain bytes count (place - count) place (λ p _ _. ascii p) within (omega arith);
  stop = inl refl;
}

-- without the first letter
pub chain-shorter : (bytes : List ℕ) (passes : ℕ → Bool) (m k low after place : ℕ) → m ≡ suc k →
    ((end letter : ℕ) → IsLetterBefore bytes end low letter → end ≡ after) → IsChain bytes passes m low place → IsChain bytes passes k after place
chain-shorter bytes passes m k low after place more ends chain =
    let longer = subst (λ n. IsChain bytes passes n low place) more chain in
    subst (λ x. IsChain bytes passes k x place) (ends longer.0 longer.1 longer.2) longer.4
