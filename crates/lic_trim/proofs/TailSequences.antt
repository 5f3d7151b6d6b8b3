-- A sequence of pieces in reverse is a sequence of reversed pieces, so the tail of a line is the lead of its reverse.
use Rattle.std.proofs.Common.{◌≡◌, ℕ, zero, suc, ◌-◌, ◌<◌, ◌≤◌, Bool, true, false, cond, List, [], ◌∷◌, length, take, drop, reverse, refl, sym, ap, ap₂, ◌∙◌, subst, ⊎_elim, arith}
use Rattle.std.specs.List.{flat_map, list_all}
use Rattle.std.proofs.lemmas.Bool.{and_parts, cases_Bool, cases_lt, cond-true, cond-false, false≢true}
use Rattle.std.proofs.lemmas.List.{reverse-append, reverse-reverse, length-reverse}
use Rattle.lic_trim.specs.Texts.{IsSequence, is_sequence, greatest, longest_front, longest_end}
use Rattle.lic_trim.proofs.TextLemmas.{same_truth, take-reverse}
use Rattle.lic_trim.proofs.SequenceLemmas.{is_sequence-sound, is_sequence-complete, sequence_push}

module _ {A : Type 0} (p q : List A → Bool) (turns : (x : List A) → p x ≡ true → q (reverse x) ≡ true) where
  pieces_reverse : (pieces : List (List A)) → list_all p pieces ≡ true → IsSequence q (reverse (flat_map (λ piece. piece) pieces))
  pieces_reverse [] h = ([], refl, refl)
  pieces_reverse (first ∷ pieces) h =
      let parts = and_parts (p first) (list_all p pieces) h in
      let rest = flat_map (λ piece. piece) pieces in
      subst (IsSequence q) (sym (reverse-append first rest)) (sequence_push q (reverse rest) (reverse first) (pieces_reverse pieces parts.1) (turns first parts.0))

  sequence_reverse : (text : List A) → is_sequence p text ≡ true → is_sequence q (reverse text) ≡ true
  sequence_reverse text h =
      let sequence = is_sequence-sound p text h in
      is_sequence-complete q (reverse text) (subst (λ l. IsSequence q (reverse l)) sequence.2 (pieces_reverse sequence.0 sequence.1))

is_sequence-reverse : {A : Type 0} (p : List A → Bool) (text : List A) → is_sequence p text ≡ is_sequence (λ x. p (reverse x)) (reverse text)
is_sequence-reverse p text = same_truth _ _
    (sequence_reverse p (λ x. p (reverse x)) (λ x h. ap p (reverse-reverse x) ∙ h) text)
    (λ h. subst (λ l. is_sequence p l ≡ true) (reverse-reverse text) (sequence_reverse (λ x. p (reverse x)) p (λ x e. e) (reverse text) h))

greatest-same : (f g : ℕ → Bool) (n : ℕ) → ((m : ℕ) → m ≤ n → f m ≡ g m) → greatest f n ≡ greatest g n
greatest-same f g zero same = refl
greatest-same f g (suc n) same = ap₂ (λ b m. cond b (suc n) m) (same (suc n) (omega arith)) (greatest-same f g n (λ m le. same m (omega arith)))

pub longest_end-reverse : {A : Type 0} (p : List A → Bool) (text : List A)
    → longest_end (is_sequence p) text ≡ longest_front (is_sequence (λ x. p (reverse x))) (reverse text)
longest_end-reverse {A} p text =
    let n = length text in
    let q = λ (x : List A). p (reverse x) in
    greatest-same (λ m. is_sequence p (drop (n - m) text)) (λ m. is_sequence q (take m (reverse text))) n
    (λ m le. is_sequence-reverse p (drop (n - m) text) ∙ ap (is_sequence q) (sym (take-reverse m text le)))
    ∙ ap (greatest (λ m. is_sequence q (take m (reverse text)))) (sym (length-reverse text))

-- ---- the greatest number that passes
pub greatest_above : (test : ℕ → Bool) (n m : ℕ) → greatest test n < m → m ≤ n → test m ≡ false
greatest_above test zero m more le = absurd (omega arith)
greatest_above test (suc n) m more le =
    ⊎_elim
    (λ yes. absurd (omega (arith, cond-true (test (suc n)) (suc n) (greatest test n) yes)))
    (λ none.
    ⊎_elim
    (λ below. greatest_above test n m (omega (arith, cond-false (test (suc n)) (suc n) (greatest test n) none)) (omega arith))
    (λ last. let e : suc n ≡ m = omega arith in subst (λ i. test i ≡ false) e none)
    (cases_lt m (suc n)))
    (cases_Bool (test (suc n)))

pub greatest_stays : (test : ℕ → Bool) (k n : ℕ) → k ≤ n → ((m : ℕ) → k < m → m ≤ n → test m ≡ false) → greatest test n ≡ greatest test k
greatest_stays test k zero le none = let e : 0 ≡ k = omega arith in ap (greatest test) e
greatest_stays test k (suc n) le none =
    ⊎_elim
    (λ below. cond-false (test (suc n)) (suc n) (greatest test n) (none (suc n) below (omega arith))
    ∙ greatest_stays test k n (omega arith) (λ m lt h. none m lt (omega arith)))
    (λ last. let e : suc n ≡ k = omega arith in ap (greatest test) e)
    (cases_lt k (suc n))

pub greatest_le : (test : ℕ → Bool) (n : ℕ) → greatest test n ≤ n
greatest_le test zero = omega arith
greatest_le test (suc n) =
    ⊎_elim
    (λ yes. omega (arith, cond-true (test (suc n)) (suc n) (greatest test n) yes))
    (λ none. omega (arith, cond-false (test (suc n)) (suc n) (greatest test n) none, greatest_le test n))
    (cases_Bool (test (suc n)))

pub greatest_ge : (test : ℕ → Bool) (n m : ℕ) → m ≤ n → test m ≡ true → m ≤ greatest test n
greatest_ge test n m le h =
    ⊎_elim
    (λ more. absurd (false≢true (sym (greatest_above test n m more le) ∙ h)))
    (λ fine. fine)
    (cases_lt (greatest test n) m)
