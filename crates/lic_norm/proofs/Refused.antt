-- The refusal of an input by its length.
use Rattle.std.proofs.Common.{◌≡◌, ◌≢◌, ℕ, ◌+◌, ◌<◌, ◌≤◌, List, [], ◌∷◌, ◌++◌, None, Some, length, take, drop, get_or, refl, sym, ap, ◌∙◌, arith, inl, inr, length-append, append-nil, take-append-drop}
use Rattle.std.specs.Prelude.{if◌then◌else◌}
use Rattle.std.specs.List.{flat_map}
use Rattle.std.proofs.lemmas.Bool.{cases_lt, le-ltb, lt-ltb}
use Rattle.std.proofs.lemmas.Grind.{flat_map-append}
use Rattle.std.proofs.lemmas.List.{take_more}
use Rattle.lic_norm.specs.declared.fault.TextFault.{TextFault}
use Rattle.lic_norm.specs.Refusal.{refusal_of, max_bytes}
use Rattle.lic_norm.specs.declared.fault.TextFault.TheVariants.{TooLong, Memory}

pub accepted : (bytes : List ℕ) → length bytes ≤ max_bytes → refusal_of bytes ≡ None
unfolding refusal_of
accepted bytes le = ap (λ b. if b then Some TooLong else None) (le-ltb max_bytes (length bytes) le)

pub refused : (bytes : List ℕ) → max_bytes < length bytes → refusal_of bytes ≡ Some TooLong
unfolding refusal_of
refused bytes lt = ap (λ b. if b then Some TooLong else None) (lt-ltb max_bytes (length bytes) lt)

-- whichever fault an input that is too long is answered by, if it is not lack of memory
pub refused_unless_memory : (bytes : List ℕ) (fault : TextFault) → max_bytes < length bytes → fault ≢ Memory → refusal_of bytes ≡ Some fault
refused_unless_memory bytes TooLong long not_memory = refused bytes long
refused_unless_memory bytes Memory long not_memory = absurd (not_memory refl)

-- what is accepted is not too long
pub accepted_short : (bytes : List ℕ) → refusal_of bytes ≡ None → length bytes ≤ max_bytes
accepted_short bytes is = elim (cases_lt max_bytes (length bytes)) [
  | inl long ↦ absurd (let some : None ≡ Some TooLong = sym is ∙ refused bytes long in cc)
  | inr short ↦ short
]

-- what begins with a refused input is refused as it is
pub refused_longer : (front rest : List ℕ) (fault : TextFault) → refusal_of front ≡ Some fault → refusal_of (front ++ rest) ≡ Some fault
refused_longer front rest fault is = elim (cases_lt max_bytes (length front)) [
  | inl long ↦ refused (front ++ rest) (omega (arith, length-append front rest)) ∙ sym (refused front long) ∙ is
  | inr short ↦ absurd (let none : None ≡ Some fault = sym (accepted front short) ∙ is in cc)
]

-- and so are pieces where the first of them are refused
pub refused_piece : {X : Type 0} (f : X → List ℕ) (xs : List X) (i : ℕ) (d : X) (fed : List ℕ) (fault : TextFault) → i < length xs
    → fed ≡ flat_map f (take i xs) → refusal_of (fed ++ f (get_or xs i d)) ≡ Some fault → refusal_of (flat_map f xs) ≡ Some fault
refused_piece f xs i d fed fault inside first is =
    let later = drop (i + 1) xs in
    let front : fed ++ f (get_or xs i d) ≡ flat_map f (take (i + 1) xs) =
    ap (λ l. l ++ f (get_or xs i d)) first
    ∙ sym (ap (flat_map f) (take_more xs i d inside) ∙ flat_map-append f (take i xs) (get_or xs i d ∷ [])
    ∙ ap (λ l. flat_map f (take i xs) ++ l) (append-nil (f (get_or xs i d)))) in
    let whole : flat_map f xs ≡ (fed ++ f (get_or xs i d)) ++ flat_map f later =
    ap (flat_map f) (sym (take-append-drop (i + 1) xs)) ∙ flat_map-append f (take (i + 1) xs) later ∙ ap (λ l. l ++ flat_map f later) (sym front) in
    ap refusal_of whole ∙ refused_longer (fed ++ f (get_or xs i d)) (flat_map f later) fault is

-- what is refused is too long
pub refused_long : (bytes : List ℕ) (fault : TextFault) → refusal_of bytes ≡ Some fault → (max_bytes < length bytes) × (TooLong ≡ fault)
refused_long bytes fault is = elim (cases_lt max_bytes (length bytes)) [
  | inl long ↦ (long, let same : Some TooLong ≡ Some fault = sym (refused bytes long) ∙ is in cc)
  | inr short ↦ absurd (let none : None ≡ Some fault = sym (accepted bytes short) ∙ is in cc)
]
