-- Where bytes occur in others: from one place up to the other.
use Rattle.std.proofs.Common.{◌≡◌, ℕ, suc, ◌+◌, ◌-◌, ◌<◌, List, [], ◌∷◌, ◌++◌, length, get_or, take, drop, inl, inr, refl, sym, ap, ap₂, ◌∙◌, arith, append_assoc, length-append, eqb-true, IsTrue}
use Rattle.std.proofs.lemmas.Bool.{cases_lt, eq-eqb}
use Rattle.std.proofs.lemmas.List.{take-append-drop, take_at, drop_at, drop-drop, get_or-drop, get_or_past}
use Rattle.std.proofs.Math.Seq.{drop-cons, take-add}
use Rattle.lic_places.specs.Places.{Occurs, is_blank_at}

-- what begins at the place begins with the bytes that are there
pub Occurs-drop : (bytes : List ℕ) (p : ℕ) (text : List ℕ) (q : ℕ) → Occurs bytes p text q
    → drop p bytes ≡ text ++ drop q bytes
Occurs-drop bytes p text q occurs =
    let end : p + (q - p) ≡ q = omega (arith, occurs.0) in
    sym (take-append-drop (q - p) (drop p bytes))
    ∙ ap₂ (λ x y. x ++ y) occurs.1 (drop-drop (q - p) p bytes ∙ ap (λ n. drop n bytes) end)

pub Occurs-from : (bytes : List ℕ) (p : ℕ) (text after : List ℕ) (q : ℕ) → q ≡ p + length text
    → drop p bytes ≡ text ++ after → Occurs bytes p text q
Occurs-from bytes p text after q is from =
    let many : q - p ≡ length text = omega arith in
    (is, ap₂ take many from ∙ take_at text after (length text) refl)

-- nothing occurs anywhere
pub Occurs-nil : (bytes : List ℕ) (p : ℕ) → Occurs bytes p [] p
Occurs-nil bytes p = Occurs-from bytes p [] (drop p bytes) p (omega arith) refl

-- one after another
pub Occurs-append : (bytes : List ℕ) (p : ℕ) (a : List ℕ) (q : ℕ) (b : List ℕ) (r : ℕ) → Occurs bytes p a q
    → Occurs bytes q b r → Occurs bytes p (a ++ b) r
Occurs-append bytes p a q b r first second =
    Occurs-from bytes p (a ++ b) (drop r bytes) r (omega (arith, length-append a b, first.0, second.0))
    (Occurs-drop bytes p a q first ∙ ap (λ l. a ++ l) (Occurs-drop bytes q b r second)
    ∙ sym (append_assoc a b (drop r bytes)))

pub Occurs-left : (bytes : List ℕ) (p : ℕ) (a b : List ℕ) (r : ℕ) → Occurs bytes p (a ++ b) r
    → Occurs bytes p a (p + length a)
Occurs-left bytes p a b r both =
    Occurs-from bytes p a (b ++ drop r bytes) (p + length a) refl
    (Occurs-drop bytes p (a ++ b) r both ∙ append_assoc a b (drop r bytes))

pub Occurs-right : (bytes : List ℕ) (p : ℕ) (a b : List ℕ) (r : ℕ) → Occurs bytes p (a ++ b) r
    → Occurs bytes (p + length a) b r
Occurs-right bytes p a b r both =
    Occurs-from bytes (p + length a) b (drop r bytes) r (omega (arith, length-append a b, both.0))
    (sym (drop-drop (length a) p bytes)
    ∙ ap (drop (length a)) (Occurs-drop bytes p (a ++ b) r both ∙ append_assoc a b (drop r bytes))
    ∙ drop_at a (b ++ drop r bytes) (length a) refl)

-- bytes among others
pub Occurs-among : (front text after : List ℕ)
    → Occurs (front ++ (text ++ after)) (length front) text (length front + length text)
Occurs-among front text after =
    Occurs-from (front ++ (text ++ after)) (length front) text after (length front + length text) refl
    (drop_at front (text ++ after) (length front) refl)

-- what ends at a place ends with the bytes that come before it
pub Occurs-take : (bytes : List ℕ) (p : ℕ) (text : List ℕ) (q : ℕ) → Occurs bytes p text q
    → take q bytes ≡ take p bytes ++ text
Occurs-take bytes p text q occurs =
    ap (λ n. take n bytes) occurs.0 ∙ take-add p (length text) bytes
    ∙ ap (λ l. take p bytes ++ l)
    (ap (take (length text)) (Occurs-drop bytes p text q occurs) ∙ take_at text (drop q bytes) (length text) refl)

-- ---- the first byte

pub Occurs-first : (bytes : List ℕ) (p c : ℕ) (text : List ℕ) (q : ℕ) → Occurs bytes p (c ∷ text) q
    → get_or bytes p 0 ≡ c
Occurs-first bytes p c text q occurs =
    let at : p ≡ p + 0 = omega arith in
    ap (λ n. get_or bytes n 0) at ∙ sym (get_or-drop p bytes 0 0)
    ∙ ap (λ l. get_or l 0 0) (Occurs-drop bytes p (c ∷ text) q occurs)

is_inside : (bytes : List ℕ) (p : ℕ) → (get_or bytes p 0 ≡ 0 → ⊥) → p < length bytes
is_inside bytes p some = elim (cases_lt p (length bytes)) [
  | inl within ↦ within
  | inr past ↦ absurd (some (get_or_past bytes p 0 past))
]

-- a blank is at a place
pub blank_occurs : (bytes : List ℕ) (p : ℕ) → IsTrue (is_blank_at bytes p) → Occurs bytes p (0x20 ∷ []) (suc p)
blank_occurs bytes p blank =
    let here : get_or bytes p 0 ≡ 0x20 = eqb-true (get_or bytes p 0) 0x20 blank in
    let within : p < length bytes = is_inside bytes p (λ none. absurd (let e : 0 ≡ 0x20 = sym none ∙ here in omega (arith, e))) in
    Occurs-from bytes p (0x20 ∷ []) (drop (suc p) bytes) (suc p) (omega arith)
    (drop-cons bytes p 0 within ∙ ap (λ c. c ∷ drop (suc p) bytes) here)

pub occurs_blank : (bytes : List ℕ) (p : ℕ) (text : List ℕ) (q : ℕ) → Occurs bytes p (0x20 ∷ text) q
    → IsTrue (is_blank_at bytes p)
occurs_blank bytes p text q occurs = eq-eqb (get_or bytes p 0) 0x20 (Occurs-first bytes p 0x20 text q occurs)
