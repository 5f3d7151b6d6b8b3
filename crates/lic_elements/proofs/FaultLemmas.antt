-- What a refusal says of a longer reading.
use Rattle.std.proofs.Common.{◌≡◌, ℕ, List, [], ◌++◌, drop, Result, Ok, Err, refl, ap, sym, subst, append_assoc}
use Rattle.std.specs.Result.{IsErrAnd}
use Rattle.std.proofs.lemmas.List.{drop-drop}
use Rattle.lic_elements.specs.declared.fault.MarkupFault.{MarkupFault}
use Rattle.lic_elements.specs.declared.fault.MarkupCause.{MarkupCause}
use Rattle.lic_elements.specs.declared.fault.MarkupCause.TheVariants.{OutOfMemory}
use Rattle.lic_ere.specs.Located.{Located, further, with_remaining}
use Rattle.lic_elements.specs.Faults.{fault_at, reported, reported_cause, Fails, Gives, map_ok}

-- a reading that fails wherever another does fails with it
pub Fails-with : {A B : Type 0} (cause : MarkupCause) (offset : ℕ) (r : Result A MarkupFault) (s : Result B MarkupFault)
    → ((e : MarkupFault) → r ≡ Err e → s ≡ Err e) → Fails cause offset r → Fails cause offset s
Fails-with OutOfMemory offset r s along h = h
Fails-with cause offset r s along h = along (fault_at offset cause) h

-- the exit by `?` of a reader that failed
pub Gives-err : {X A B : Type 0} (view : X → B) (result : Result X MarkupFault) (e : MarkupFault)
    (r : Result A MarkupFault) (s : Result B MarkupFault) → IsErrAnd result (λ f. f ≡ e)
    → ((d : MarkupFault) → r ≡ Err d → s ≡ Err d) → Fails e.cause e.offset r → Gives view result s
Gives-err view (Ok x) e r s left along h = absurd left
Gives-err view (Err f) e r s left along h = subst (λ (d : MarkupFault). Fails d.cause d.offset s) (sym left) (Fails-with e.cause e.offset r s along h)

pub map_ok-same : {A B : Type 0} (f g : A → B) (r : Result A MarkupFault) → ((x : A) → f x ≡ g x) → map_ok f r ≡ map_ok g r
map_ok-same f g (Ok x) same = ap (λ y. Ok y) (same x)
map_ok-same f g (Err e) same = refl

pub map_ok-map_ok : {A B C : Type 0} (g : B → C) (f : A → B) (r : Result A MarkupFault) → map_ok g (map_ok f r) ≡ map_ok (λ x. g (f x)) r
map_ok-map_ok g f (Ok x) = refl
map_ok-map_ok g f (Err e) = refl

pub with_remaining-further : {A : Type 0} (n : ℕ) (rest : List Located) (x : A × ℕ) → with_remaining rest (further n x) ≡ with_remaining (drop n rest) x
with_remaining-further n rest x = ap (λ l. (x.0, l)) (sym (drop-drop x.1 n rest))

pub Gives-same : {X A : Type 0} (view : X → A) (result : Result X MarkupFault) (r s : Result A MarkupFault) → r ≡ s → Gives view result r → Gives view result s
Gives-same view result r s same h = subst (Gives view result) same h

-- what is read of the rest, after what was read before
abbrev pub following : {A B : Type 0} → List A → Result (List A × B) MarkupFault → Result (List A × B) MarkupFault
following front r = map_ok (λ x. (front ++ x.0, x.1)) r

pub following-none : {A B : Type 0} (r : Result (List A × B) MarkupFault) → following [] r ≡ r
following-none (Ok x) = refl
following-none (Err e) = refl

pub following-following : {A B : Type 0} (front more : List A) (r : Result (List A × B) MarkupFault) → following (front ++ more) r ≡ following front (following more r)
following-following front more (Ok x) = ap (λ l. Ok (l, x.1)) (append_assoc front more x.0)
following-following front more (Err e) = refl

Fails-reported_cause : (A : Type 0) (cause : MarkupCause) (offset : ℕ)
    → Fails {Y = A} (reported_cause cause (fault_at offset cause)).cause (reported_cause cause (fault_at offset cause)).offset
    (Err (fault_at offset cause))
Fails-reported_cause A OutOfMemory offset = refl
Fails-reported_cause A _ offset = refl

-- a fault that is reported is that of a reading that fails with it
pub Fails-reported : (A : Type 0) (e f : MarkupFault) → f ≡ reported e → Fails {Y = A} f.cause f.offset (Err e)
Fails-reported A e f is = subst (λ (g : MarkupFault). Fails {Y = A} g.cause g.offset (Err e)) (sym is) (Fails-reported_cause A e.cause e.offset)
