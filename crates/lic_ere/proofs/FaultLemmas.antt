-- What a refusal says of a longer reading.
use Rattle.std.proofs.Common.{◌≡◌, ℕ, List, drop, Result, Ok, Err, refl, ap, sym, subst}
use Rattle.std.specs.Result.{IsErrAnd}
use Rattle.std.proofs.lemmas.List.{drop-drop}
use Rattle.lic_ere.specs.declared.fault.EreFault.{EreFault}
use Rattle.lic_ere.specs.declared.fault.EreCause.{EreCause}
use Rattle.lic_ere.specs.declared.fault.EreCause.TheVariants.{OutOfMemory}
use Rattle.lic_ere.specs.Located.{Located, further, with_remaining}
use Rattle.lic_ere.specs.Faults.{fault_at, Fails, Gives, map_ok}

-- a reading that fails wherever another does fails with it
pub Fails-with : {A B : Type 0} (cause : EreCause) (offset : ℕ) (r : Result A EreFault) (s : Result B EreFault)
    → ((e : EreFault) → r ≡ Err e → s ≡ Err e) → Fails cause offset r → Fails cause offset s
Fails-with OutOfMemory offset r s along h = h
Fails-with cause offset r s along h = along (fault_at offset cause) h

-- the exit by `?` of a reader that failed
pub Gives-err : {X A B : Type 0} (view : X → B) (result : Result X EreFault) (e : EreFault) (r : Result A EreFault)
    (s : Result B EreFault) → IsErrAnd result (λ f. f ≡ e) → ((d : EreFault) → r ≡ Err d → s ≡ Err d)
    → Fails e.cause e.offset r → Gives view result s
Gives-err view (Ok x) e r s left along h = absurd left
Gives-err view (Err f) e r s left along h = subst (λ (d : EreFault). Fails d.cause d.offset s) (sym left) (Fails-with e.cause e.offset r s along h)

pub map_ok-same : {A B : Type 0} (f g : A → B) (r : Result A EreFault) → ((x : A) → f x ≡ g x) → map_ok f r ≡ map_ok g r
map_ok-same f g (Ok x) same = ap (λ y. Ok y) (same x)
map_ok-same f g (Err e) same = refl

pub map_ok-map_ok : {A B C : Type 0} (g : B → C) (f : A → B) (r : Result A EreFault) → map_ok g (map_ok f r) ≡ map_ok (λ x. g (f x)) r
map_ok-map_ok g f (Ok x) = refl
map_ok-map_ok g f (Err e) = refl

pub with_remaining-further : {A : Type 0} (n : ℕ) (rest : List Located) (x : A × ℕ) → with_remaining rest (further n x) ≡ with_remaining (drop n rest) x
with_remaining-further n rest x = ap (λ l. (x.0, l)) (sym (drop-drop x.1 n rest))

pub Gives-same : {X A : Type 0} (view : X → A) (result : Result X EreFault) (r s : Result A EreFault) → r ≡ s → Gives view result r → Gives view result s
Gives-same view result r s same h = subst (Gives view result) same h
