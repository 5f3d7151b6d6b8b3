-- Lemmas on what has been written, a piece at a time.
use Rattle.std.proofs.Common.{◌≡◌, ℕ, ◌+◌, ◌-◌, List, [], ◌++◌, take, drop, length, Option, sym, subst, refl, append-nil, arith, ◌∷◌, ◌∙◌, ap, append_assoc}
use Rattle.std.proofs.lemmas.Grind.{common_steps, flat_map-append}
use Rattle.std.specs.List.{flat_map}
use Rattle.lic_stream.specs.Stream.{BeginsWith}
use Rattle.std.proofs.Math.Seq.{take-add}
use Rattle.std.proofs.KnownBytes.{Appends-trans, Appends-nil}
use Rattle.std.specs.Io.KnownBytes.{Appends}

-- a slice from i on, as the code takes it
pub take-rest : (xs : List ℕ) (i : ℕ) → take (length xs - i) (drop i xs) ≡ drop i xs
take-rest xs i = grind (arith, common_steps)

-- nothing was appended after xs
pub Appends-none : (a b c : Option (List ℕ)) (xs ys : List ℕ) (n : ℕ) → Appends a b xs → Appends b c (take n ys) → n ≡ 0 → Appends a c xs
Appends-none a b c xs ys n p q e =
    let r : Appends b c [] = rw e at q in
    subst (λ l. Appends a c l) (append-nil xs) (Appends-trans a b c xs [] p r)

-- the first i bytes of xs, and then the next n
pub Appends-take : (a b c : Option (List ℕ)) (xs : List ℕ) (i n : ℕ) → Appends a b (take i xs)
    → Appends b c (take n (take (length xs - i) (drop i xs))) → Appends a c (take (i + n) xs)
Appends-take a b c xs i n p q =
    let r : Appends b c (take n (drop i xs)) = subst (λ l. Appends b c (take n l)) (take-rest xs i) q in
    subst (λ l. Appends a c l) (sym (take-add i n xs)) (Appends-trans a b c _ _ p r)

-- nothing is a beginning of everything
pub begins_empty : (a : Option (List ℕ)) (all : List ℕ) → BeginsWith a a all
begins_empty a all = ([], all, Appends-nil a, refl)

-- ---- lines that are gathered before they are written

-- these bytes were put, and those are gathered
pub record IsPut (old new : Option (List ℕ)) (gathered lines : List ℕ) : Type 0 where
  pub put : List ℕ
  pub appends : Appends old new put
  pub whole : lines ≡ put ++ gathered

pub put_nothing : (a : Option (List ℕ)) → IsPut a a [] []
put_nothing a = record { put = []; appends = Appends-nil a; whole = refl }

-- one line more is gathered
pub put_line : {X : Type 0} (f : X → List ℕ) (done : List X) (x : X) (a b : Option (List ℕ)) (gathered more : List ℕ)
    → IsPut a b gathered (flat_map f done) → more ≡ gathered ++ f x → IsPut a b more (flat_map f (done ++ x ∷ []))
put_line f done x a b gathered more p e =
    record {
      put = p.put;
      appends = p.appends;
      whole = flat_map-append f done (x ∷ []) ∙ ap (λ l. l ++ flat_map f (x ∷ [])) p.whole ∙ append_assoc p.put gathered (flat_map f (x ∷ []))
          ∙ ap (λ l. p.put ++ (gathered ++ l)) (append-nil (f x)) ∙ ap (λ l. p.put ++ l) (sym e);
    }

-- some of what is gathered is put
pub put_more : (a b c : Option (List ℕ)) (gathered rest lines : List ℕ)
    → IsPut a b gathered lines → ((put : List ℕ) × Appends b c put × (gathered ≡ put ++ rest)) → IsPut a c rest lines
put_more a b c gathered rest lines p q =
    record {
      put = p.put ++ q.0;
      appends = Appends-trans a b c p.put q.0 p.appends q.1;
      whole = p.whole ∙ ap (λ l. p.put ++ l) q.2 ∙ sym (append_assoc p.put q.0 rest);
    }

-- all that is gathered is put
pub put_whole : (a b c : Option (List ℕ)) (gathered lines : List ℕ) → IsPut a b gathered lines → Appends b c gathered → Appends a c lines
put_whole a b c gathered lines p q = subst (λ l. Appends a c l) (sym p.whole) (Appends-trans a b c p.put gathered p.appends q)

-- what was put so far is a beginning of all lines
pub put_begins : {X : Type 0} (f : X → List ℕ) (all done rest : List X) (a b : Option (List ℕ)) (gathered : List ℕ)
    → IsPut a b gathered (flat_map f done) → all ≡ done ++ rest → BeginsWith a b (flat_map f all)
put_begins f all done rest a b gathered p e = (
  p.put,
  gathered ++ flat_map f rest,
  p.appends,
  ap (flat_map f) e ∙ flat_map-append f done rest ∙ ap (λ l. l ++ flat_map f rest) p.whole ∙ append_assoc p.put gathered (flat_map f rest),
)

-- and so is what was put with a beginning of what is gathered
pub put_begins_within : {X : Type 0} (f : X → List ℕ) (all done rest : List X) (a b c : Option (List ℕ)) (gathered : List ℕ)
    → IsPut a b gathered (flat_map f done) → BeginsWith b c gathered → all ≡ done ++ rest → BeginsWith a c (flat_map f all)
put_begins_within f all done rest a b c gathered p q e =
    let within : IsPut a c q.1 (flat_map f done) = put_more a b c gathered q.1 (flat_map f done) p (q.0, q.2, q.3) in
    put_begins f all done rest a c q.1 within e
