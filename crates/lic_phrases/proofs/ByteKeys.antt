-- Keys that own bytes: what a change of a map at one of them leaves at any bytes.
use Rattle.std.proofs.Common.{◌≡◌, ◌∙◌, Bool, false, List, ℕ, sym, subst, ⊎_elim}
use Rattle.std.specs.Prelude.{bytes_eq, Option}
use Rattle.std.specs.Cmp.Lexicographic.{bytes_decides, nat_list_eq_equiv}
use Rattle.std.specs.HashMap.{HashMap}
use Rattle.std.specs.Map.{lookup, update, AreApart, IsKeyTest, KeepsOthers}
use Rattle.std.proofs.lemmas.Bool.{cases_Bool, cond-true, cond-false}
use Rattle.indexmap.specs.IndexMap.{get_by, UpdatesBy}

others : {K X : Type 0} (eq : K → K → Bool) (test : K → Bool) (old new : List (K × X)) → KeepsOthers eq test old new
    → (other : K → Bool) → IsKeyTest eq other → AreApart test other → lookup other new ≡ lookup other old
unfolding KeepsOthers
others eq test old new keeps = keeps

module _ {K X S : Type 0} (bytes : K → List ℕ) where
  -- what the map has at these bytes
  abbrev pub found_in : HashMap K X S → List ℕ → Option X
  found_in m text = get_by (λ k. bytes_eq text (bytes k)) m

  module _ (text : List ℕ) (old new : HashMap K X S) (value : Option X)
      (updates : UpdatesBy (λ x y. bytes_eq (bytes x) (bytes y)) (λ k. bytes_eq text (bytes k)) old new value) where
    other : (t : List ℕ) → bytes_eq text t ≡ false → found_in new t ≡ found_in old t
    other t apart =
        others (λ x y. bytes_eq (bytes x) (bytes y)) (λ k. bytes_eq text (bytes k)) old.entries new.entries updates.3 (λ k. bytes_eq t (bytes k))
        (λ x y. nat_list_eq_equiv.congr t (bytes x) (bytes y))
        (λ k same. nat_list_eq_equiv.symm t (bytes k) ∙ sym (nat_list_eq_equiv.congr text (bytes k) t same) ∙ apart)

    pub updated : (t : List ℕ) → found_in new t ≡ update bytes_eq (found_in old) text value t
    updated t =
        ⊎_elim
        (λ same. subst (λ l. found_in new l ≡ value) ((bytes_decides text t).0 same) updates.1 ∙ sym (cond-true (bytes_eq text t) value (found_in old t) same))
        (λ apart. other t apart ∙ sym (cond-false (bytes_eq text t) value (found_in old t) apart))
        (cases_Bool (bytes_eq text t))
