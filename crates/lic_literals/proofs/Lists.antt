-- Lists with an element more, and lists of lists.
use Rattle.std.proofs.Common.{◌≡◌, ℕ, ◌+◌, ◌<◌, List, [], ◌∷◌, ◌++◌, Some, length, get_or, set, sym, ap, ◌∙◌, subst, arith}
use Rattle.std.specs.List.{Contains, slice_get}
use Rattle.std.proofs.lemmas.Bool.{cases_eq}
use Rattle.std.proofs.lemmas.List.{get_or-set_other, get_or-set_same, get_or_append_left, get_or_push, length_push}
use Rattle.std.proofs.lemmas.Option.{same_Some, slice_get-get_or, slice_get_within}
use Rattle.std.proofs.Math.Logic.{⊎_elim}

pub Contains-nil : (x : ℕ) → Contains {X = ℕ} [] x → ⊥
Contains-nil x (i, within, is) = omega arith

-- one of the lists gets more elements
pub Contains-set : (lists : List (List ℕ)) (i : ℕ) (now : List ℕ) → i < length lists → ((p : ℕ) → Contains (get_or lists i []) p → Contains now p) →
    (j p : ℕ) → Contains (get_or lists j []) p → Contains (get_or (set lists i now) j []) p
Contains-set lists i now within kept j p h =
    ⊎_elim
    (λ (same : j ≡ i).
    subst (λ n. Contains (get_or (set lists i now) n []) p) (sym same)
    (subst (λ xs. Contains xs p) (sym (get_or-set_same lists i now [] within)) (kept p (subst (λ n. Contains (get_or lists n []) p) same h))))
    (λ (other : j ≡ i → ⊥). subst (λ xs. Contains xs p) (sym (get_or-set_other lists i j now [] other)) h)
    (cases_eq j i)

-- what is at an offset of a list with one element more
module _ {A : Type 0} (xs : List A) (y : A) where
  pub read_before : (k : ℕ) (x : A) → slice_get xs k ≡ Some x → slice_get (xs ++ y ∷ []) k ≡ Some x
  read_before k x at =
      let within : k < length xs = slice_get_within xs k x at in
      let size : length (xs ++ y ∷ []) ≡ length xs + 1 = length_push xs y in
      slice_get-get_or (xs ++ y ∷ []) k x (omega arith)
      ∙ ap Some (get_or_append_left xs (y ∷ []) x k within ∙ same_Some (get_or xs k x) x (sym (slice_get-get_or xs k x within) ∙ at))

  pub read_last : (k : ℕ) → k ≡ length xs → slice_get (xs ++ y ∷ []) k ≡ Some y
  read_last k last =
      let size : length (xs ++ y ∷ []) ≡ length xs + 1 = length_push xs y in
      slice_get-get_or (xs ++ y ∷ []) k y (omega arith) ∙ ap Some (get_or_push xs y y k (sym last))

  module _ (k : ℕ) (x : A) (there : slice_get (xs ++ y ∷ []) k ≡ Some x) where
    pub push_within : k < length xs + 1
    push_within = let within : k < length (xs ++ y ∷ []) = slice_get_within (xs ++ y ∷ []) k x there in omega (arith, length_push xs y)

    push_reads : get_or (xs ++ y ∷ []) k x ≡ x
    push_reads =
        let within : k < length (xs ++ y ∷ []) = slice_get_within (xs ++ y ∷ []) k x there in
        same_Some (get_or (xs ++ y ∷ []) k x) x (sym (slice_get-get_or (xs ++ y ∷ []) k x within) ∙ there)

    pub push_before : k < length xs → slice_get xs k ≡ Some x
    push_before before = slice_get-get_or xs k x before ∙ ap Some (sym (get_or_append_left xs (y ∷ []) x k before) ∙ push_reads)

    pub push_last : length xs ≡ k → y ≡ x
    push_last last = sym (get_or_push xs y x k last) ∙ push_reads
