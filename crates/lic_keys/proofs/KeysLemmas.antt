-- The longest texts of templates, one template after another.
use Rattle.std.proofs.Common.{◌≡◌, ℕ, ◌<◌, List, [], ◌∷◌, ◌++◌, Option, None, Some, inl, inr, length, get_or, refl, sym, subst, arith}
use Rattle.std.proofs.lemmas.Bool.{cases_lt}
use Rattle.std.proofs.lemmas.List.{get_or_append_left, get_or_push, length_push}
use Rattle.std.proofs.lemmas.Option.{get_or_from_slice_get, slice_get-get_or, slice_get_within}
use Rattle.lic_markup.specs.declared.part.Part.{Part}
use Rattle.lic_literals.proofs.Lists.{push_before, push_last, push_within}
use Rattle.lic_keys.specs.Keys.{AreKeysOf, HaveLetters, IsKeyOf, KeysValue}

abbrev pub keys_of : List (Option ℕ) → List (List ℕ) → KeysValue
keys_of texts letters = record { texts = texts; letters = letters }

pub AreKeysOf-nil : AreKeysOf [] (keys_of [] [])
AreKeysOf-nil = record { count = refl; letters = refl; each = λ k parts there. absurd (omega (arith, slice_get_within {A = List Part} [] k parts there)) }

-- a template more
pub AreKeysOf-push : (templates : List (List Part)) (texts : List (Option ℕ)) (letters : List (List ℕ)) (parts : List Part) (text : Option ℕ) (own : List ℕ) →
    AreKeysOf templates (keys_of texts letters) → IsKeyOf parts text own →
    AreKeysOf (templates ++ parts ∷ []) (keys_of (texts ++ text ∷ []) (letters ++ own ∷ []))
AreKeysOf-push templates texts letters parts text own keys is = record {
  count = omega (arith, length_push texts text, length_push templates parts, keys.count);
  letters = omega (arith, length_push letters own, length_push templates parts, keys.letters);
  each = λ k these there.
      elim (cases_lt k (length templates)) [
        | inl before ↦
            let same : get_or (texts ++ text ∷ []) k None ≡ get_or texts k None = get_or_append_left texts (text ∷ []) None k (omega (arith, keys.count)) in
            let alike : get_or (letters ++ own ∷ []) k [] ≡ get_or letters k [] = get_or_append_left letters (own ∷ []) [] k (omega (arith, keys.letters)) in
            let old : IsKeyOf these (get_or texts k None) (get_or letters k []) = keys.each k these (push_before templates parts k these there before) in
            subst (λ t. IsKeyOf these t (get_or (letters ++ own ∷ []) k [])) (sym same) (subst (IsKeyOf these (get_or texts k None)) (sym alike) old)
        | inr not_before ↦
            let last : length templates ≡ k = omega (arith, push_within templates parts k these there) in
            let here : get_or (texts ++ text ∷ []) k None ≡ text = get_or_push texts text None k (omega (arith, keys.count)) in
            let own_here : get_or (letters ++ own ∷ []) k [] ≡ own = get_or_push letters own [] k (omega (arith, keys.letters)) in
            let new : IsKeyOf these text own = subst (λ ps. IsKeyOf ps text own) (push_last templates parts k these there last) is in
            subst (λ t. IsKeyOf these t (get_or (letters ++ own ∷ []) k [])) (sym here) (subst (IsKeyOf these text) (sym own_here) new)
      ];
}

-- where a template has a text, this has letters
pub have-letters : (templates : List (List Part)) (texts : List (Option ℕ)) (letters : List (List ℕ)) → AreKeysOf templates (keys_of texts letters) →
    HaveLetters texts letters
have-letters templates texts letters keys = record {
  count = omega (arith, keys.count, keys.letters);
  some = λ k number there.
      let within : k < length texts = slice_get_within texts k (Some number) there in
      let is : get_or texts k None ≡ Some number = get_or_from_slice_get texts k (Some number) None there in
      let known : IsKeyOf (get_or templates k []) (get_or texts k None) (get_or letters k []) =
      keys.each k (get_or templates k []) (slice_get-get_or templates k [] (omega (arith, keys.count))) in
      let longest : IsKeyOf (get_or templates k []) (Some number) (get_or letters k []) = subst (λ t. IsKeyOf (get_or templates k []) t (get_or letters k [])) is known in
      longest.has.some;
}
