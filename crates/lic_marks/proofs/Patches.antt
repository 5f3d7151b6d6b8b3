-- A row in which a range was written anew, position by position.
use Rattle.std.proofs.Common.{◌≡◌, ℕ, ◌+◌, ◌-◌, ◌≤◌, ◌<◌, Bool, false, List, ◌++◌, length, take, drop, get_or, sym, ap, ◌∙◌, ⊎_elim, arith, length-append, length-drop}
use Rattle.std.proofs.lemmas.List.{length-take-le, get_or_append_left, get_or-append_right, get_or-take, get_or-drop, ext_get_or}
use Rattle.std.proofs.lemmas.Bool.{cases_lt}

module _ (old seg : List Bool) (at end : ℕ) (width : at ≤ length old) (size : end ≡ at + length seg) where
  front_length : length (take at old ++ seg) ≡ end
  front_length = omega (arith, length-append (take at old) seg, length-take-le at old width)

  pub patch_before : (k : ℕ) → k < at → get_or (take at old ++ seg ++ drop end old) k false ≡ get_or old k false
  patch_before k h =
      get_or_append_left (take at old ++ seg) (drop end old) false k (omega (arith, front_length))
      ∙ get_or_append_left (take at old) seg false k (omega (arith, length-take-le at old width)) ∙ get_or-take at old k false h

  pub patch_inside : (j : ℕ) → j < length seg → get_or (take at old ++ seg ++ drop end old) (at + j) false ≡ get_or seg j false
  patch_inside j h =
      let here : at + j - at ≡ j = omega arith in
      get_or_append_left (take at old ++ seg) (drop end old) false (at + j) (omega (arith, front_length))
      ∙ get_or-append_right (take at old) seg at (at + j) false (length-take-le at old width) (omega arith) ∙ ap (λ i. get_or seg i false) here

  pub patch_past : (k : ℕ) → end ≤ k → get_or (take at old ++ seg ++ drop end old) k false ≡ get_or old k false
  patch_past k h =
      let there : end + (k - end) ≡ k = omega arith in
      get_or-append_right (take at old ++ seg) (drop end old) end k false front_length h
      ∙ get_or-drop end old (k - end) false ∙ ap (λ i. get_or old i false) there

  pub length_patch : end ≤ length old → length (take at old ++ seg ++ drop end old) ≡ length old
  length_patch h = omega (arith, length-append (take at old ++ seg) (drop end old), front_length, length-drop end old)

  -- a row that has these flags is that row
  pub patched : (new : List Bool) → end ≤ length old → length new ≡ length old →
      ((k : ℕ) → k < at → get_or new k false ≡ get_or old k false) →
      ((j : ℕ) → j < length seg → get_or new (at + j) false ≡ get_or seg j false) →
      ((k : ℕ) → end ≤ k → get_or new k false ≡ get_or old k false) → new ≡ take at old ++ seg ++ drop end old
  patched new fits long before inside past =
      ext_get_or false new (take at old ++ seg ++ drop end old) (omega (arith, long, length_patch fits)) (λ k h.
      ⊎_elim (λ low. before k low ∙ sym (patch_before k low)) (λ from_at.
      ⊎_elim (λ low.
      let j : ℕ = k - at in
      let here : at + (k - at) ≡ k = omega arith in
      let small : k - at < length seg = omega arith in
      ap (λ i. get_or new i false) (sym here) ∙ inside (k - at) small ∙ sym (patch_inside (k - at) small)
      ∙ ap (λ i. get_or (take at old ++ seg ++ drop end old) i false) here)
      (λ high. past k high ∙ sym (patch_past k high)) (cases_lt k end)) (cases_lt k at))
