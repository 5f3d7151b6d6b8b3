-- An offset more in one of several lists.
use Rattle.std.proofs.Common.{◌≡◌, ◌⊎◌, ◌==◌, ℕ, ◌<◌, ◌≤◌, true, false, cond, List, [], ◌∷◌, ◌++◌, Option, None, Some, length, map, get_or, set, inl, inr, refl, sym, ap, ◌∙◌, subst, arith, eq-eqb}
use Rattle.std.specs.List.{Contains}
use Rattle.std.specs.List.Sorted.{IsStrictlyIncreasing}
use Rattle.std.specs.Option.{option_map_or}
use Rattle.std.proofs.lemmas.Bool.{cases_Bool, cases_lt, cond-false, cond-true, eqb-true}
use Rattle.std.proofs.lemmas.List.{get_or-set_same, get_or_append_left, get_or_past, get_or_push, length-map}
use Rattle.std.proofs.lemmas.List.Elements.{All-get_or, All-map}
use Rattle.std.proofs.lemmas.Option.{none-some, same_Some, slice_get_within}
use Rattle.std.proofs.Math.Logic.{⊎_elim}
use Rattle.lic_literals.specs.Hits.{IsListed, lists_of, offsets_of, slot_of}
use Rattle.lic_literals.specs.declared.hits.Hits.{Hits}
use Rattle.lic_literals.proofs.Lists.{Contains-nil, Contains-set}

-- an offset more in a slot
module _ (slots : ℕ → Option ℕ) (lists : List (List ℕ)) (slot : ℕ) (now : List ℕ) (within : slot < length lists)
    (kept : (p : ℕ) → Contains (get_or lists slot []) p → Contains now p) where
  pub more_kept : (old new : ℕ) → old ≤ new → (i p : ℕ) → IsListed slots lists old i p → IsListed slots (set lists slot now) new i p
  more_kept old new more i p h = record {
    slot = h.slot;
    at = h.at;
    listed =
        ⊎_elim
        (λ (there : Contains (get_or lists h.slot []) p). inl (Contains-set lists slot now within kept h.slot p there))
        (λ (full : 262144 ≤ old). inr (omega (arith, full, more)))
        h.listed;
  }

  pub more_noted : (count window offset : ℕ) → slots window ≡ Some slot → Contains now offset → IsListed slots (set lists slot now) count window offset
  more_noted count window offset at h = record {
    slot = slot;
    at = at;
    listed = inl (subst (λ xs. Contains xs offset) (sym (get_or-set_same lists slot now [] within)) h);
  }

-- the first offset of a window, in a slot of its own
module _ (old_slots new_slots : ℕ → Option ℕ) (lists : List (List ℕ)) (window : ℕ) (now : List ℕ) (last : ℕ) (count_is : last ≡ length lists)
    (absent : old_slots window ≡ None) (updates : (i : ℕ) → new_slots i ≡ cond (window == i) (Some last) (old_slots i)) where
  new_slot : new_slots window ≡ Some last
  new_slot = updates window ∙ cond-true (window == window) (Some last) (old_slots window) (eq-eqb window window refl)

  -- another window keeps its slot
  other_slot : (i slot : ℕ) → old_slots i ≡ Some slot → new_slots i ≡ Some slot
  other_slot i slot at =
      ⊎_elim
      (λ (same : (window == i) ≡ true). absurd (none-some slot (sym absent ∙ ap old_slots (eqb-true window i same) ∙ at)))
      (λ (other : (window == i) ≡ false). updates i ∙ cond-false (window == i) (Some last) (old_slots i) other ∙ at)
      (cases_Bool (window == i))

  -- each slot has its window
  pub slot_cases : (i slot : ℕ) → new_slots i ≡ Some slot → ((i ≡ window) × (slot ≡ last)) ⊎ (old_slots i ≡ Some slot)
  slot_cases i slot at =
      ⊎_elim
      (λ (same : (window == i) ≡ true). inl (sym (eqb-true window i same), same_Some slot last (sym at ∙ updates i ∙ cond-true (window == i) (Some last) (old_slots i) same)))
      (λ (other : (window == i) ≡ false). inr (sym (updates i ∙ cond-false (window == i) (Some last) (old_slots i) other) ∙ at))
      (cases_Bool (window == i))

  pub first_kept : (old new : ℕ) → old ≤ new → (i p : ℕ) → IsListed old_slots lists old i p → IsListed new_slots (lists ++ now ∷ []) new i p
  first_kept old new more i p h = record {
    slot = h.slot;
    at = other_slot i h.slot h.at;
    listed =
        ⊎_elim
        (λ (there : Contains (get_or lists h.slot []) p).
        ⊎_elim
        (λ (inner : h.slot < length lists). inl (subst (λ xs. Contains xs p) (sym (get_or_append_left lists (now ∷ []) [] h.slot inner)) there))
        (λ (outer : length lists ≤ h.slot). absurd (Contains-nil p (subst (λ xs. Contains xs p) (get_or_past lists h.slot [] outer) there)))
        (cases_lt h.slot (length lists)))
        (λ (full : 262144 ≤ old). inr (omega (arith, full, more)))
        h.listed;
  }

  pub first_noted : (count offset : ℕ) → Contains now offset → IsListed new_slots (lists ++ now ∷ []) count window offset
  first_noted count offset h = record {
    slot = last;
    at = new_slot;
    listed = inl (subst (λ xs. Contains xs offset) (sym (get_or_push lists now [] last (sym count_is))) h);
  }

-- the offsets of each window rise
offsets_rise_at : (hits : Hits) (window : ℕ) (o : Option ℕ) → slot_of hits window ≡ o →
    IsStrictlyIncreasing (option_map_or (λ slot. get_or (lists_of hits) slot []) o [])
offsets_rise_at hits window None at = λ k h. absurd (omega arith)
offsets_rise_at hits window (Some slot) at =
    let inside : slot < length (map (λ s. s.window) hits.occurrences.items) =
    slice_get_within (map (λ s. s.window) hits.occurrences.items) slot window (hits.placed window slot at) in
    let within : slot < length (lists_of hits) =
    omega (arith, length-map hits.occurrences.items (λ s. s.window), length-map hits.occurrences.items (λ s. s.offsets.items)) in
    All-get_or IsStrictlyIncreasing (lists_of hits) slot [] within (All-map IsStrictlyIncreasing (λ s. s.offsets.items) hits.occurrences.items hits.rising)

pub offsets_rise : (hits : Hits) (window : ℕ) → IsStrictlyIncreasing (offsets_of hits window)
offsets_rise hits window = offsets_rise_at hits window (slot_of hits window) refl

-- a listed offset is among those of its window
pub listed_offset : (hits : Hits) (window offset slot : ℕ) → slot_of hits window ≡ Some slot → Contains (get_or (lists_of hits) slot []) offset →
    Contains (offsets_of hits window) offset
listed_offset hits window offset slot at there =
    subst (λ o. Contains (option_map_or (λ s. get_or (lists_of hits) s []) o []) offset) (sym at) there
