-- Sets that are there, as lists of them change.
use Rattle.std.proofs.Common.{◌≡◌, ℕ, ◌-◌, ◌<◌, ◌≤◌, ◌⊎◌, inl, inr, Option, Some, None, Vec, Global, List, [], ◌∷◌, ◌++◌, length, get_or, set, take, refl, sym, ap, ◌∙◌, subst, arith}
use Rattle.std.proofs.lemmas.Bool.{cases_eq, cases_lt}
use Rattle.std.proofs.lemmas.List.{get_or_append_left, get_or_default, get_or-append_right, get_or-set_other, get_or-set_same, get_or-take, length-append, length-set, length-take}
use Rattle.lic_norm.specs.Tokens.{TokenValue}
use Rattle.lic_spans.specs.declared.span.PlaceSpan.{PlaceSpan}
use Rattle.lic_view.specs.PlaceSets.{ArePlaced}
use Rattle.lic_vars.specs.Moves.{Move}
use Rattle.lic_vars.specs.Cuts.{AreFinishing, last_moves, move_of}
use Rattle.lic_vars.specs.Sets.{AreSuffixSets, HasOther, IsOther, IsSet, IsThere}
use Rattle.lic_vars.specs.declared.instructions.Instruction.{Instruction}
use Rattle.lic_vars.proofs.SetLemmas.{last-none, instruction-moves}

abbrev pub Spans : Type 0
Spans = Vec PlaceSpan Global

abbrev pub absent : Option Spans
absent = None

-- ---- as the code reads a set

pub IsSet-read : (sets : List (Option Spans)) (k : ℕ) (x : Option Spans) (v : Spans) → k < length sets → x ≡ get_or sets k x → x ≡ Some v → IsSet sets k v
IsSet-read sets k x v within is some = record { within = within; is = λ d. get_or_default sets k d x within ∙ sym is ∙ some }

pub There-read : (sets : List (Option Spans)) (k : ℕ) (x : Option Spans) (v : Spans) → k < length sets → x ≡ get_or sets k x → x ≡ Some v → IsThere sets k
There-read sets k x v within is some = record { set = v; is = IsSet-read sets k x v within is some }

-- ---- a set is put in its place, or let go

IsSet-set_back : (sets : List (Option Spans)) (k j : ℕ) (x : Option Spans) (v : Spans) → j < length sets → IsSet (set sets j x) k v → ((k ≡ j) × (x ≡ Some v)) ⊎ IsSet sets k v
IsSet-set_back sets k j x v within is =
    elim (cases_eq k j) [
      | inl same ↦
          let here : x ≡ Some v =
          sym (get_or-set_same sets j x x within) ∙ sym (subst (λ n. get_or (set sets j x) n x ≡ get_or (set sets j x) j x) (sym same) refl) ∙ is.is x in
          inl (same, here)
      | inr other ↦
          let many = length-set sets j x in
          inr (record { within = omega (arith, many, is.within); is = λ d. sym (get_or-set_other sets j k x d other) ∙ is.is d })
    ]

pub IsThere-put : (sets : List (Option Spans)) (k : ℕ) (v : Spans) → k < length sets → IsThere (set sets k (Some v)) k
IsThere-put sets k v within =
    let many = length-set sets k (Some v) in
    record { set = v; is = record { within = omega (arith, many); is = λ d. get_or-set_same sets k (Some v) d within } }

pub IsThere-stays : (sets : List (Option Spans)) (k j : ℕ) (v : Spans) → j < length sets → IsThere sets k → IsThere (set sets j (Some v)) k
IsThere-stays sets k j v within there =
    elim (cases_eq k j) [
      | inl same ↦ subst (IsThere (set sets j (Some v))) (sym same) (IsThere-put sets j v within)
      | inr other ↦ IsThere-other sets k j (Some v) other there
    ]
  where
    IsThere-other : (sets : List (Option Spans)) (k j : ℕ) (x : Option Spans) → (k ≡ j → ⊥) → IsThere sets k → IsThere (set sets j x) k
    IsThere-other sets k j x other there =
        let many = length-set sets j x in
        record {
          set = there.set;
          is = record { within = omega (arith, many, there.is.within); is = λ d. get_or-set_other sets j k x d other ∙ there.is.is d };
        }

module _ (tokens : List TokenValue) (instructions : List Instruction) where
  pub sets-put : (sets : List (Option Spans)) (j : ℕ) (v : Spans) → AreSuffixSets tokens instructions sets → j < length sets → AreFinishing tokens (last_moves instructions j) v.items
      → AreSuffixSets tokens instructions (set sets j (Some v))
  sets-put sets j v sets_are within finish = record {
    are = λ k w is. elim (IsSet-set_back sets k j (Some v) w within is) [
      | inl both ↦
          let same = both.0 in
          let some = both.1 in
          let e : v ≡ w = cc in
          subst (λ n. AreFinishing tokens (last_moves instructions n) w.items) (sym same) (subst (λ (u : Spans). AreFinishing tokens (last_moves instructions j) u.items) e finish)
      | inr old ↦ sets_are.are k w old
    ];
    first = IsThere-stays sets 0 j v within sets_are.first;
  }

  pub sets-let_go : (sets : List (Option Spans)) (j : ℕ) → AreSuffixSets tokens instructions sets → j < length sets → 0 < j → AreSuffixSets tokens instructions (set sets j absent)
  sets-let_go sets j sets_are within past = record {
    are = λ k w is. elim (IsSet-set_back sets k j absent w within is) [
      | inl both ↦ let gone = both.1 in let none : ⊥ = cc in absurd none
      | inr old ↦ sets_are.are k w old
    ];
    first =
        let many = length-set sets j absent in
        record {
          set = sets_are.first.set;
          is = record {
            within = omega (arith, many, sets_are.first.is.within);
            is = λ d. get_or-set_other sets j 0 absent d (λ e. absurd (omega arith)) ∙ sets_are.first.is.is d;
          };
        };
  }

  -- ---- lists of sets grow by a place and lose their last ones

  pub sets-first : (sets : List (Option Spans)) (v : Spans) → sets ≡ Some v ∷ [] → AreFinishing tokens [] v.items → AreSuffixSets tokens instructions sets
  sets-first sets v same finish =
      let none : [] ≡ last_moves instructions 0 = sym (last-none instructions) in
      subst (AreSuffixSets tokens instructions) (sym same) (record {
        are = λ k w is.
            let zero_is : k ≡ 0 = omega (arith, is.within) in
            let here : get_or (Some v ∷ []) 0 absent ≡ Some w = subst (λ n. get_or (Some v ∷ []) n absent ≡ Some w) zero_is (is.is absent) in
            let e : v ≡ w = cc in
            subst (λ (u : Spans). AreFinishing tokens (last_moves instructions k) u.items) e
            (subst (λ n. AreFinishing tokens (last_moves instructions n) v.items) (sym zero_is) (subst (λ (ms : List Move). AreFinishing tokens ms v.items) none finish));
        first = record { set = v; is = record { within = omega arith; is = λ d. refl } };
      })

  pub sets-longer : (sets more : List (Option Spans)) → more ≡ sets ++ absent ∷ [] → AreSuffixSets tokens instructions sets → AreSuffixSets tokens instructions more
  sets-longer sets more same sets_are =
      let many = length-append sets (absent ∷ []) in
      subst (AreSuffixSets tokens instructions) (sym same) (record {
        are = λ k w is. elim (cases_lt k (length sets)) [
          | inl before ↦ sets_are.are k w (record { within = before; is = λ d. sym (get_or_append_left sets (absent ∷ []) d k before) ∙ is.is d })
          | inr after ↦
              let zero_left : k - length sets ≡ 0 = omega (arith, is.within, many) in
              let last : get_or (sets ++ absent ∷ []) k absent ≡ absent =
              get_or-append_right sets (absent ∷ []) (length sets) k absent refl after ∙ subst (λ n. get_or (absent ∷ []) n absent ≡ absent) (sym zero_left) refl in
              let here = is.is absent in
              let none : ⊥ = cc in
              absurd none
        ];
        first = record {
          set = sets_are.first.set;
          is = record {
            within = omega (arith, many, sets_are.first.is.within);
            is = λ d. get_or_append_left sets (absent ∷ []) d 0 sets_are.first.is.within ∙ sets_are.first.is.is d;
          };
        };
      })

  pub sets-front : (sets : List (Option Spans)) (n : ℕ) → 0 < n → AreSuffixSets tokens instructions sets → AreSuffixSets tokens instructions (take n sets)
  sets-front sets n some sets_are =
      let many = length-take n sets in
      record {
        are = λ k w is.
            let below : k < n = omega (arith, many, is.within) in
            sets_are.are k w (record { within = omega (arith, many, is.within); is = λ d. sym (get_or-take n sets k d below) ∙ is.is d });
        first = record {
          set = sets_are.first.set;
          is = record {
            within = omega (arith, many, sets_are.first.is.within);
            is = λ d. get_or-take n sets 0 d some ∙ sets_are.first.is.is d;
          };
        };
      }

-- ---- the set that an instruction leads to when it is left out

pub IsOther-here : (instructions : List Instruction) (n size : ℕ) (instruction : Instruction) → 0 < n → n ≤ length instructions → instruction ≡ get_or instructions (length instructions - n) instruction → instruction ≡ Instruction.Optional size
    → IsOther instructions n (n - 1 - size)
IsOther-here instructions n size instruction some within is same = record {
  size = size;
  moves = last_moves instructions (n - 1);
  instruction = instruction-moves instructions n instruction some within is ∙ ap (λ (s : Instruction). move_of s ∷ last_moves instructions (n - 1)) same;
  is = refl;
}

-- ---- a set that is there, as the code has its spans

pub finish-there : (tokens : List TokenValue) (instructions : List Instruction) (sets : List (Option Spans)) (k : ℕ) (spans : List PlaceSpan) → AreSuffixSets tokens instructions sets → IsThere sets k
    → ((v : Spans) → IsSet sets k v → spans ≡ v.items) → AreFinishing tokens (last_moves instructions k) spans
finish-there tokens instructions sets k spans sets_are there items =
    subst (AreFinishing tokens (last_moves instructions k)) (sym (items there.set there.is)) (sets_are.are k there.set there.is)

pub placed-there : (tokens : List TokenValue) (instructions : List Instruction) (sets : List (Option Spans)) (k : ℕ) (spans : List PlaceSpan) → AreSuffixSets tokens instructions sets → IsThere sets k
    → ((v : Spans) → IsSet sets k v → spans ≡ v.items) → ArePlaced tokens spans
placed-there tokens instructions sets k spans sets_are there items = (finish-there tokens instructions sets k spans sets_are there items).placed

pub HasOther-less : (sets : List (Option Spans)) (high low other : ℕ) → low ≤ high → HasOther sets high other → HasOther sets low other
HasOther-less sets high low other order (inl there) = inl there
HasOther-less sets high low other order (inr above) = inr (omega arith)
