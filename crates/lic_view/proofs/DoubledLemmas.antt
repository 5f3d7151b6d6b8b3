-- Single places that a span of many has too can be dropped.
use Rattle.std.proofs.Common.{◌≡◌, ◌⊎◌, ℕ, suc, ◌+◌, ◌<◌, ◌≤◌, Bool, true, false, List, [], ◌∷◌, length, inl, inr, refl, sym, arith, subst, ◌∙◌}
use Rattle.std.specs.Prelude.{Contains}
use Rattle.std.specs.List.{items_where_true}
use Rattle.std.specs.List.Retain.{IsFiltered, ReturnsInTurn}
use Rattle.lic_words.specs.Words.{Word}
use Rattle.lic_tokens.specs.Tokens.{TokenValue}
use Rattle.lic_places.specs.Places.{OverBlank, over}
use Rattle.lic_spans.specs.Spans.{Holds}
use Rattle.lic_spans.specs.declared.span.SpanKind.{SpanKind}
use Rattle.lic_spans.specs.declared.span.SpanKind.TheVariants.{Blanks, Place}
use Rattle.lic_spans.specs.declared.span.PlaceSpan.{PlaceSpan}
use Rattle.lic_spans.proofs.Members.{Contains-nil, Contains-head, Contains-tail, Contains-cons_cases}
use Rattle.lic_spans.proofs.Sorting.{All-among}
use Rattle.lic_view.specs.Backward.{IsBackFrom}
use Rattle.lic_view.specs.Doubled.{AreAsMany, IsWithin}
use Rattle.lic_view.specs.PlaceSets.{IsPlaceOf, Reaches}
use Rattle.lic_view.specs.declared.sets.keep.Keep.{Keep}
use Rattle.lic_view.proofs.Placed.{Holds-among}

-- what is picked is of the list
picked-among : {X : Type 0} (bs : List Bool) (xs : List X) (x : X) → Contains (items_where_true bs xs) x → Contains xs x
picked-among [] xs x picked = absurd (Contains-nil x picked)
picked-among (b ∷ bs) [] x picked = picked
picked-among (false ∷ bs) (y ∷ ys) x picked = Contains-tail y ys x (picked-among bs ys x picked)
picked-among (true ∷ bs) (y ∷ ys) x picked = by_case (picked-among bs ys x) (Contains-cons_cases y (items_where_true bs ys) x picked)
  where
    by_case : (Contains (items_where_true bs ys) x → Contains ys x) → (y ≡ x) ⊎ Contains (items_where_true bs ys) x → Contains (y ∷ ys) x
    by_case later (inl same) = subst (Contains (y ∷ ys)) same (Contains-head y ys)
    by_case later (inr more) = Contains-tail y ys x (later more)

-- of a test that goes over a list: what it refuses is doubled, and the rest is picked
module _ {X F : Type 0} (R : F → X → Bool → F → Type 0) (IsDoubled : X → Type 0) (f : F)
    (says : (x : X) (b : Bool) (g : F) → R f x b g → (b ≡ false → IsDoubled x) × (g ≡ f)) where
  picked-first : (b : Bool) (bs : List Bool) (y : X) (ys : List X) → (b ≡ false → IsDoubled y) → Contains (items_where_true (b ∷ bs) (y ∷ ys)) y ⊎ IsDoubled y
  picked-first true bs y ys doubled = inl (Contains-head y (items_where_true bs ys))
  picked-first false bs y ys doubled = inr (doubled refl)

  picked-later : (b : Bool) (bs : List Bool) (y : X) (ys : List X) (x : X) → Contains (items_where_true bs ys) x → Contains (items_where_true (b ∷ bs) (y ∷ ys)) x
  picked-later true bs y ys x picked = Contains-tail y (items_where_true bs ys) x picked
  picked-later false bs y ys x picked = picked

  picked-all : (bs : List Bool) (xs : List X) (g : F) → length bs ≡ length xs → ReturnsInTurn R f bs xs g → (x : X) → Contains xs x
      → Contains (items_where_true bs xs) x ⊎ IsDoubled x
  picked-all [] [] g same turns x among = absurd (Contains-nil x among)
  picked-all [] (y ∷ ys) g same turns x among = absurd (omega arith)
  picked-all (b ∷ bs) [] g same turns x among = absurd turns
  picked-all (b ∷ bs) (y ∷ ys) g same turns x among =
      let one = says y b turns.0 turns.1 in
      by_case one.0 (picked-all bs ys g (omega arith) (subst (λ h. ReturnsInTurn R h bs ys g) one.1 turns.2) x) (Contains-cons_cases y ys x among)
    where
      later : Contains (items_where_true bs ys) x ⊎ IsDoubled x → Contains (items_where_true (b ∷ bs) (y ∷ ys)) x ⊎ IsDoubled x
      later (inl picked) = inl (picked-later b bs y ys x picked)
      later (inr doubled) = inr doubled

      by_case : (b ≡ false → IsDoubled y) → (Contains ys x → Contains (items_where_true bs ys) x ⊎ IsDoubled x) → (y ≡ x) ⊎ Contains ys x
          → Contains (items_where_true (b ∷ bs) (y ∷ ys)) x ⊎ IsDoubled x
      by_case first more (inl is) = subst (λ z. Contains (items_where_true (b ∷ bs) (y ∷ ys)) z ⊎ IsDoubled z) is (picked-first b bs y ys first)
      by_case first more (inr among) = later (more among)

  pub retained-among : (xs ys : List X) → IsFiltered R f xs ys → (x : X) → Contains ys x → Contains xs x
  retained-among xs ys kept x among = picked-among kept.0 xs x (subst (λ l. Contains l x) kept.4 among)

  pub retained-all : (xs ys : List X) → IsFiltered R f xs ys → (x : X) → Contains xs x → Contains ys x ⊎ IsDoubled x
  retained-all xs ys kept x among =
      subst (λ l. Contains l x ⊎ IsDoubled x) (sym kept.4) (picked-all kept.0 xs kept.1 kept.2 kept.3 x among)

-- the place of a span within another one is reached from that one
within-reached : (tokens : List TokenValue) (other span : PlaceSpan) (some : List PlaceSpan) (p number last : ℕ) → other.kind ≡ Blanks → Contains some other
    → IsWithin tokens other span → span.low ≤ number → number ≤ span.high → span.last ≡ last → IsPlaceOf tokens span.kind number p → Reaches tokens some p last
within-reached tokens other span some p number last kind among within from to last_is place =
    let place_is : p ≡ number = subst (λ k. IsPlaceOf tokens k number p) within.kind place in
    let same : p ≡ span.low = omega (arith, place_is, from, to, within.one) in
    let next : suc span.low ≡ span.low + 1 = omega arith in
    record {
      kind = Blanks;
      number = span.low + 1;
      holds = record {
        span = other;
        among = among;
        kind_is = kind;
        from = within.from;
        to = omega (arith, within.to);
        last_is = sym within.last ∙ last_is;
      };
      place = (within.letter, subst (λ x. OverBlank tokens x (span.low + 1)) (sym same) (subst (OverBlank tokens span.low) next (over within.blank)));
    }

-- spans of which some that lie within another one were dropped, which stays
pub as-many : (tokens : List TokenValue) (other : PlaceSpan) (spans some : List PlaceSpan) → other.kind ≡ Blanks → Contains spans other
    → ((s : PlaceSpan) → Contains some s → Contains spans s) → ((s : PlaceSpan) → Contains spans s → Contains some s ⊎ IsWithin tokens other s)
    → AreAsMany tokens spans some
as-many tokens other spans some kind is among left = record {
  among = among;
  all = λ p last r. by_case p last r (left r.holds.span r.holds.among);
}
  where
    stays : Contains some other ⊎ IsWithin tokens other other → Contains some other
    stays (inl there) = there
    stays (inr within) = absurd (blanks-place (sym kind ∙ within.kind))
      where
        blanks-place : Blanks ≡ Place → ⊥
        blanks-place e = cc

    by_case : (p last : ℕ) (r : Reaches tokens spans p last) → Contains some r.holds.span ⊎ IsWithin tokens other r.holds.span → Reaches tokens some p last
    by_case p last r (inl there) = record {
      kind = r.kind;
      number = r.number;
      holds = record { span = r.holds.span; among = there; kind_is = r.holds.kind_is; from = r.holds.from; to = r.holds.to; last_is = r.holds.last_is };
      place = r.place;
    }
    by_case p last r (inr within) =
        within-reached tokens other r.holds.span some p r.number last kind (stays (left other is)) within r.holds.from r.holds.to r.holds.last_is
        (subst (λ k. IsPlaceOf tokens k r.number p) (sym r.holds.kind_is) r.place)

-- going back leads to these as well
pub back-as_many : (keep : Keep) (tokens : List TokenValue) (P : Word → Type 0) (Ends : ℕ → ℕ → Type 0) (spans some : List PlaceSpan)
    → AreAsMany tokens spans some → IsBackFrom keep tokens P Ends spans → IsBackFrom keep tokens P Ends some
back-as_many keep tokens P Ends spans some many back = record {
  placed = record {
    ordered = All-among (λ s. s.low ≤ s.high) spans some many.among back.placed.ordered;
    last = All-among (λ s. s.last < length tokens) spans some many.among back.placed.last;
    front = λ kind number last holds. back.placed.front kind number last (held kind number last holds);
  };
  sound = λ p last r. back.sound p last (record { kind = r.kind; number = r.number; holds = held r.kind r.number last r.holds; place = r.place });
  complete = λ p q last w e is reads. let c = back.complete p q last w e is reads in (c.0, c.1, many.all p c.0 c.2);
}
  where
    held : (kind : SpanKind) (number last : ℕ) → Holds some kind number last → Holds spans kind number last
    held kind number last holds = Holds-among some spans kind number last many.among holds
