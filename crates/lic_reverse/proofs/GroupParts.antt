-- Parts of sets of places for the words that end with letters of one hash.
use Rattle.std.proofs.Common.{◌≡◌, ◌⊎◌, ◌↔◌, ℕ, List, [], ◌∷◌, inl, inr, Result, Ok, Err, IfOk, Vec, Global, get_or, refl, sym, arith, subst}
use Rattle.std.specs.Prelude.{Contains}
use Rattle.std.proofs.lemmas.List.Elements.{Contains-get_or, Contains-push_cases}
use Rattle.lic_words.specs.Words.{Word}
use Rattle.lic_tokens.specs.Tokens.{TokenValue}
use Rattle.lic_places.specs.Reads.{Reads}
use Rattle.lic_spans.specs.Spans.{Holds}
use Rattle.lic_spans.specs.declared.span.SpanKind.{SpanKind}
use Rattle.lic_spans.specs.declared.span.PlaceSpan.{PlaceSpan}
use Rattle.lic_reverse.specs.declared.ways.groups.Entry.{Entry}
use Rattle.lic_view.specs.PlaceSets.{ArePlaced, Reaches}
use Rattle.lic_reverse.specs.Tidily.{AreWays, IsTidyBack, Taken, a_blank, a_letter, nothing, spans_of}
use Rattle.lic_reverse.specs.Grouped.{AreGroupedWays}
use Rattle.lic_reverse.specs.declared.ways.endings.GroupedWays.{GroupedWays}
use Rattle.lic_reverse.specs.declared.ways.Ways.{Ways}
use Rattle.lic_reverse.specs.LetterGroups.{AreGroupsOf, EndIn, HasEntry, IsPartFor}
use Rattle.lic_view.proofs.Placed.{ArePlaced-nil, Holds-among, Reaches-nil}
use Rattle.lic_view.proofs.Back.{Holds-last, reads-parted}
use Rattle.lic_view.proofs.BlankLemmas.{holds-one}
use Rattle.lic_view.specs.declared.sets.keep.Keep.{Keep}

-- one span of a list holds what it holds alone
alone : (spans : List PlaceSpan) (kind : SpanKind) (number last : ℕ) → (h : Holds spans kind number last) → Holds (h.span ∷ []) kind number last
alone spans kind number last h = record { span = h.span; among = (0, omega arith, refl); kind_is = h.kind_is; from = h.from; to = h.to; last_is = h.last_is }

-- what a group has of the spans
pub group-part : (tokens : List TokenValue) (P : Word → Type 0) (hash : ℕ) (spans found : List PlaceSpan) (lists : List (Vec Entry Global)) →
    ArePlaced tokens spans → AreGroupsOf tokens spans lists → EndIn P hash → ((s : PlaceSpan) → Contains found s ↔ HasEntry lists hash s) →
    IsPartFor tokens P spans found
group-part tokens P hash spans found lists placed groups ends exact = record {
  placed = record {
    ordered = λ k d below. let piece = groups.sound hash (get_or found k d) ((exact (get_or found k d)).0 (Contains-get_or found k d below)) in piece.ordered;
    last = λ k d below.
        let s = get_or found k d in
        let piece = groups.sound hash s ((exact s).0 (Contains-get_or found k d below)) in
        Holds-last tokens spans s.kind s.low s.last placed (piece.among s.kind s.low s.last (holds-one s s.low (omega arith) piece.ordered));
    front = λ kind number last h. placed.front kind number last (whole kind number last h);
  };
  among = λ p last r. record { kind = r.kind; number = r.number; holds = whole r.kind r.number last r.holds; place = r.place };
  all = λ p q last w r has reads.
      let end = ends w has in
      let parted = reads-parted tokens end.0 end.1 p q (subst (λ x. Reads tokens p x q) end.2 reads) in
      let here = groups.complete end.1 parted.0 q last end.3 parted.2 r in
      let among = (exact here.span).1 (subst (λ h. HasEntry lists h here.span) end.4 here.entry) in
      record {
        kind = here.reaches.kind;
        number = here.reaches.number;
        holds = member here.span among here.reaches.kind here.reaches.number last here.reaches.holds;
        place = here.reaches.place;
      };
}
  where
    whole : (kind : SpanKind) (number last : ℕ) → Holds found kind number last → Holds spans kind number last
    whole kind number last h =
        let piece = groups.sound hash h.span ((exact h.span).0 h.among) in piece.among kind number last (alone found kind number last h)

    member : (s : PlaceSpan) → Contains found s → (kind : SpanKind) (number last : ℕ) → Holds (s ∷ []) kind number last → Holds found kind number last
    member s among kind number last h = Holds-among (s ∷ []) found kind number last (λ x has. by_case x (Contains-push_cases [] s x has)) h
      where
        by_case : (x : PlaceSpan) → Contains [] x ⊎ (s ≡ x) → Contains found x
        by_case x (inl none) = absurd (omega (arith, none.1))
        by_case x (inr same) = subst (Contains found) same among

-- what the groups of ways have, by what was taken last
pub grouped-part : (tokens : List TokenValue) (P : Word → Type 0) (hash : ℕ) (ways found : Ways) (grouped : GroupedWays) → AreWays tokens ways → AreGroupedWays tokens ways grouped → EndIn P hash →
    ((s : PlaceSpan) → Contains found.nothing.items s ↔ HasEntry grouped.nothing.lists.items hash s) →
    ((s : PlaceSpan) → Contains found.letter.items s ↔ HasEntry grouped.letter.lists.items hash s) →
    ((s : PlaceSpan) → Contains found.blank.items s ↔ HasEntry grouped.blank.lists.items hash s) →
    (s : Taken) → IsPartFor tokens P (spans_of ways s) (spans_of found s)
grouped-part tokens P hash ways found grouped placed are ends one other third nothing =
    group-part tokens P hash ways.nothing.items found.nothing.items grouped.nothing.lists.items (placed nothing) are.nothing ends one
grouped-part tokens P hash ways found grouped placed are ends one other third a_letter =
    group-part tokens P hash ways.letter.items found.letter.items grouped.letter.lists.items (placed a_letter) are.letter ends other
grouped-part tokens P hash ways found grouped placed are ends one other third a_blank =
    group-part tokens P hash ways.blank.items found.blank.items grouped.blank.lists.items (placed a_blank) are.blank ends third

-- all of the spans
pub whole-part : (tokens : List TokenValue) (P : Word → Type 0) (spans copied : List PlaceSpan) → ArePlaced tokens spans → copied ≡ spans → IsPartFor tokens P spans copied
whole-part tokens P spans copied placed same = subst (IsPartFor tokens P spans) (sym same) (record {
  placed = placed;
  among = λ p last r. r;
  all = λ p q last w r has reads. r;
})

module _ (keep : Keep) (tokens : List TokenValue) (P : Word → Type 0) (xs part : Taken → List PlaceSpan) (parts : (s : Taken) → IsPartFor tokens P (xs s) (part s)) where
  -- what is found from a part is what is found from the whole
  pub tidy-part : (found : Taken → List PlaceSpan) → IsTidyBack keep tokens P part found → IsTidyBack keep tokens P xs found
  tidy-part found back = record {
    placed = back.placed;
    sound = λ s p l r.
        let a = back.sound s p l r in
        let is = parts a.0 in
        (a.0, a.1, is.among a.1 l a.2, a.3, a.4, a.5, a.6);
    complete = λ s t p q l w e is taken reads. let of = parts t in back.complete s t p q l w (of.all p q l w e is reads) is taken reads;
  }

  -- and nothing, where the part has no place
  pub tidy-part_none : (found : Taken → List PlaceSpan) → ((s : Taken) → part s ≡ []) → ((s : Taken) → found s ≡ []) → IsTidyBack keep tokens P xs found
  tidy-part_none found none empty = record {
    placed = λ s. subst (ArePlaced tokens) (sym (empty s)) (ArePlaced-nil tokens);
    sound = λ s p l r. absurd (Reaches-nil tokens p l (subst (λ x. Reaches tokens x p l) (empty s) r));
    complete = λ s t p q l w e is taken reads.
        let of = parts t in
        absurd (Reaches-nil tokens q l (subst (λ x. Reaches tokens x q l) (none t) (of.all p q l w e is reads)));
  }

-- what three facts of a value that there is say
pub ok-three : {A E : Type 0} (P Q R S : A → Type 0) (r : Result A E) → ((a : A) → P a → Q a → R a → S a) → IfOk r P → IfOk r Q → IfOk r R → IfOk r S
ok-three P Q R S (Ok a) change one other third = change a one other third
ok-three P Q R S (Err e) change one other third = tt
