-- Laws of going back: words one after another, one set of words or another, places of one list or another.
use Rattle.std.proofs.Common.{◌≡◌, ◌⊎◌, ◌↔◌, ℕ, ◌<◌, ◌≤◌, List, [], ◌∷◌, ◌++◌, length, inl, inr, refl, sym, arith, subst, ◌∙◌, slice_index_or}
use Rattle.std.specs.Prelude.{Contains}
use Rattle.std.proofs.Math.Nat.{eq-or-lt_of_le}
use Rattle.std.proofs.lemmas.List.Elements.{All-contains, Contains-get_or}
use Rattle.lic_words.specs.Words.{Word, Cat}
use Rattle.lic_tokens.specs.Tokens.{TokenValue}
use Rattle.lic_tokens.specs.Places.{place_end}
use Rattle.lic_places.specs.Places.{AreTexts, OverBlank, over, stays}
use Rattle.lic_places.specs.Reads.{Reads, Takes}
use Rattle.lic_spans.specs.Spans.{Holds}
use Rattle.lic_spans.specs.declared.span.SpanKind.{SpanKind}
use Rattle.lic_spans.specs.declared.span.SpanKind.TheVariants.{End, Place, Letters, Blanks}
use Rattle.lic_spans.specs.declared.span.PlaceSpan.{PlaceSpan}
use Rattle.lic_view.specs.PlaceSets.{ArePlaced, IsPlaceOf, LiesBefore, Reaches}
use Rattle.lic_view.specs.Backward.{Beats, IsBack, IsBackFrom, IsEach, Keeps}
use Rattle.lic_view.proofs.Placed.{ArePlaced-append, ArePlaced-nil, Reaches-append, Reaches-append_left, Reaches-append_right, Reaches-nil}
use Rattle.lic_view.proofs.PlaceLaws.{place_end-rises}
use Rattle.lic_view.specs.declared.sets.keep.Keep.{Keep}

-- each last token is as good as itself
pub Beats-same : (keep : Keep) (tokens : List TokenValue) (p last : ℕ) → Beats keep tokens p last last
Beats-same keep tokens p last = record { least = omega arith; taken = λ _. refl; each = λ _. refl }

-- what is as good as the one at a place from which a word leads to that of the other
pub Beats-joined : (keep : Keep) (tokens : List TokenValue) (p r m o l : ℕ) → r ≤ place_end tokens m → p ≤ r → Beats keep tokens r m l → Beats keep tokens p o m → Beats keep tokens p o l
Beats-joined keep tokens p r m o l front forward one other = record {
  least = omega (arith, one.least, other.least);
  taken = λ at. let same = other.taken at in
      let end : r ≡ place_end tokens m = omega (arith, subst (λ x. p ≡ place_end tokens x) same at) in
      same ∙ one.taken end;
  each = λ all. other.each all ∙ one.each all;
}

-- what is as good as what is as good as another
pub Beats-through : (keep : Keep) (tokens : List TokenValue) (p a b c : ℕ) → Beats keep tokens p a b → Beats keep tokens p b c → Beats keep tokens p a c
Beats-through keep tokens p a b c one other = record {
  least = omega (arith, one.least, other.least);
  taken = λ at. let same = one.taken at in same ∙ other.taken (subst (λ x. p ≡ place_end tokens x) same at);
  each = λ all. one.each all ∙ other.each all;
}

-- from no place nothing leads on
pub back-nothing : (keep : Keep) (tokens : List TokenValue) (P : Word → Type 0) (Ends : ℕ → ℕ → Type 0) →
    ((p q last : ℕ) (w : Word) → Ends q last → P w → Reads tokens p w q → ⊥) → IsBackFrom keep tokens P Ends []
back-nothing keep tokens P Ends none = record {
  placed = ArePlaced-nil tokens;
  sound = λ p last r. absurd (Reaches-nil tokens p last r);
  complete = λ p q last w e is reads. absurd (none p q last w e is reads);
}

-- two lists together, from places of the one kind and of the other
pub back-both : (keep : Keep) (tokens : List TokenValue) (P : Word → Type 0) (One Other : ℕ → ℕ → Type 0) (xs ys : List PlaceSpan) →
    IsBackFrom keep tokens P One xs → IsBackFrom keep tokens P Other ys → IsBackFrom keep tokens P (λ q last. One q last ⊎ Other q last) (xs ++ ys)
back-both keep tokens P One Other xs ys one other = record {
  placed = ArePlaced-append tokens xs ys one.placed other.placed;
  sound = λ p last r. sound p last (Reaches-append tokens xs ys p last r);
  complete = λ p q last w e is reads. complete p q last w e is reads;
}
  where
    Both : ℕ → ℕ → Type 0
    Both q last = One q last ⊎ Other q last

    sound : (p last : ℕ) → Reaches tokens xs p last ⊎ Reaches tokens ys p last →
        (q : ℕ) × Both q last × (w : Word) × P w × Reads tokens p w q
    sound p last (inl r) = let s = one.sound p last r in (s.0, inl s.1, s.2, s.3, s.4)
    sound p last (inr r) = let s = other.sound p last r in (s.0, inr s.1, s.2, s.3, s.4)

    complete : (p q last : ℕ) (w : Word) → Both q last → P w → Reads tokens p w q →
        (o : ℕ) × Beats keep tokens p o last × Reaches tokens (xs ++ ys) p o
    complete p q last w (inl e) is reads = let c = one.complete p q last w e is reads in (c.0, c.1, Reaches-append_left tokens xs ys p c.0 c.2)
    complete p q last w (inr e) is reads = let c = other.complete p q last w e is reads in (c.0, c.1, Reaches-append_right tokens xs ys p c.0 c.2)

-- two lists together, by words of the one set and of the other
pub back-either : (keep : Keep) (tokens : List TokenValue) (P Q : Word → Type 0) (Ends : ℕ → ℕ → Type 0) (xs ys : List PlaceSpan) →
    IsBackFrom keep tokens P Ends xs → IsBackFrom keep tokens Q Ends ys → IsBackFrom keep tokens (λ w. P w ⊎ Q w) Ends (xs ++ ys)
back-either keep tokens P Q Ends xs ys one other = record {
  placed = ArePlaced-append tokens xs ys one.placed other.placed;
  sound = λ p last r. sound p last (Reaches-append tokens xs ys p last r);
  complete = λ p q last w e is reads. complete p q last w e is reads;
}
  where
    Either : Word → Type 0
    Either w = P w ⊎ Q w

    sound : (p last : ℕ) → Reaches tokens xs p last ⊎ Reaches tokens ys p last →
        (q : ℕ) × Ends q last × (w : Word) × Either w × Reads tokens p w q
    sound p last (inl r) = let s = one.sound p last r in (s.0, s.1, s.2, inl s.3, s.4)
    sound p last (inr r) = let s = other.sound p last r in (s.0, s.1, s.2, inr s.3, s.4)

    complete : (p q last : ℕ) (w : Word) → Ends q last → Either w → Reads tokens p w q →
        (o : ℕ) × Beats keep tokens p o last × Reaches tokens (xs ++ ys) p o
    complete p q last w e (inl is) reads = let c = one.complete p q last w e is reads in (c.0, c.1, Reaches-append_left tokens xs ys p c.0 c.2)
    complete p q last w e (inr is) reads = let c = other.complete p q last w e is reads in (c.0, c.1, Reaches-append_right tokens xs ys p c.0 c.2)

-- the same places and the same words
pub back-same : (keep : Keep) (tokens : List TokenValue) (P Q : Word → Type 0) (One Other : ℕ → ℕ → Type 0) (xs : List PlaceSpan) →
    ((w : Word) → P w ↔ Q w) → ((q last : ℕ) → One q last ↔ Other q last) → IsBackFrom keep tokens P One xs → IsBackFrom keep tokens Q Other xs
back-same keep tokens P Q One Other xs words places back = record {
  placed = back.placed;
  sound = λ p last r. let s = back.sound p last r in (s.0, (places s.0 last).0 s.1, s.2, (words s.2).0 s.3, s.4);
  complete = λ p q last w e is reads. back.complete p q last w ((places q last).1 e) ((words w).1 is) reads;
}

-- a blank leads forward
pub OverBlank-order : (tokens : List TokenValue) (p q : ℕ) → OverBlank tokens p q → p ≤ q
OverBlank-order tokens p _ (over is) = omega arith
OverBlank-order tokens p _ (stays not gap) = omega arith

-- a place lies before the end of its last token, or at it
place-in_front : (tokens : List TokenValue) (kind : SpanKind) (number p last : ℕ) → LiesBefore tokens kind number last → IsPlaceOf tokens kind number p →
    p ≤ place_end tokens last
place-in_front tokens End number p last front is = omega arith
place-in_front tokens Place number p last front is = omega arith
place-in_front tokens Letters number p last front is = omega arith
place-in_front tokens Blanks number p last front is = let o = OverBlank-order tokens p number is.1 in omega arith

pub Reaches-in_front : (tokens : List TokenValue) (xs : List PlaceSpan) (p last : ℕ) → ArePlaced tokens xs → Reaches tokens xs p last → p ≤ place_end tokens last
Reaches-in_front tokens xs p last placed r = place-in_front tokens r.kind r.number p last (placed.front r.kind r.number last r.holds) r.place

-- words one after another, going back over the second one and then over the first
pub reads-joined : (tokens : List TokenValue) (u v : Word) (p r q : ℕ) → Reads tokens p u r → Reads tokens r v q → Reads tokens p (u ++ v) q
reads-joined tokens [] v p r q first second = subst (λ x. Reads tokens x v q) (sym first) second
reads-joined tokens (c ∷ u) v p r q first second = (first.0, first.1, reads-joined tokens u v first.0 r q first.2 second)

pub reads-parted : (tokens : List TokenValue) (u v : Word) (p q : ℕ) → Reads tokens p (u ++ v) q → (r : ℕ) × Reads tokens p u r × Reads tokens r v q
reads-parted tokens [] v p q reads = (p, refl, reads)
reads-parted tokens (c ∷ u) v p q reads = let rest = reads-parted tokens u v reads.0 q reads.2 in (rest.0, (reads.0, reads.1, rest.1), rest.2)

-- a letter or a blank is taken forward
takes-forward : (tokens : List TokenValue) (p c q : ℕ) → Takes tokens p c q → p ≤ q
takes-forward tokens p c q (inl is) = OverBlank-order tokens p q is.1
takes-forward tokens p c q (inr is) = omega (arith, is.2.0)

-- a word is read forward
pub reads-forward : (tokens : List TokenValue) (w : Word) (p q : ℕ) → Reads tokens p w q → p ≤ q
reads-forward tokens [] p q reads = omega (arith, reads)
reads-forward tokens (c ∷ w) p q reads =
    let rest = reads-forward tokens w reads.0 q reads.2 in
    let first = takes-forward tokens p c reads.0 reads.1 in
    omega arith

-- a word of the first set and then one of the second
pub back-after : (keep : Keep) (tokens : List TokenValue) (P Q : Word → Type 0) (Ends : ℕ → ℕ → Type 0) (xs ys : List PlaceSpan) →
    IsBackFrom keep tokens P Ends xs → IsBack keep tokens Q xs ys → IsBackFrom keep tokens (Cat Q P) Ends ys
back-after keep tokens P Q Ends xs ys last first = record {
  placed = first.placed;
  sound = λ p l r.
      let s = first.sound p l r in
      let t = last.sound s.0 l s.1 in
      (t.0, t.1, s.2 ++ t.2, (s.2, t.2, s.3, t.3, refl), reads-joined tokens s.2 t.2 p s.0 t.0 s.4 t.4);
  complete = λ p q l w e is reads.
      let parted = reads-parted tokens is.0 is.1 p q (subst (λ x. Reads tokens p x q) is.4 reads) in
      let c = last.complete parted.0 q l is.1 e is.3 parted.2 in
      let d = first.complete p parted.0 c.0 is.0 c.2 is.2 parted.1 in
      let front = Reaches-in_front tokens xs parted.0 c.0 last.placed c.2 in
      let forward = reads-forward tokens is.0 p parted.0 parted.1 in
      (d.0, Beats-joined keep tokens p parted.0 c.0 d.0 l front forward c.1 d.1, d.2);
}

-- the empty word
pub back-stay : (keep : Keep) (tokens : List TokenValue) (xs : List PlaceSpan) → ArePlaced tokens xs → IsBack keep tokens (λ w. w ≡ []) xs xs
back-stay keep tokens xs placed = record {
  placed = placed;
  sound = λ p l r. (p, r, [], refl, refl);
  complete = λ p q l w r is reads.
      let same : p ≡ q = subst (λ x. Reads tokens p x q) is reads in
      (l, Beats-same keep tokens p l, subst (λ x. Reaches tokens xs x l) (sym same) r);
}

-- a token that ends where another one does is that one
place_end-one : (tokens : List TokenValue) (i j : ℕ) → AreTexts tokens → i < length tokens → j < length tokens → i ≤ j →
    place_end tokens i ≡ place_end tokens j → i ≡ j
place_end-one tokens i j texts one other order same = by_order (eq-or-lt_of_le order)
  where
    by_order : (i ≡ j) ⊎ (i < j) → i ≡ j
    by_order (inl is) = is
    by_order (inr below) = let rises = place_end-rises tokens i j texts below other in absurd (omega arith)

-- the last token of what a list holds is one of the text
pub Holds-last : (tokens : List TokenValue) (xs : List PlaceSpan) (kind : SpanKind) (number last : ℕ) → ArePlaced tokens xs → Holds xs kind number last →
    last < length tokens
Holds-last tokens xs kind number last placed holds =
    let below : holds.span.last < length tokens = All-contains (λ (s : PlaceSpan). s.last < length tokens) xs holds.span placed.last holds.among in
    omega (arith, below, holds.last_is)

-- of two last tokens with a place of one kind the lesser one is as good, if not each is kept
beats-kind : (keep : Keep) (tokens : List TokenValue) (kind : SpanKind) (number p other last : ℕ) → AreTexts tokens → other < length tokens → last < length tokens → other ≤ last →
    (IsEach keep → other ≡ last) → LiesBefore tokens kind number other → LiesBefore tokens kind number last → IsPlaceOf tokens kind number p → Beats keep tokens p other last
beats-kind keep tokens End number p other last texts one two least each front past is = record {
  least = least;
  taken = λ at. place_end-one tokens other last texts one two least (sym front ∙ past);
  each = each;
}
beats-kind keep tokens Place number p other last texts one two least each front past is = record {
  least = least;
  taken = λ at. absurd (omega (arith, front.0, is, at));
  each = each;
}
beats-kind keep tokens Letters number p other last texts one two least each front past is = record {
  least = least;
  taken = λ at. absurd (omega (arith, front, is.0, at));
  each = each;
}
beats-kind keep tokens Blanks number p other last texts one two least each front past is = record {
  least = least;
  taken = λ at. let forward = OverBlank-order tokens p number is.1 in absurd (omega (arith, front, at, forward));
  each = each;
}

-- each place with those last tokens that are kept
pub back-keeps : (keep : Keep) (tokens : List TokenValue) (P : Word → Type 0) (Ends : ℕ → ℕ → Type 0) (xs ys : List PlaceSpan) → AreTexts tokens →
    IsBackFrom keep tokens P Ends xs → Keeps keep xs ys → IsBackFrom keep tokens P Ends ys
back-keeps keep tokens P Ends xs ys texts back keeps = record {
  placed = placed;
  sound = λ p l r. back.sound p l (record { kind = r.kind; number = r.number; holds = keeps.sound r.kind r.number l r.holds; place = r.place });
  complete = λ p q l w e is reads.
      let c = back.complete p q l w e is reads in
      let r = c.2 in
      let d = keeps.kept r.kind r.number c.0 r.holds in
      let one = Holds-last tokens ys r.kind r.number d.0 placed d.3 in
      let two = Holds-last tokens xs r.kind r.number c.0 back.placed r.holds in
      let better = beats-kind keep tokens r.kind r.number p d.0 c.0 texts one two d.1 d.2 (placed.front r.kind r.number d.0 d.3)
      (back.placed.front r.kind r.number c.0 r.holds) r.place in
      (d.0, Beats-through keep tokens p d.0 c.0 l better c.1, record { kind = r.kind; number = r.number; holds = d.3; place = r.place });
}
  where
    placed : ArePlaced tokens ys
    placed = record {
      ordered = keeps.ordered;
      last = λ k d below. lasts k d below;
      front = λ kind number last holds. back.placed.front kind number last (keeps.sound kind number last holds);
    }
      where
        lasts : (k : ℕ) (d : PlaceSpan) → k < length ys → (slice_index_or ys k d).last < length tokens
        lasts k d below =
            let s = slice_index_or ys k d in
            let among : Contains ys s = Contains-get_or ys k d below in
            let low : s.low ≤ s.high = keeps.ordered k d below in
            let holds : Holds ys s.kind s.low s.last = record { span = s; among = among; kind_is = refl; from = omega arith; to = low; last_is = refl } in
            Holds-last tokens xs s.kind s.low s.last back.placed (keeps.sound s.kind s.low s.last holds)
