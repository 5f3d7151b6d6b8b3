-- The list that is computed has exactly the matches.
use Rattle.std.proofs.Common.{◌≡◌, ℕ, ◌<◌, ◌≤◌, ◌↔◌, true, List, [], ◌∷◌, length, map, Option, Some, None, refl, sym, ap, ◌∙◌, inl, inr, subst, arith}
use Rattle.std.specs.Bool.{Decides, IsTrue}
use Rattle.std.specs.List.{slice_get, flat_map, range_with_len}
use Rattle.std.proofs.lemmas.Bool.{false≢true, and_parts, and_from, leb-true, le-leb}
use Rattle.std.proofs.lemmas.Bool.Decides.{Decides-or, Decides-and, Decides-ltb, Decides-eqb}
use Rattle.std.proofs.lemmas.List.Concat.{flat_map_single}
use Rattle.std.proofs.lemmas.Option.{slice_get_within}
use Rattle.lic_norm.specs.Tokens.{TokenValue}
use Rattle.lic_words.specs.Expressions.{Expression}
use Rattle.lic_words.specs.Describing.{IsDescribed}
use Rattle.lic_marks.specs.Deciding.{is_described}
use Rattle.lic_set.specs.Sets.{Known, words_of}
use Rattle.lic_find.specs.Listing.{numbers_below, all_triples, describes, is_matching, is_after, matches_after}
use Rattle.lic_set.specs.Matches.{Precedes, IsAfter, IsMatch, AreMatches, letters_between, triple_at, precedes}
use Rattle.lic_set.specs.declared.triple.Triple.{Triple}
use Rattle.lic_find.proofs.Collecting.{Collects, Collects-one, Collects-same, Collects-rows, Collects-filter}
use Rattle.lic_find.proofs.Triples.{same_parts}

module _ (tokens templates : ℕ) where
  -- the triples of one range
  abbrev HasRange : ℕ → ℕ → Triple → Type 0
  HasRange first last t = (t.first ≡ first) × (t.last ≡ last) × (t.template < templates)

  Collects-templates : (first last : ℕ) → Collects (HasRange first last) (map (λ template. triple_at first last template) (numbers_below templates))
  Collects-templates first last =
      let one : ℕ → List Triple = λ template. triple_at first last template ∷ [] in
      subst (Collects (HasRange first last)) (flat_map_single (λ template. triple_at first last template) (numbers_below templates))
      (Collects-same _ (HasRange first last) (flat_map one (range_with_len 0 templates))
      (Collects-rows (λ template t. triple_at first last template ≡ t) one (λ template. Collects-one (triple_at first last template))
      (λ i j s t less e d.
      let first' : s.first ≡ t.first = ap (λ u. u.first) (sym e) ∙ ap (λ u. u.first) d in
      let last' : s.last ≡ t.last = ap (λ u. u.last) (sym e) ∙ ap (λ u. u.last) d in
      let low : i ≡ s.template = ap (λ u. u.template) e in
      let high : j ≡ t.template = ap (λ u. u.template) d in
      inr (first', inr (last', omega arith))) 0 templates)
      (λ t (k, low, high, e).
      let cursor : k ≡ t.template = ap (λ u. u.template) e in
      (ap (λ u. u.first) (sym e), ap (λ u. u.last) (sym e), omega arith))
      (λ t (first', last', high). (t.template, omega arith, omega arith, same_parts t (triple_at first last t.template) first' last' refl)))

  abbrev Begins : ℕ → Triple → Type 0
  Begins first t = (t.first ≡ first) × (t.last < tokens) × (t.template < templates)

  Collects-lasts : (first : ℕ) → Collects (Begins first)
      (flat_map (λ last. map (λ template. triple_at first last template) (numbers_below templates))
      (numbers_below tokens))
  Collects-lasts first =
      Collects-same _ (Begins first) _
      (Collects-rows (HasRange first) (λ last. map (λ template. triple_at first last template) (numbers_below templates)) (Collects-templates first)
      (λ i j s t less p q. inr (p.0 ∙ sym q.0, inl (omega (arith, p.1, q.1)))) 0 tokens)
      (λ t (k, low, high, p). (p.0, omega (arith, p.1), p.2))
      (λ t p. (t.last, omega arith, omega (arith, p.1), (p.0, refl, p.2)))

  abbrev IsInside : Triple → Type 0
  IsInside t = (t.first < tokens) × (t.last < tokens) × (t.template < templates)

  pub Collects-all : Collects IsInside (all_triples tokens templates)
  Collects-all =
      Collects-same _ IsInside _
      (Collects-rows Begins (λ first.
      flat_map (λ last. map (λ template. triple_at first last template) (numbers_below templates))
      (numbers_below tokens)) Collects-lasts
      (λ i j s t less p q. inl (omega (arith, p.0, q.0))) 0 tokens)
      (λ t (k, low, high, p). (omega (arith, p.0), p.1, p.2))
      (λ t p. (t.first, omega arith, omega (arith, p.0), (refl, p.1, p.2)))

Decides-precedes : (s t : Triple) → Decides (precedes s t) (Precedes s t)
Decides-precedes s t =
    Decides-or _ _ (Decides-ltb s.first t.first)
    (Decides-and _ _ (Decides-eqb s.first t.first)
    (Decides-or _ _ (Decides-ltb s.last t.last) (Decides-and _ _ (Decides-eqb s.last t.last) (Decides-ltb s.template t.template))))

Decides-is_after : (cursor : Option Triple) (t : Triple) → Decides (is_after cursor t) (IsAfter cursor t)
Decides-is_after None t = (λ h. tt, λ h. refl)
Decides-is_after (Some cursor) t = Decides-precedes cursor t

module _ (decided : (e : Expression) (ts : List (List ℕ)) → IsTrue (is_described e ts) ↔ IsDescribed e ts) where
  described_by : (o : Option Known) (letters : List (List ℕ)) → describes o letters ≡ true
      → (known : Known) × (o ≡ Some known) × IsDescribed (words_of known) letters
  described_by None letters h = absurd (false≢true h)
  described_by (Some known) letters h = (known, refl, (decided (words_of known) letters).0 h)

  describes_by : (o : Option Known) (letters : List (List ℕ)) (known : Known) → o ≡ Some known
      → IsDescribed (words_of known) letters → describes o letters ≡ true
  describes_by o letters known e d = ap (λ p. describes p letters) e ∙ (decided (words_of known) letters).1 d

  module _ (set : List Known) (tokens : List TokenValue) (t : Triple) where
    IsMatch-from_test : IsInside (length tokens) (length set) t → is_matching set tokens t ≡ true → IsMatch set tokens t
    IsMatch-from_test inside h =
        let parts = and_parts _ _ h in
        let found = described_by (slice_get set t.template) (letters_between tokens t.first t.last) parts.1 in
        record { order = leb-true t.first t.last parts.0; within = inside.1; known = found.0; number = found.1; described = found.2 }

    IsInside-match : IsMatch set tokens t → IsInside (length tokens) (length set) t
    IsInside-match m =
        let order : t.first ≤ t.last = m.order in
        let within : t.last < length tokens = m.within in
        (omega arith, within, slice_get_within set t.template m.known m.number)

    test_from_IsMatch : IsMatch set tokens t → is_matching set tokens t ≡ true
    test_from_IsMatch m =
        and_from _ _ (le-leb t.first t.last m.order)
        (describes_by (slice_get set t.template) (letters_between tokens t.first t.last) m.known m.number m.described)

  pub AreMatches-listed : (set : List Known) (tokens : List TokenValue) (after : Option Triple) → AreMatches set tokens after (matches_after set tokens after)
  unfolding matches_after
  AreMatches-listed set tokens after =
      let all = Collects-all (length tokens) (length set) in
      let matching = Collects-filter (is_matching set tokens) (IsInside (length tokens) (length set)) (all_triples (length tokens) (length set)) all in
      let found = Collects-filter (is_after after) _ _ matching in
      record {
        ascending = found.ascending;
        exact = λ t. (
          λ h. let p = (found.exact t).0 h in (IsMatch-from_test set tokens t p.0.0 p.0.1, (Decides-is_after after t).0 p.1),
          λ m. (found.exact t).1 ((IsInside-match set tokens t m.0, test_from_IsMatch set tokens t m.0), (Decides-is_after after t).1 m.1),
        );
      }
