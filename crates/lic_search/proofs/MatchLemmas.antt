-- From where going back over a whole expression begins to the least ranges that it describes.
use Rattle.std.proofs.Common.{◌≡◌, ◌⊎◌, ◌↔◌, inl, inr, ℕ, zero, suc, ◌+◌, ◌-◌, ◌<◌, ◌≤◌, List, [], length, map, drop, refl, ap, ◌∙◌, subst, arith, slice_range}
use Rattle.std.specs.List.{Contains}
use Rattle.std.specs.Str.{chars}
use Rattle.std.proofs.lemmas.Bool.{cases_lt}
use Rattle.std.proofs.lemmas.List.{length-drop, length-map, length-take}
use Rattle.lic_words.specs.Expressions.{Expression, Language}
use Rattle.lic_norm.specs.Tokens.{TokenValue}
use Rattle.lic_norm.specs.Places.{place_end}
use Rattle.lic_places.specs.Places.{AreTexts, IsAfterBlank, spelling_of}
use Rattle.lic_places.specs.Reads.{BeginsAt, Reads, ReadsTokens}
use Rattle.lic_spans.specs.declared.span.SpanKind.{SpanKind}
use Rattle.lic_spans.specs.declared.span.SpanKind.TheVariants.{End, Place, Letters, Blanks}
use Rattle.lic_spans.specs.declared.span.PlaceSpan.{PlaceSpan}
use Rattle.lic_search.specs.declared.range.Range.{Range}
use Rattle.lic_view.specs.PlaceSets.{ArePlaced, IsPlaceOf, LiesBefore, Reaches}
use Rattle.lic_view.specs.Backward.{Beats, IsBackFrom, IsEach}
use Rattle.lic_search.specs.Beginnings.{BeginsIn}
use Rattle.lic_search.specs.Matches.{DescribesRange, HasLeastRanges}
use Rattle.lic_view.proofs.Laws.{a_blank_leads_one_way-order, a_spelling_is_read_from_token_to_token, no_blank-end}
use Rattle.lic_view.proofs.ViewPlaces.{ends-order, start-after, starts-after}
use Rattle.lic_view.specs.declared.sets.keep.Keep.{Keep}

-- a place before the end of its last token, or at it where nothing was taken
placed-in-front : (tokens : List TokenValue) (kind : SpanKind) (number p last : ℕ) → LiesBefore tokens kind number last → IsPlaceOf tokens kind number p
    → (p < place_end tokens last) ⊎ (p ≡ place_end tokens last)
placed-in-front tokens End number p last front place = inr (place ∙ front)
placed-in-front tokens Place number p last front place = inl (omega (arith, front.0))
placed-in-front tokens Letters number p last front place = inl (omega (arith, place.0))
placed-in-front tokens Blanks number p last front place = inl (omega (arith, a_blank_leads_one_way-order tokens p number place.1))

-- no token begins before the tokens before it end
begins-after : (tokens : List TokenValue) (before first p : ℕ) → AreTexts tokens → before < first → first < length tokens → BeginsAt tokens first p
    → place_end tokens before ≤ p
begins-after tokens before first p texts below within (inl at) = omega (arith, starts-after tokens before first texts below within)
begins-after tokens before zero p texts below within (inr after) = absurd (omega arith)
begins-after tokens before (suc k) p texts below within (inr after) =
    let next = start-after tokens k texts within in
    let ends = ends-order tokens before k texts (omega arith) (omega arith) in
    elim (cases_lt p (place_end tokens k)) [
      | inl less ↦
          let same : suc p ≡ place_end tokens k = omega (arith, after.0) in
          absurd (no_blank-end tokens k texts (omega arith) (subst (IsAfterBlank (spelling_of tokens)) same after.1))
      | inr le ↦ omega arith
    ]

-- the last token that beats another is no earlier than the first
beats-after : (keep : Keep) (tokens : List TokenValue) (begins : List PlaceSpan) (p first last other : ℕ) → AreTexts tokens → ArePlaced tokens begins
    → first < length tokens → first ≤ last → BeginsAt tokens first p → Beats keep tokens p other last → Reaches tokens begins p other → first ≤ other
beats-after keep tokens begins p first last other texts placed within order at beats reached =
    elim (cases_lt other first) [
      | inl below ↦
          let after = begins-after tokens other first p texts below within at in
          let front = placed.front reached.kind reached.number other reached.holds in
          elim (placed-in-front tokens reached.kind reached.number p other front reached.place) [
            | inl less ↦ absurd (omega arith)
            | inr same ↦ omega (arith, beats.taken same)
          ]
      | inr le ↦ le
    ]

-- the texts of some tokens are not none
some-texts : (tokens : List TokenValue) (first last : ℕ) → first ≤ last → last < length tokens
    → map (λ t. chars t.text) (slice_range tokens first (last + 1)) ≡ [] → ⊥
some-texts tokens first last order within none =
    let text_of = λ (t : TokenValue). chars t.text in
    let count = length-map (slice_range tokens first (last + 1)) text_of in
    let none_long : length (map text_of (slice_range tokens first (last + 1))) ≡ 0 = ap length none in
    absurd (omega (arith, count, none_long, length-take ((last + 1) - first) (drop first tokens), length-drop first tokens))

-- the relation of ends of tokens
abbrev pub IsTokenEnd : List TokenValue → ℕ → ℕ → Type 0
IsTokenEnd tokens q last = (last < length tokens) × (q ≡ place_end tokens last)

module _ (keep : Keep) (tokens : List TokenValue) (expression : Expression) (begins : List PlaceSpan) (texts : AreTexts tokens)
    (back : IsBackFrom keep tokens (Language expression) (IsTokenEnd tokens) begins) where
  -- what begins at a place from where going back begins is described
  begins-described : (range : Range) (p : ℕ) → range.first ≤ range.last → Reaches tokens begins p range.last → BeginsAt tokens range.first p →
      DescribesRange tokens expression range
  begins-described range p order reached at =
      let led = back.sound p range.last reached in
      let inside : range.last < length tokens = led.1.0 in
      let reads : ReadsTokens tokens range.first led.2 range.last = (p, at, subst (Reads tokens p led.2) led.1.1 led.4) in
      let spells = (a_spelling_is_read_from_token_to_token tokens range.first range.last led.2 texts order inside).1 reads in
      record {
        order = order;
        within = inside;
        described = (some-texts tokens range.first range.last order inside, led.2, led.3, spells);
      }

  -- The least ranges of an expression, from where going back over it from the ends of all tokens begins.
  pub least-ranges : (found : List Range) → ((range : Range) → Contains found range
      → (range.first ≤ range.last) × ((p : ℕ) × Reaches tokens begins p range.last × BeginsAt tokens range.first p))
      → ((p first last : ℕ) → Reaches tokens begins p last → BeginsAt tokens first p → first ≤ last
      → (range : Range) × Contains found range × (first ≤ range.first) × (range.last ≤ last))
      → HasLeastRanges tokens expression found
  least-ranges found sound within = record {
    sound = λ range among. let at = sound range among in begins-described range at.1.0 at.0 at.1.1 at.1.2;
    within = λ range is.
        let word = is.described.1 in
        let reads = (a_spelling_is_read_from_token_to_token tokens range.first range.last word texts is.order is.within).0 is.described.3 in
        let other = back.complete reads.0 (place_end tokens range.last) range.last word (is.within, refl) is.described.2 reads.2 in
        let first = beats-after keep tokens begins reads.0 range.first range.last other.0 texts back.placed (omega (arith, is.order, is.within)) is.order reads.1 other.1 other.2 in
        let least = within reads.0 range.first other.0 other.2 reads.1 first in
        (least.0, least.1, least.2, omega (arith, least.3, other.1.least));
  }

  -- where each last token is kept, each range that is described begins there
  pub described-begins : IsEach keep → (range : Range) → BeginsIn tokens begins range.first range.last ↔ DescribesRange tokens expression range
  described-begins each range = (
    λ at. begins-described range at.place at.order at.reached at.begins,
    λ is.
        let word = is.described.1 in
        let reads = (a_spelling_is_read_from_token_to_token tokens range.first range.last word texts is.order is.within).0 is.described.3 in
        let other = back.complete reads.0 (place_end tokens range.last) range.last word (is.within, refl) is.described.2 reads.2 in
        let same : other.0 ≡ range.last = other.1.each each in
        record { order = is.order; place = reads.0; reached = subst (Reaches tokens begins reads.0) same other.2; begins = reads.1 },
  )
