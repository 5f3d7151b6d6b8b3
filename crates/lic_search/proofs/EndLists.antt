-- The ends of tokens up to some bytes after places: what lists of them have, and one place more.
use Rattle.std.proofs.Common.{◌≡◌, ◌⊎◌, inl, inr, ℕ, zero, suc, ◌+◌, ◌<◌, ◌≤◌, List, [], ◌∷◌, ◌++◌, length, get_or, refl, sym, ap, ◌∙◌, subst, arith}
use Rattle.std.specs.Prelude.{Contains, min as lesser}
use Rattle.std.specs.List.Sorted.{IsStrictlyIncreasing}
use Rattle.std.proofs.lemmas.Bool.{cases_lt}
use Rattle.std.proofs.lemmas.List.{get_or_default}
use Rattle.std.proofs.lemmas.List.Elements.{Contains-append_left, Contains-get_or, Contains-push, Contains-push_cases}
use Rattle.lic_norm.specs.Tokens.{TokenValue}
use Rattle.lic_norm.specs.Places.{place_end}
use Rattle.lic_spans.specs.Spans.{Holds}
use Rattle.lic_spans.specs.declared.span.SpanKind.{SpanKind}
use Rattle.lic_spans.specs.declared.span.SpanKind.TheVariants.{End}
use Rattle.lic_spans.specs.declared.span.PlaceSpan.{PlaceSpan}
use Rattle.lic_view.specs.PlaceSets.{ArePlaced, IsPlaceOf, LiesBefore, Reaches}
use Rattle.lic_search.specs.Beginnings.{IsEndOf}
use Rattle.lic_search.specs.Ends.{AddsEnds, AreTokenEnds, ListsEnd}

-- ---- ends of tokens as spans

-- what ends of tokens hold
ends-held : (tokens : List TokenValue) (ends : List PlaceSpan) (kind : SpanKind) (number last : ℕ) → AreTokenEnds tokens ends → Holds ends kind number last
    → (kind ≡ End) × (last < length tokens) × (number ≡ place_end tokens last)
ends-held tokens ends kind number last are holds =
    let found = are holds.span holds.among in
    let is = found.2 in
    let same : found.0 ≡ last = sym is.last_is ∙ holds.last_is in (
      sym holds.kind_is ∙ is.kind,
      omega (arith, found.1, same),
      omega (arith, holds.from, holds.to, is.low, is.high, ap (λ n. place_end tokens n) same),
    )

pub ends-placed : (tokens : List TokenValue) (ends : List PlaceSpan) → AreTokenEnds tokens ends → ArePlaced tokens ends
ends-placed tokens ends are = record {
  ordered = λ k d within.
      let is = (are (get_or ends k d) (Contains-get_or ends k d within)).2 in
      omega (arith, is.low, is.high);
  last = λ k d within.
      let found = are (get_or ends k d) (Contains-get_or ends k d within) in
      omega (arith, found.1, found.2.last_is);
  front = λ kind number last holds.
      let held = ends-held tokens ends kind number last are holds in
      subst (λ k. LiesBefore tokens k number last) (sym held.0) held.2;
}

pub ends-sound : (tokens : List TokenValue) (ends : List PlaceSpan) (p last : ℕ) → AreTokenEnds tokens ends → Reaches tokens ends p last
    → (last < length tokens) × (p ≡ place_end tokens last)
ends-sound tokens ends p last are reached =
    let held = ends-held tokens ends reached.kind reached.number last are reached.holds in
    let place : IsPlaceOf tokens End reached.number p = subst (λ k. IsPlaceOf tokens k reached.number p) held.0 reached.place in
    (held.1, place ∙ held.2)

pub end-reached : (tokens : List TokenValue) (ends : List PlaceSpan) (last : ℕ) → ListsEnd tokens ends last → Reaches tokens ends (place_end tokens last) last
end-reached tokens ends last listed =
    let is = listed.is in
    let holds : Holds ends End (place_end tokens last) last = record {
      span = listed.span;
      among = listed.among;
      kind_is = is.kind;
      from = omega (arith, is.low);
      to = omega (arith, is.high);
      last_is = is.last_is;
    } in
    record { kind = End; number = place_end tokens last; holds = holds; place = refl }

-- ---- more of them

pub ends-none : (tokens : List TokenValue) → AreTokenEnds tokens []
ends-none tokens = λ span among. absurd (omega (arith, among.1))

pub adds-push : (tokens : List TokenValue) (first token : ℕ) (old ends : List PlaceSpan) (span : PlaceSpan) → token < length tokens
    → AddsEnds tokens first token old ends → IsEndOf tokens token span → AddsEnds tokens first (token + 1) old (ends ++ span ∷ [])
adds-push tokens first token old ends span within adds is = record {
  ends = λ are other among.
      elim (Contains-push_cases ends span other among) [
        | inl earlier ↦ adds.ends are other earlier
        | inr same ↦ (token, within, subst (λ s. IsEndOf tokens token s) same is)
      ];
  kept = λ last listed. still last (adds.kept last listed);
  added = λ last from below.
      elim (cases_lt last token) [
        | inl less ↦ still last (adds.added last from less)
        | inr le ↦
            let same : token ≡ last = omega arith in
            record { span = span; among = Contains-push ends span; is = subst (λ n. IsEndOf tokens n span) same is }
      ];
}
  where
    still : (last : ℕ) → ListsEnd tokens ends last → ListsEnd tokens (ends ++ span ∷ []) last
    still last listed = record { span = listed.span; among = Contains-append_left ends (span ∷ []) listed.span listed.among; is = listed.is }

-- ---- place after place

-- each later number of a rising list is no less
pub rises : (xs : List ℕ) (i j : ℕ) → IsStrictlyIncreasing xs → i ≤ j → j < length xs → get_or xs i 0 ≤ get_or xs j 0
rises xs i zero rising order within = let same : i ≡ 0 = omega arith in omega (arith, ap (λ n. get_or xs n 0) same)
rises xs i (suc j) rising order within =
    elim (cases_lt j i) [
      | inl below ↦ let same : i ≡ suc j = omega arith in omega (arith, ap (λ n. get_or xs n 0) same)
      | inr le ↦
          let before : get_or xs i 0 ≤ get_or xs j 0 = rises xs i j rising le (omega arith) in
          let next : get_or xs j 0 < get_or xs (j + 1) 0 = rising j (omega arith) in
          let number : j + 1 ≡ suc j = omega arith in
          let same : get_or xs (j + 1) 0 ≡ get_or xs (suc j) 0 = ap (λ n. get_or xs n 0) number in
          omega (arith, before, next, same)
    ]

-- the ends that lie up to some bytes after the first n places are listed, and of the tokens before one those that end at
-- a later place or after it
pub record ListsEndsAfter (tokens : List TokenValue) (places : List ℕ) (most count next : ℕ) (found : List PlaceSpan) : Type 0 where
  pub ends : AreTokenEnds tokens found
  pub listed : (k last : ℕ) → k < count → last < length tokens → get_or places k 0 ≤ place_end tokens last →
      place_end tokens last ≤ get_or places k 0 + most → ListsEnd tokens found last
  pub before : (k last : ℕ) → count ≤ k → k < length places → last < next → last < length tokens → get_or places k 0 ≤ place_end tokens last →
      ListsEnd tokens found last

pub listed-none : (tokens : List TokenValue) (places : List ℕ) (most : ℕ) → ListsEndsAfter tokens places most 0 0 []
listed-none tokens places most = record {
  ends = ends-none tokens;
  listed = λ k last below within from to. absurd (omega arith);
  before = λ k last from within below inside at. absurd (omega arith);
}

-- one place more
pub listed-more : (tokens : List TokenValue) (places : List ℕ) (most count next first later to greatest : ℕ) (old new : List PlaceSpan) →
    IsStrictlyIncreasing places → count < length places → ListsEndsAfter tokens places most count next old →
    ((last : ℕ) → next ≤ last → last < length tokens → get_or places count 0 ≤ place_end tokens last → first ≤ last) →
    ((last : ℕ) → last < length tokens → place_end tokens last ≤ greatest) → to ≡ lesser (get_or places count 0 + most) greatest →
    AddsEnds tokens first later old new → ((last : ℕ) → later ≤ last → last < length tokens → to < place_end tokens last) →
    ListsEndsAfter tokens places most (count + 1) later new
listed-more tokens places most count next first later to greatest old new rising within lists from bound edge adds after = record {
  ends = adds.ends lists.ends;
  listed = λ k last below inside at reach. by_place k last inside at reach (cases_lt k count) below;
  before = λ k last order some below inside at.
      let risen = rises places count k rising (omega arith) some in
      up_to last below inside (omega arith);
}
  where
    -- a token before the later one that ends at this place or after it
    up_to : (last : ℕ) → last < later → last < length tokens → get_or places count 0 ≤ place_end tokens last → ListsEnd tokens new last
    up_to last below inside at =
        elim (cases_lt last first) [
          | inl less ↦
              elim (cases_lt last next) [
                | inl earlier ↦ adds.kept last (lists.before count last (omega arith) within earlier inside at)
                | inr le ↦ let no = from last le inside at in absurd (omega arith)
              ]
          | inr le ↦ adds.added last le below
        ]

    by_place : (k last : ℕ) → last < length tokens → get_or places k 0 ≤ place_end tokens last → place_end tokens last ≤ get_or places k 0 + most →
        (k < count) ⊎ (count ≤ k) → k < count + 1 → ListsEnd tokens new last
    by_place k last inside at reach (inl earlier) below = adds.kept last (lists.listed k last earlier inside at reach)
    by_place k last inside at reach (inr le) below =
        let same : k ≡ count = omega arith in
        let place : get_or places k 0 ≡ get_or places count 0 = ap (λ n. get_or places n 0) same in
        elim (cases_lt last later) [
          | inl less ↦ up_to last less inside (omega arith)
          | inr past ↦
              let far = after last past inside in
              let near = bound last inside in
              absurd (omega arith)
        ]

-- all places
pub listed-all : (tokens : List TokenValue) (places : List ℕ) (most count next : ℕ) (ends : List PlaceSpan) → length places ≤ count →
    ListsEndsAfter tokens places most count next ends → (place last : ℕ) → Contains places place → last < length tokens →
    place ≤ place_end tokens last → place_end tokens last ≤ place + most → ListsEnd tokens ends last
listed-all tokens places most count next ends all lists place last among inside at reach =
    let same : get_or places among.0 0 ≡ place = get_or_default places among.0 0 place among.1 ∙ among.2 in
    lists.listed among.0 last (omega (arith, among.1)) inside (omega arith) (omega arith)
