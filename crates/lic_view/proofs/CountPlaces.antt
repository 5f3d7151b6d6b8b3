-- Where the places of spans lie: no character is cut there, and they come no later than the end of the last token.
use Rattle.std.proofs.Common.{◌≡◌, ◌⊎◌, ℕ, suc, ◌+◌, ◌<◌, ◌≤◌, IsTrue, List, [], ◌∷◌, length, get_or, drop, sym, ap, ◌∙◌, subst, arith, inl, inr, eqb-true}
use Rattle.std.specs.Str.{IsUtf8, IsCharBoundary}
use Rattle.std.proofs.lemmas.Bool.{cases_lt}
use Rattle.std.proofs.lemmas.List.{get_or_past, length-append, length-drop, length-map}
use Rattle.std.proofs.lemmas.List.Elements.{All-get_or, All-map}
use Rattle.std.proofs.lemmas.Str.{IsCharBoundary-before_ascii, IsCharBoundary-end, IsCharBoundary-start}
use Rattle.lic_tokens.specs.Tokens.{TokenValue}
use Rattle.lic_tokens.specs.Places.{place_end, place_start, texts_of}
use Rattle.lic_places.specs.Places.{AreTexts, OverBlank, Occurs, is_blank_at, spelling_of}
use Rattle.lic_places.specs.Places.OverBlank.{over, stays}
use Rattle.lic_places.proofs.TokenPlaces.{OverBlank-one, place_end-last, place_end-order, place_start-text, tokens-next}
use Rattle.lic_spans.specs.declared.span.SpanKind.{SpanKind}
use Rattle.lic_spans.specs.declared.span.SpanKind.TheVariants.{End, Place, Letters, Blanks}
use Rattle.lic_spans.specs.declared.span.PlaceSpan.{PlaceSpan}
use Rattle.lic_view.specs.PlaceSets.{ArePlaced, IsLetterPlace, IsPlaceOf, LiesBefore}
use Rattle.lic_view.proofs.CountReads.{follows-byte, occurs-follows}
use Rattle.lic_view.proofs.ViewSpans.{Holds-one, last-one}

-- ---- the ends of tokens

text_utf8 : (tokens : List TokenValue) (i : ℕ) → AreTexts tokens → i < length tokens → IsUtf8 (get_or (texts_of tokens) i [])
text_utf8 tokens i texts h =
    All-get_or IsUtf8 (texts_of tokens) i [] (omega (arith, length-map tokens (λ t. t.text)))
    (All-map IsUtf8 (λ t. t.text) tokens texts.utf8)

occurs_within : (bytes : List ℕ) (p : ℕ) (text : List ℕ) (q : ℕ) → Occurs bytes p text q → p < q → q ≤ length bytes
occurs_within bytes p text q occurs before =
    let end : q ≡ p + length text = occurs.0 in
    omega (arith, length-drop p bytes, ap length (occurs-follows bytes p text q occurs), length-append text (drop q bytes))

-- no character is cut where a text begins
text_whole : (bytes : List ℕ) (p : ℕ) (text : List ℕ) (q : ℕ) → IsUtf8 text → Occurs bytes p text q → p < q → IsCharBoundary bytes p
text_whole bytes p text q utf8 occurs before =
    let inside = occurs_within bytes p text q occurs before in
    let end : q ≡ p + length text = occurs.0 in
    let none_more : p + 0 ≡ p = omega arith in
    let byte : get_or bytes p 0 ≡ get_or text 0 0 =
    ap (λ k. get_or bytes k 0) (sym none_more) ∙ follows-byte bytes p text (drop q bytes) 0 (occurs-follows bytes p text q occurs) (omega arith) in
    let start = IsCharBoundary-start text utf8 in
    (omega arith, λ within high. subst (λ b. 192 ≤ b) (sym byte) (start.1 (omega arith) (subst (λ b. 128 ≤ b) byte high)))

-- nor where a token begins
pub start-whole : (tokens : List TokenValue) (i : ℕ) → AreTexts tokens → i < length tokens → IsCharBoundary (spelling_of tokens) (place_start tokens i)
start-whole tokens i texts h =
    text_whole (spelling_of tokens) (place_start tokens i) (get_or (texts_of tokens) i []) (place_end tokens i) (text_utf8 tokens i texts h)
    (place_start-text tokens i h) (place_end-order tokens i texts h)

-- nor where a blank is
pub blank-whole : (bytes : List ℕ) (p : ℕ) → IsTrue (is_blank_at bytes p) → IsCharBoundary bytes p
blank-whole bytes p is = IsCharBoundary-before_ascii bytes p (inside (cases_lt p (length bytes))) (omega (arith, byte))
  where
    byte : get_or bytes p 0 ≡ 0x20
    byte = eqb-true (get_or bytes p 0) 0x20 is

    inside : (p < length bytes) ⊎ (length bytes ≤ p) → p < length bytes
    inside (inl within) = within
    inside (inr past) = absurd (omega (arith, byte, get_or_past bytes p 0 past))

-- nor where a token ends
pub end-whole : (tokens : List TokenValue) (i : ℕ) → AreTexts tokens → i < length tokens → IsCharBoundary (spelling_of tokens) (place_end tokens i)
end-whole tokens i texts h = by_last (cases_lt (suc i) (length tokens))
  where
    next : suc i < length tokens
        → (place_start tokens (suc i) ≡ place_end tokens i)
        ⊎ ((place_start tokens (suc i) ≡ suc (place_end tokens i)) × IsTrue (is_blank_at (spelling_of tokens) (place_end tokens i)))
        → IsCharBoundary (spelling_of tokens) (place_end tokens i)
    next more (inl e) =
        subst (IsCharBoundary (spelling_of tokens)) e
        (text_whole (spelling_of tokens) (place_start tokens (suc i)) (get_or (texts_of tokens) (suc i) []) (place_end tokens (suc i))
        (text_utf8 tokens (suc i) texts more) (place_start-text tokens (suc i) more) (place_end-order tokens (suc i) texts more))
    next more (inr (e, is)) = blank-whole (spelling_of tokens) (place_end tokens i) is

    by_last : (suc i < length tokens) ⊎ (length tokens ≤ suc i) → IsCharBoundary (spelling_of tokens) (place_end tokens i)
    by_last (inl more) = next more (tokens-next tokens i more)
    by_last (inr none) =
        subst (IsCharBoundary (spelling_of tokens)) (sym (place_end-last tokens i (omega arith))) (IsCharBoundary-end (spelling_of tokens))

-- ---- the places of spans

pub record LiesWell (tokens : List TokenValue) (last p : ℕ) : Type 0 where
  pub known : last < length tokens
  pub front : p ≤ place_end tokens last
  pub whole : IsCharBoundary (spelling_of tokens) p

place_lies : (tokens : List TokenValue) (kind : SpanKind) (number last p : ℕ) → AreTexts tokens → last < length tokens
    → LiesBefore tokens kind number last → IsPlaceOf tokens kind number p → LiesWell tokens last p
place_lies tokens End number last p texts known front is =
    let e : place_end tokens last ≡ p = sym (is ∙ front) in
    record { known = known; front = omega arith; whole = subst (IsCharBoundary (spelling_of tokens)) e (end-whole tokens last texts known) }
place_lies tokens Place number last p texts known front is =
    let n : number < place_end tokens last = front.0 in
    let e : p ≡ number = is in
    record { known = known; front = omega arith; whole = subst (IsCharBoundary (spelling_of tokens)) (sym is) front.1 }
place_lies tokens Letters number last p texts known front is =
    let n : number < place_end tokens last = front in
    let e : p ≡ number = is.0 in
    record { known = known; front = omega arith; whole = subst (IsCharBoundary (spelling_of tokens)) (sym is.0) is.1.whole }
place_lies tokens Blanks number last p texts known front (letter, blank) = by_blank p number letter front blank
  where
    by_blank : (r n : ℕ) → IsLetterPlace tokens n → n < place_end tokens last → OverBlank tokens r n → LiesWell tokens last r
    by_blank r n begins before (over is) = record { known = known; front = omega arith; whole = blank-whole (spelling_of tokens) r is }
    by_blank r n begins before (stays none gap) = record { known = known; front = omega arith; whole = begins.whole }

pub number-lies : (tokens : List TokenValue) (span : PlaceSpan) (number q : ℕ) → AreTexts tokens → ArePlaced tokens (span ∷ [])
    → span.low ≤ number → number ≤ span.high → IsPlaceOf tokens span.kind number q → LiesWell tokens span.last q
number-lies tokens span number q texts placed low high place =
    place_lies tokens span.kind number span.last q texts (last-one tokens span placed)
    (placed.front span.kind number span.last (Holds-one span number low high)) place

-- no number gives two places
pub place-same : (tokens : List TokenValue) (kind : SpanKind) (number p q : ℕ) → IsPlaceOf tokens kind number p → IsPlaceOf tokens kind number q → p ≡ q
place-same tokens End number p q one other = one ∙ sym other
place-same tokens Place number p q one other = one ∙ sym other
place-same tokens Letters number p q one other = one.0 ∙ sym other.0
place-same tokens Blanks number p q one other = OverBlank-one tokens p q number one.1 other.1

-- a blank leads back by one place at most
over-bounds : (tokens : List TokenValue) (p q : ℕ) → OverBlank tokens p q → (p ≤ q) × (q ≤ p + 1)
over-bounds tokens p q (over is) = (omega arith, omega arith)
over-bounds tokens p q (stays none gap) = (omega arith, omega arith)

-- a lesser number gives no greater place
pub place-order : (tokens : List TokenValue) (kind : SpanKind) (m n p q : ℕ) → IsPlaceOf tokens kind m p → IsPlaceOf tokens kind n q → m < n → p ≤ q
place-order tokens End m n p q one other before = let e : p ≡ m = one in let f : q ≡ n = other in omega arith
place-order tokens Place m n p q one other before = let e : p ≡ m = one in let f : q ≡ n = other in omega arith
place-order tokens Letters m n p q one other before = let e : p ≡ m = one.0 in let f : q ≡ n = other.0 in omega arith
place-order tokens Blanks m n p q (_, one) (_, other) before =
    let a = over-bounds tokens p m one in let b = over-bounds tokens q n other in omega (arith, a.0, b.1)
