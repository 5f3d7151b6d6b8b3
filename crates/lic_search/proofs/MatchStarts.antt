-- The places at which tokens begin, and those at which words that begin with them may begin.
use Rattle.std.proofs.Common.{◌≡◌, inl, inr, ℕ, zero, suc, ◌-◌, ◌<◌, ◌≤◌, List, [], length, get_or, drop, refl, sym, ap, ◌∙◌, subst, add-zero, arith, eq-eqb, IsTrue}
use Rattle.std.specs.Str.{IsCharBoundary, IsUtf8}
use Rattle.std.proofs.lemmas.Bool.{cases_lt, eqb-true, true≢false}
use Rattle.std.proofs.lemmas.List.{length-map, get_or-take, get_or-drop}
use Rattle.std.proofs.lemmas.List.Elements.{All-get_or, All-map}
use Rattle.std.proofs.lemmas.Str.{IsCharBoundary-start}
use Rattle.lic_norm.specs.Tokens.{TokenValue}
use Rattle.lic_norm.specs.Places.{place_end, place_start, texts_of}
use Rattle.lic_places.specs.Places.{AreTexts, HasGap, IsAfterBlank, OverBlank, Occurs, is_blank_at, spelling_of}
use Rattle.lic_places.specs.Places.OverBlank.{over, stays}
use Rattle.lic_places.specs.Reads.{BeginsAt}
use Rattle.lic_view.specs.PlaceSets.{IsLetterPlace}
use Rattle.lic_view.proofs.Laws.{no_blank-end, no_blank-start, tokens_are_at-first, tokens_are_at-next, tokens_are_at-order, tokens_are_at-text}
use Rattle.lic_view.proofs.ViewPlaces.{end-within, starts-after}

-- the first byte of a text that occurs somewhere begins a letter
text-boundary : (bytes text : List ℕ) (p q : ℕ) → IsUtf8 text → Occurs bytes p text q → p < q → q ≤ length bytes → IsCharBoundary bytes p
text-boundary bytes text p q utf8 occurs order within =
    let first : get_or text 0 0 ≡ get_or bytes p 0 =
    sym (ap (λ l. get_or l 0 0) occurs.1) ∙ get_or-take (q - p) (drop p bytes) 0 0 (omega arith) ∙ get_or-drop p bytes 0 0 ∙ ap (λ n. get_or bytes n 0) (add-zero p) in
    let lead = (IsCharBoundary-start text utf8).1 in
    (omega arith, λ inside high. omega (arith, first, lead (omega (arith, occurs.0)) (omega (arith, first))))

-- a letter begins where a token begins
pub start-letter : (tokens : List TokenValue) (i : ℕ) → AreTexts tokens → i < length tokens → IsLetterPlace tokens (place_start tokens i)
start-letter tokens i texts within =
    let text_of = λ (t : TokenValue). t.text in
    let inside : i < length (texts_of tokens) = omega (arith, length-map tokens text_of) in
    let utf8 : IsUtf8 (get_or (texts_of tokens) i []) = All-get_or IsUtf8 (texts_of tokens) i [] inside (All-map IsUtf8 text_of tokens texts.utf8) in
    record {
      whole = text-boundary (spelling_of tokens) (get_or (texts_of tokens) i []) (place_start tokens i) (place_end tokens i) utf8
          (tokens_are_at-text tokens i within) (tokens_are_at-order tokens i texts within) (end-within tokens i within);
      letter = λ blank. true≢false (sym (eq-eqb _ _ blank) ∙ no_blank-start tokens i texts within);
    }

-- no blank is at a letter
pub letter-no_blank : (tokens : List TokenValue) (p : ℕ) → IsLetterPlace tokens p → ¬ IsTrue (is_blank_at (spelling_of tokens) p)
letter-no_blank tokens p letter blank = letter.letter (eqb-true _ _ blank)

-- a blank before a place
pub past-blank : (tokens : List TokenValue) (p : ℕ) → IsAfterBlank (spelling_of tokens) (suc p) → IsTrue (is_blank_at (spelling_of tokens) p)
past-blank tokens p past =
    let bytes = spelling_of tokens in
    let same : past.0 ≡ p = omega (arith, past.1) in
    ap (λ n. is_blank_at bytes n) (sym same) ∙ past.2

-- A blank before the place at which a token begins leads from a place at which a word with this token may begin.
pub blank-before : (tokens : List TokenValue) (first : ℕ) → AreTexts tokens → first < length tokens
    → (p : ℕ) × OverBlank tokens p (place_start tokens first) × BeginsAt tokens first p
blank-before tokens zero texts within =
    let at : place_start tokens 0 ≡ 0 = tokens_are_at-first tokens within in
    let none : ¬ IsAfterBlank (spelling_of tokens) (place_start tokens 0) = λ past. absurd (omega (arith, past.1, at)) in
    (place_start tokens 0, stays none (inl at), inl refl)
blank-before tokens (suc k) texts within =
    elim (tokens_are_at-next tokens k texts within) [
      | inl same ↦
          let none = subst (λ p. ¬ IsAfterBlank (spelling_of tokens) p) (sym same) (no_blank-end tokens k texts (omega arith)) in
          let gap : HasGap tokens (place_start tokens (suc k)) = inr (inr (record { number = k; within = omega arith; ends = same })) in
          (place_start tokens (suc k), stays none gap, inl refl)
      | inr after ↦
          let end = place_end tokens k in (
            end,
            subst (λ q. OverBlank tokens end q) (sym after.0) (over after.1),
            inr (sym after.0, (end, refl, after.1)),
          )
    ]

-- a token that begins before another ends is no later
pub start-order : (tokens : List TokenValue) (first last : ℕ) → AreTexts tokens → first < length tokens → place_start tokens first < place_end tokens last → first ≤ last
start-order tokens first last texts within before =
    elim (cases_lt last first) [ inl below ↦ absurd (omega (arith, starts-after tokens last first texts below within)) | inr le ↦ le ]
