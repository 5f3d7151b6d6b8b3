-- Going back over the letters of a text.
use Rattle.std.proofs.Common.{◌≡◌, ℕ, ◌<◌, ◌≤◌, List, [], ◌∷◌, length, refl, sym, ap, arith, subst, ◌∙◌, get_or}
use Rattle.std.specs.Str.{IsCharBoundary, IsUtf8, chars}
use Rattle.std.proofs.lemmas.List.Edits.{get_or-between}
use Rattle.std.proofs.lemmas.Str.{IsCharBoundary-start}
use Rattle.lic_tokens.specs.Tokens.{TokenValue}
use Rattle.lic_tokens.specs.Places.{place_end}
use Rattle.lic_places.specs.Places.{AreTexts, Occurs, spelling_of}
use Rattle.lic_places.specs.Reads.{Reads}
use Rattle.lic_literals.specs.Ends.{EndsAt}
use Rattle.lic_view.specs.Backward.{IsBackFrom}
use Rattle.lic_places.specs.Texts.{AreLetters}
pub use Rattle.lic_places.proofs.TextWords.{IsWordOf}
use Rattle.lic_view.proofs.PlaceLaws.{text-read}
use Rattle.lic_view.proofs.Back.{back-nothing}
use Rattle.lic_view.proofs.SingleLemmas.{back-single, single}
use Rattle.lic_view.specs.declared.sets.keep.Keep.{Keep}

-- a character begins where letters in UTF-8 are
letters-whole : (bytes letters : List ℕ) (p q : ℕ) → IsUtf8 letters → 0 < length letters → q ≤ length bytes → Occurs bytes p letters q → IsCharBoundary bytes p
letters-whole bytes letters p q utf8 some within occurs = (
  omega (arith, occurs.0),
  λ below big. lead big,
)
  where
    first : get_or letters 0 0 ≡ get_or bytes p 0
    first = sym (ap (λ x. get_or x 0 0) occurs.1) ∙ (get_or-between bytes p q 0 0 (omega (arith, occurs.0)) ∙ ap (λ i. get_or bytes i 0) (omega arith))

    lead : 128 ≤ get_or bytes p 0 → 192 ≤ get_or bytes p 0
    lead big = let front = (IsCharBoundary-start letters utf8).1 some (omega (arith, big, first)) in omega (arith, front, first)

-- where the letters end at the one place of a set
pub back-letters : (keep : Keep) (tokens : List TokenValue) (letters : List ℕ) (Ends : ℕ → ℕ → Type 0) (q last : ℕ) → AreTexts tokens → AreLetters letters →
    last < length tokens → q ≤ place_end tokens last → Ends q last → ((r l : ℕ) → Ends r l → (r ≡ q) × (l ≡ last)) →
    (e : EndsAt (spelling_of tokens) letters q) → IsBackFrom keep tokens (IsWordOf letters) Ends (single e.start last ∷ [])
back-letters keep tokens letters Ends q last texts are within front end ends e =
    back-single keep tokens (IsWordOf letters) Ends e.start q last (chars letters) within
    (omega (arith, e.end, are.some))
    (letters-whole (spelling_of tokens) letters e.start q are.utf8 are.some e.within (e.end, e.is))
    end ends refl
    ((text-read tokens letters e.start q texts are.utf8 are.piece are.some are.front are.end).1 (e.end, e.is))
    (λ r v has reads.
    let occurs = (text-read tokens letters r q texts are.utf8 are.piece are.some are.front are.end).0 (subst (λ x. Reads tokens r x q) has reads) in
    omega (arith, occurs.0, e.end))

-- where they end at no place of a set
pub back-no_letters : (keep : Keep) (tokens : List TokenValue) (letters : List ℕ) (Ends : ℕ → ℕ → Type 0) → AreTexts tokens → AreLetters letters →
    ((q last : ℕ) → Ends q last → q ≤ length (spelling_of tokens)) →
    ((q last : ℕ) → Ends q last → ¬ (EndsAt (spelling_of tokens) letters q)) → IsBackFrom keep tokens (IsWordOf letters) Ends []
back-no_letters keep tokens letters Ends texts are within none = back-nothing keep tokens (IsWordOf letters) Ends
    (λ p q l w end has reads.
    let occurs = (text-read tokens letters p q texts are.utf8 are.piece are.some are.front are.end).0 (subst (λ x. Reads tokens p x q) has reads) in
    none q l end (record { start = p; end = occurs.0; within = within q l end; is = occurs.1 }))
