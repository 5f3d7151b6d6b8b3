-- Candidates among the templates of a set, by what is looked for of each.
use Rattle.std.proofs.Common.{◌≡◌, ◌↔◌, ℕ, ◌<◌, List, [], ◌∷◌, Option, None, Some, map, length, get_or, All, refl, sym, ap, ◌∙◌, subst, arith}
use Rattle.std.specs.Option.{option_map}
use Rattle.std.specs.Prelude.{Contains, IfNone, IfOk, IfSome, Result, Ok, Err}
use Rattle.std.specs.List.Sorted.{IsStrictlyIncreasing}
use Rattle.std.proofs.lemmas.List.{get_or-map, length-map}
use Rattle.std.proofs.lemmas.Option.{get_or_from_slice_get, slice_get-get_or, slice_get_within}
use Rattle.lic_norm.specs.Tokens.{TokenValue}
use Rattle.lic_markup.specs.declared.part.Part.{Part}
use Rattle.lic_literals.specs.Ends.{EndsAt}
use Rattle.lic_places.specs.Places.{AreTexts, spelling_of}
use Rattle.lic_keys.specs.Candidates.{IsCandidateIn, KeepsEnds}
use Rattle.lic_keys.specs.Keys.{AreKeysOf, IsKeyOf, KeysValue, letters_of, text_of}
use Rattle.lic_keys.specs.Required.{HasNoLetters, HoldEnds, IsLongestText}
use Rattle.lic_literals.specs.declared.kept.Kept.{Kept}
use Rattle.lic_keys.specs.declared.required_ends.RequiredEnds.{RequiredEnds}
use Rattle.lic_keys.proofs.LongestLemmas.{longest-alike}
use Rattle.lic_keys.proofs.RequiredEndLemmas.{described-ends}
use Rattle.lic_set.specs.Candidates.{IsCandidateOf, number_of}
use Rattle.lic_set.specs.Matches.{IsMatch}
use Rattle.lic_set.specs.Rising.{IsRising}
use Rattle.lic_set.specs.Sets.{Known, parts_of}
use Rattle.lic_set.specs.declared.triple.Triple.{Triple}

-- the numbers of candidates
pub rising-numbers : (found : List Kept) (n : ℕ) → IsStrictlyIncreasing (map (λ c. c.number) found) → All (λ c. c.number < n) found →
    IsRising (map number_of found) n
rising-numbers found n rising below = record {
  order = rising;
  below = λ i within.
      let size : length (map number_of found) ≡ length found = length-map found number_of in
      at found i (omega arith) below;
}
  where
    at : (found : List Kept) (i : ℕ) → i < length found → All (λ c. c.number < n) found → get_or (map number_of found) i 0 < n
    at [] i within all = absurd (omega arith)
    at (first ∷ later) i within all =
        let is : get_or (map number_of (first ∷ later)) i 0 ≡ (get_or (first ∷ later) i first).number = get_or-map number_of (first ∷ later) i first 0 within in
        omega (arith, all i first within)

-- two facts of an answer
pub both-ok : {X E : Type 0} (P Q : X → Type 0) (r : Result X E) → IfOk r P → IfOk r Q → IfOk r (λ x. P x × Q x)
both-ok P Q (Ok x) p q = (p, q)
both-ok P Q (Err e) p q = tt

-- the places of another text with the same letters
same-text : (bytes : List ℕ) (candidate : Kept) (parts : List Part) (text : Option ℕ) (own : List ℕ) (part : ℕ) (letters : List ℕ) →
    IsKeyOf parts text own → ((number : ℕ) → text ≡ Some number → KeepsEnds bytes own candidate) → IsLongestText parts part letters →
    KeepsEnds bytes letters candidate
same-text bytes candidate parts None own part letters key keeps longest = absurd (key.1 part letters longest.has)
same-text bytes candidate parts (Some number) own part letters key keeps longest =
    let alike = longest-alike parts number part own letters key longest in
    subst (λ l. KeepsEnds bytes l candidate) alike.1 (keeps number refl)

-- where a template describes a range, its letters end somewhere
key-ends : (tokens : List TokenValue) (parts : List Part) (text : Option ℕ) (own : List ℕ) → IsKeyOf parts text own →
    ((number : ℕ) → IsLongestText parts number own → (e : ℕ) × EndsAt (spelling_of tokens) own e) → (e : ℕ) × EndsAt (spelling_of tokens) own e
key-ends tokens parts None own key ends =
    (0, subst (λ l. EndsAt (spelling_of tokens) l 0) (sym key.0) (record { start = 0; end = refl; within = omega arith; is = refl }))
key-ends tokens parts (Some number) own key ends = ends number key

module _ (set : List Known) (keys : KeysValue) (are : AreKeysOf (parts_of set) keys) where
  pub keys-count : length keys.texts ≡ length set
  keys-count = are.count ∙ length-map set (λ (known : Known). known.template.parts)

  -- what is looked for of a template
  key-of : (k : ℕ) (d : Known) → k < length set → IsKeyOf (get_or set k d).template.parts (text_of keys k) (letters_of keys k)
  key-of k d within =
      let parts = λ (known : Known). known.template.parts in
      let size : length (parts_of set) ≡ length set = length-map set parts in
      are.each k (get_or set k d).template.parts
      (slice_get-get_or (parts_of set) k d.template.parts (omega arith) ∙ ap Some (get_or-map parts set k d d.template.parts within))

  module _ (tokens : List TokenValue) where
    pub is-candidate : (candidate : Kept) → IsCandidateIn keys (spelling_of tokens) candidate → IsCandidateOf set tokens candidate
    is-candidate candidate is =
        let below : candidate.number < length set = omega (arith, is.below, keys-count) in
        record {
          below = below;
          ends = λ d part letters longest.
              same-text (spelling_of tokens) candidate (get_or set candidate.number d).template.parts (text_of keys candidate.number)
              (letters_of keys candidate.number) part letters (key-of candidate.number d below) is.ends longest;
        }

    pub is-candidate-in : (d : Known) (candidate : Kept) → IsCandidateOf set tokens candidate → IsCandidateIn keys (spelling_of tokens) candidate
    is-candidate-in d candidate of = record {
      below = omega (arith, of.below, keys-count);
      ends = λ part is.
          let k = candidate.number in
          let key : IsKeyOf (get_or set k d).template.parts (Some part) (letters_of keys k) =
          subst (λ t. IsKeyOf (get_or set k d).template.parts t (letters_of keys k)) is (key-of k d of.below) in
          of.ends d part (letters_of keys k) key;
    }

    pub match-within : (t : Triple) → IsMatch set tokens t → t.template < length keys.texts
    match-within t match = omega (arith, slice_get_within set t.template match.known match.number, keys-count)

    -- the letters of the template of a match end somewhere
    pub match-ends : AreTexts tokens → (t : Triple) → IsMatch set tokens t → (e : ℕ) × EndsAt (spelling_of tokens) (letters_of keys t.template) e
    match-ends texts t match =
        let within = slice_get_within set t.template match.known match.number in
        let known : get_or set t.template match.known ≡ match.known = get_or_from_slice_get set t.template match.known match.known match.number in
        let parts = match.known.template.parts in
        let key : IsKeyOf parts (text_of keys t.template) (letters_of keys t.template) =
        subst (λ one. IsKeyOf one.template.parts (text_of keys t.template) (letters_of keys t.template)) known (key-of t.template match.known within) in
        key-ends tokens parts (text_of keys t.template) (letters_of keys t.template) key
        (λ number longest. described-ends tokens parts number t.first t.last (letters_of keys t.template) texts longest.has match.order match.within match.described)

  module _ (candidate : Kept) (below : candidate.number < length set) where
    -- the places of the text that is looked for are those of a required text
    pub hold-ends : (bytes : List ℕ) (found : Option RequiredEnds) → option_map (λ ends. ends.part) found ≡ text_of keys candidate.number →
        IfSome found (λ ends. (e : ℕ) → Contains ends.places.items e ↔ EndsAt bytes (letters_of keys candidate.number) e) →
        IfSome found (λ ends. (d : Known) → HoldEnds bytes (get_or set candidate.number d).template.parts ends.part ends.places.items)
    hold-ends bytes None is exact = tt
    hold-ends bytes (Some ends) is exact = λ d.
        let parts = (get_or set candidate.number d).template.parts in
        let key : IsKeyOf parts (Some ends.part) (letters_of keys candidate.number) =
        subst (λ t. IsKeyOf parts t (letters_of keys candidate.number)) (sym is) (key-of candidate.number d below) in
        record { letters = letters_of keys candidate.number; text = key.has; all = λ e at. (exact e).1 at }

    -- where none is looked for, there is none
    pub no-letters : (found : Option RequiredEnds) → option_map (λ ends. ends.part) found ≡ text_of keys candidate.number →
        IfNone found ((d : Known) → HasNoLetters (get_or set candidate.number d).template.parts)
    no-letters None is = λ d.
        let parts = (get_or set candidate.number d).template.parts in
        let key : IsKeyOf parts None (letters_of keys candidate.number) =
        subst (λ t. IsKeyOf parts t (letters_of keys candidate.number)) (sym is) (key-of candidate.number d below) in
        key.1
    no-letters (Some ends) is = tt
