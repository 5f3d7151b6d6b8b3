-- Some tokens of a text have a canonical spelling that is in that of all tokens.
use Rattle.std.proofs.Common.{◌≡◌, ℕ, zero, suc, ◌+◌, ◌-◌, ◌<◌, ◌≤◌, List, [], ◌∷◌, ◌++◌, length, get_or, take, drop, refl, sym, ap, ap₂, ◌∙◌, arith, append_assoc, length-append}
use Rattle.std.specs.Prelude.{slice_range}
use Rattle.std.specs.Str.{IsUtf8}
use Rattle.std.proofs.lemmas.List.{length-map, length-take, length-take-le, length-drop, drop-map, take-map, take_at, drop_at, get_or-drop, get_or-take, take-take, drop-take}
use Rattle.std.proofs.lemmas.List.Elements.{All-take, All-drop}
use Rattle.lic_phrases.specs.Spelling.{spelled, blank_if, is_parted, is_parted_at}
use Rattle.lic_tokens.specs.Tokens.{TokenValue}
use Rattle.lic_phrases.specs.TokenTexts.{IsTokenText}
use Rattle.lic_tokens.specs.Places.{place_end, place_start, texts_of}
use Rattle.lic_places.specs.Places.{AreTexts, spelling_of}
use Rattle.lic_places.proofs.Spelled.{before, spelled-cut, spelled-front}
use Rattle.lic_places.proofs.TokenPlaces.{place_end-is, place_end-start, place_start-is}
use Rattle.lic_view.specs.Views.{AreSpelledFrom}

parted-take : (texts : List (List ℕ)) (n i : ℕ) → i < n → is_parted_at (take n texts) i ≡ is_parted_at texts i
parted-take texts n zero h = refl
parted-take texts n (suc i) h = ap₂ (λ a b. is_parted a b) (get_or-take n texts i [] (omega arith)) (get_or-take n texts (suc i) [] h)

-- texts up to some number, cut before one of them
pub spelled-range : (texts : List (List ℕ)) (f n : ℕ) → 0 < n → f + n ≤ length texts
    → spelled (take (f + n) texts) ≡ before texts f ++ spelled (take n (drop f texts))
spelled-range texts zero n some within =
    let same : 0 + n ≡ n = omega arith in
    ap (λ m. spelled (take m texts)) same
spelled-range texts (suc k) n some within =
    let first = take (suc k + n) texts in
    let few = length-take-le (suc k + n) texts within in
    let front : take (suc k) first ≡ take (suc k) texts = take-take (suc k) (suc k + n) texts (omega arith) in
    let parted : is_parted_at first (suc k) ≡ is_parted_at texts (suc k) = parted-take texts (suc k + n) (suc k) (omega arith) in
    let rest : drop (suc k) first ≡ take n (drop (suc k) texts) = drop-take (suc k) n texts in
    spelled-cut first k (omega arith)
    ∙ ap₂ (λ a b. spelled a ++ b) front (ap₂ (λ a b. blank_if a ++ spelled b) parted rest)
    ∙ sym (append_assoc (spelled (take (suc k) texts)) (blank_if (is_parted_at texts (suc k))) (spelled (take n (drop (suc k) texts))))

module _ (tokens : List TokenValue) (first count : ℕ) (within : first + count ≤ length tokens) where
  abbrev pub part : List TokenValue
  part = slice_range tokens first (first + count)

  part-is : part ≡ take count (drop first tokens)
  part-is = let same : first + count - first ≡ count = omega arith in ap (λ n. take n (drop first tokens)) same

  pub part-length : length part ≡ count
  part-length = ap length part-is ∙ length-take-le count (drop first tokens) (omega (arith, length-drop first tokens))

  texts-length : length (texts_of tokens) ≡ length tokens
  texts-length = length-map tokens (λ (t : TokenValue). t.text)

  part-texts : texts_of part ≡ take count (drop first (texts_of tokens))
  part-texts =
      ap texts_of part-is ∙ sym (take-map (λ (t : TokenValue). t.text) count (drop first tokens))
      ∙ ap (take count) (sym (drop-map (λ (t : TokenValue). t.text) first tokens))

  pub part-are_texts : AreTexts tokens → AreTexts part
  part-are_texts are = record {
    utf8 = All-take (λ (t : TokenValue). IsUtf8 t.text) (first + count - first) (drop first tokens) (All-drop (λ (t : TokenValue). IsUtf8 t.text) first tokens are.utf8);
    texts = All-take (λ (t : TokenValue). IsTokenText t.text) (first + count - first) (drop first tokens) (All-drop (λ (t : TokenValue). IsTokenText t.text) first tokens are.texts);
  }

  abbrev start : ℕ
  start = length (before (texts_of tokens) first)

  part-end : (i : ℕ) → i < count → place_end tokens (first + i) ≡ start + place_end part i
  part-end i h =
      let up_to : suc (first + i) ≡ first + suc i = omega arith in
      let few : take (suc i) (texts_of part) ≡ take (suc i) (drop first (texts_of tokens)) =
      ap (take (suc i)) part-texts ∙ take-take (suc i) count (drop first (texts_of tokens)) (omega arith) in
      place_end-is tokens (first + i)
      ∙ ap (λ n. length (spelled (take n (texts_of tokens)))) up_to
      ∙ ap length (spelled-range (texts_of tokens) first (suc i) (omega arith) (omega (arith, texts-length)))
      ∙ length-append (before (texts_of tokens) first) (spelled (take (suc i) (drop first (texts_of tokens))))
      ∙ ap (λ l. start + length (spelled l)) (sym few)
      ∙ ap (λ n. start + n) (sym (place_end-is part i))

  part-text : (i : ℕ) → i < count → get_or (texts_of part) i [] ≡ get_or (texts_of tokens) (first + i) []
  part-text i h =
      ap (λ l. get_or l i []) part-texts ∙ get_or-take count (drop first (texts_of tokens)) i [] h ∙ get_or-drop first (texts_of tokens) i []

  part-start : (i : ℕ) → i < count → place_start tokens (first + i) ≡ start + place_start part i
  part-start i h =
      omega (
        arith,
        part-end i h,
        place_end-start tokens (first + i) (omega arith),
        place_end-start part i (omega (arith, part-length)),
        ap length (part-text i h),
      )

  part-spelled : 0 < count → slice_range (spelling_of tokens) (place_start tokens first) (place_end tokens (first + count - 1)) ≡ spelling_of part
  part-spelled some =
      let texts = texts_of tokens in
      let last : suc (first + count - 1) ≡ first + count = omega arith in
      let cut = spelled-front texts (first + count - 1) (omega (arith, texts-length)) in
      let range = spelled (take count (drop first texts)) in
      let whole : spelling_of tokens ≡ before texts first ++ (range ++ cut.0) =
      cut.1 ∙ ap (λ n. spelled (take n texts) ++ cut.0) last ∙ ap (λ l. l ++ cut.0) (spelled-range texts first count some (omega (arith, texts-length)))
      ∙ append_assoc (before texts first) range cut.0 in
      let from : place_start tokens first ≡ start = place_start-is tokens first (omega arith) in
      let to : place_end tokens (first + count - 1) ≡ start + length range =
      place_end-is tokens (first + count - 1) ∙ ap (λ n. length (spelled (take n texts))) last
      ∙ ap length (spelled-range texts first count some (omega (arith, texts-length))) ∙ length-append (before texts first) range in
      let size : start + length range - start ≡ length range = omega arith in
      ap₂ (λ a b. slice_range (spelling_of tokens) a b) from to
      ∙ ap₂ (λ n l. take n l) size (ap (drop start) whole ∙ drop_at (before texts first) (range ++ cut.0) start refl)
      ∙ take_at range cut.0 (length range) refl
      ∙ ap spelled (sym part-texts)

  spelled-from : 0 < count → AreSpelledFrom tokens first count (place_start tokens first)
      (slice_range (spelling_of tokens) (place_start tokens first) (place_end tokens (first + count - 1)))
  spelled-from some =
      let from : place_start tokens first ≡ start = place_start-is tokens first (omega arith) in
      record {
        is = part-spelled some;
        ends = λ i h. omega (arith, part-end i h, from);
        starts = λ i h. omega (arith, part-start i h, from);
      }

  pub spelled-at : (begin end : ℕ) (bytes spelled : List ℕ) → 0 < count → begin ≡ place_start tokens first → end ≡ place_end tokens (first + count - 1)
      → bytes ≡ spelling_of tokens → spelled ≡ slice_range bytes begin end → AreSpelledFrom tokens first count begin spelled
  spelled-at begin end bytes spelled some from to whole is = rw (is, whole, from, to) (spelled-from some)

  none-part : count ≡ 0 → part ≡ []
  none-part none = part-is ∙ ap (λ n. take n (drop first tokens)) none

  pub spelled-none : (start : ℕ) → count ≡ 0 → AreSpelledFrom tokens first count start []
  spelled-none start none = record {
    is = sym (ap (λ (l : List TokenValue). spelling_of l) (none-part none));
    ends = λ i h. absurd (omega arith);
    starts = λ i h. absurd (omega arith);
  }
