-- The longest text of a template.
use Rattle.std.proofs.Common.{◌≡◌, inl, inr, ℕ, zero, suc, ◌+◌, ◌<◌, ◌≤◌, Bool, true, false, List, [], ◌∷◌, ◌++◌, length, map, get_or, Option, Some, None, Global, String, refl, sym, ap, ◌∙◌, subst, arith, eq-eqb}
use Rattle.std.specs.Prelude.{Contains, MatchOption}
use Rattle.std.specs.Option.{option_map}
use Rattle.std.specs.String.{string_bytes}
use Rattle.std.proofs.lemmas.Bool.{cases_lt, true≢false}
use Rattle.std.proofs.lemmas.List.{get_or-map, length-map, nil_from_length}
use Rattle.std.proofs.lemmas.List.Elements.{Contains-append_cases, Contains-append_left, Contains-append_right, Contains-get_or, Contains-push_cases}
use Rattle.std.proofs.lemmas.Option.{get_or_from_slice_get, slice_get-get_or, slice_get-map, slice_get_within}
use Rattle.lic_words.specs.Words.{blank}
use Rattle.lic_phrases.specs.Spelling.{blank_if}
use Rattle.lic_markup.specs.declared.part.Part.{Part, Part-F, fold-roll-Part, fold_out-Part}
use Rattle.lic_markup.specs.declared.part.Part as declared
use Rattle.lic_markup.specs.declared.part.Part.TheVariants.{Text, rolls-Text}
use Rattle.lic_markup.specs.Parts as nodes
use Rattle.lic_markup.specs.Parts.{Node, part_node, part_of, sequence}
use Rattle.lic_phrases.specs.PieceTexts.{IsPieceText}
use Rattle.lic_markup.specs.PartTexts.{HasPieceTexts, HavePieceTexts}
use Rattle.lic_places.specs.Texts.{AreEdges}
use Rattle.lic_keys.specs.Required.{HasLetters, HasNoLetters, IsLongestText}
use Rattle.lic_keys.specs.declared.longest.LongestText.{LongestText}
use Rattle.lic_keys.proofs.SameLetters.{letters-same}

-- the texts of each of some parts are those of pieces
pub texts-at : (parts : List Part) (i : ℕ) (d : Part) → i < length parts → HavePieceTexts (sequence (map part_of parts)) → HasPieceTexts (part_of (get_or parts i d))
texts-at [] i d below texts = absurd (omega arith)
texts-at (p ∷ ps) zero d below texts = texts.0
texts-at (p ∷ ps) (suc i) d below texts = texts-at ps i d (omega arith) texts.1

part_of-Text : (text : String Global) → part_of (Text text) ≡ nodes.letters (string_bytes text)
part_of-Text text = ap part_of (sym (rolls-Text text)) ∙ fold-roll-Part Node part_node (Part-F.Text text)

-- a part that is a text is one of a piece
pub text-piece : (parts : List Part) (i : ℕ) (p : Part) (text : String Global) → i < length parts → p ≡ get_or parts i p → p ≡ Text text →
    HavePieceTexts (sequence (map part_of parts)) → IsPieceText (string_bytes text)
text-piece parts i p text inside is has pieces =
    let known : HasPieceTexts (nodes.letters (string_bytes text)) =
    subst HasPieceTexts (ap part_of (sym is ∙ has) ∙ part_of-Text text) (texts-at parts i p inside pieces) in
    known.2

-- a part that is a text has the letters between its edges
pub text-letters : (parts : List Part) (i : ℕ) (p : Part) (text : String Global) (letters : List ℕ) (has_front has_end : Bool) → i < length parts →
    p ≡ get_or parts i p → p ≡ Text text → AreEdges (string_bytes text) has_front letters has_end → 0 < length letters → HasLetters parts i letters
text-letters parts i p text letters has_front has_end inside is has edges some = record {
  text = string_bytes text;
  part = slice_get-map part_of parts i ∙ (ap (option_map part_of) (slice_get-get_or parts i p inside) ∙ ap (λ x. Some (part_of x)) (sym is ∙ has) ∙ ap Some (part_of-Text text));
  has_front = has_front;
  has_end = has_end;
  edges = edges;
  some = some;
}

-- the number is that of a part
pub letters-within : (parts : List Part) (number : ℕ) (letters : List ℕ) → HasLetters parts number letters → number < length parts
letters-within parts number letters has =
    omega (arith, slice_get_within (map part_of parts) number (nodes.letters has.text) has.part, length-map parts part_of)

-- the part with letters, as a part
letters-part : (parts : List Part) (i : ℕ) (p : Part) (letters : List ℕ) → p ≡ get_or parts i p → (has : HasLetters parts i letters) → part_of p ≡ nodes.letters has.text
letters-part parts i p letters is has =
    let inside = letters-within parts i letters has in
    ap part_of is ∙ (sym (get_or-map part_of parts i p (nodes.letters has.text) inside) ∙ get_or_from_slice_get (map part_of parts) i (nodes.letters has.text) (nodes.letters has.text) has.part)

-- the bytes of a text's node, and whether it is one
bytes_of : Node → List ℕ
bytes_of (nodes.letters text) = text
bytes_of (nodes.variable name original pattern) = []
bytes_of (nodes.optional ns) = []

is_text : Node → Bool
is_text (nodes.letters text) = true
is_text (nodes.variable name original pattern) = false
is_text (nodes.optional ns) = false

-- a part that is no text
is_text-other : (p : Part) → ((text : String Global) → p ≡ Text text → ⊥) → is_text (part_of p) ≡ false
unfolding is_text declared.out-Part denote.Hole.Carrier.out
is_text-other (Text text) other = absurd (other text refl)
is_text-other p other = ap is_text (fold_out-Part Node part_node p)

-- it has no letters
pub other-no_letters : (parts : List Part) (i : ℕ) (p : Part) (letters : List ℕ) → p ≡ get_or parts i p → ((text : String Global) → p ≡ Text text → ⊥) →
    HasLetters parts i letters → ⊥
unfolding is_text
other-no_letters parts i p letters is other has = true≢false (sym (ap is_text (letters-part parts i p letters is has)) ∙ is_text-other p other)

-- each byte of an edge is a blank
edge-blank : (b : Bool) (c : ℕ) → Contains (blank_if b) c → blank ≡ c
edge-blank true c among = elim (Contains-push_cases [] blank c among) [ inl none ↦ absurd (omega (arith, none.1)) | inr same ↦ same ]
edge-blank false c among = absurd (omega (arith, among.1))

-- a text without letters has none in another way
edges-none : (text letters none : List ℕ) (f e g h : Bool) → AreEdges text f letters e → AreEdges text g none h → none ≡ [] → 0 < length letters → ⊥
edges-none text letters none f e g h edges empty is some =
    let first = get_or letters 0 0 in
    let among : Contains letters first = Contains-get_or letters 0 0 some in
    let inside : Contains (blank_if f ++ (letters ++ blank_if e)) first = Contains-append_right (blank_if f) (letters ++ blank_if e) first (Contains-append_left letters (blank_if e) first among) in
    let blanks : Contains (blank_if g ++ ([] ++ blank_if h)) first = subst (λ x. Contains (blank_if g ++ (x ++ blank_if h)) first) is (subst (λ x. Contains x first) (sym edges.parts ∙ empty.parts) inside) in
    let same : blank ≡ first = elim (Contains-append_cases (blank_if g) ([] ++ blank_if h) first blanks) [
      | inl front ↦ edge-blank g first front
      | inr end ↦ edge-blank h first end
    ] in
    (edges.are some).front (eq-eqb first blank (sym same))

-- a text without letters
pub text-no_letters : (parts : List Part) (i : ℕ) (p : Part) (text : String Global) (none letters : List ℕ) (g h : Bool) → p ≡ get_or parts i p →
    p ≡ Text text → AreEdges (string_bytes text) g none h → none ≡ [] → HasLetters parts i letters → ⊥
unfolding bytes_of
text-no_letters parts i p text none letters g h is var empty nothing has =
    let same : string_bytes text ≡ has.text = ap bytes_of (sym (ap part_of var ∙ part_of-Text text) ∙ letters-part parts i p letters is has) in
    edges-none has.text letters none has.has_front has.has_end g h has.edges (subst (λ x. AreEdges x g none h) same empty) nothing has.some

-- the letters of this text are those of any other account of it
pub text-most : (parts : List Part) (i : ℕ) (p : Part) (text : String Global) (letters others : List ℕ) (f e : Bool) → p ≡ get_or parts i p →
    p ≡ Text text → AreEdges (string_bytes text) f letters e → HasLetters parts i others → length others ≤ length letters
unfolding bytes_of
text-most parts i p text letters others f e is var edges has =
    let same : string_bytes text ≡ has.text = ap bytes_of (sym (ap part_of var ∙ part_of-Text text) ∙ letters-part parts i p others is has) in
    elim (cases_lt 0 (length letters)) [
      | inl some ↦
          let alike : others ≡ letters =
          letters-same has.text others letters has.has_front has.has_end f e has.edges (subst (λ x. AreEdges x f letters e) same edges) has.some some in
          omega (arith, ap length alike)
      | inr none ↦ absurd (text-no_letters parts i p text letters others f e is var edges (nil_from_length letters (omega arith)) has)
    ]

-- a text has its letters in one way
pub letters-alike : (parts : List Part) (number : ℕ) (xs ys : List ℕ) → HasLetters parts number xs → HasLetters parts number ys → xs ≡ ys
unfolding bytes_of
letters-alike parts number xs ys one other =
    let same : Some (nodes.letters other.text) ≡ Some (nodes.letters one.text) = sym other.part ∙ one.part in
    let text : other.text ≡ one.text = cc in
    letters-same one.text xs ys one.has_front one.has_end other.has_front other.has_end one.edges
    (subst (λ x. AreEdges x other.has_front ys other.has_end) text other.edges) one.some other.some

-- the longest text is one alone
pub longest-alike : (parts : List Part) (n m : ℕ) (xs ys : List ℕ) → IsLongestText parts n xs → IsLongestText parts m ys → (n ≡ m) × (xs ≡ ys)
longest-alike parts n m xs ys one other =
    let same : n ≡ m =
    elim (cases_lt n m) [
      | inl before ↦ absurd (omega (arith, other.first n xs one.has before, one.longest m ys other.has))
      | inr not_before ↦
          elim (cases_lt m n) [
            | inl after ↦ absurd (omega (arith, one.first m ys other.has after, other.longest n xs one.has))
            | inr not_after ↦ omega arith
          ]
    ] in
    (same, letters-alike parts m xs ys (subst (λ k. HasLetters parts k xs) same one.has) other.has)

-- ---- the longest so far

-- of the first n parts none has more letters than this text, and none before it as many
pub record IsLongestBelow (parts : List Part) (count number : ℕ) (letters : List ℕ) : Type 0 where
  pub has : HasLetters parts number letters
  pub longest : (n : ℕ) (l : List ℕ) → n < count → HasLetters parts n l → length l ≤ length letters
  pub first : (n : ℕ) (l : List ℕ) → HasLetters parts n l → n < number → length l < length letters

-- of the first n parts none has letters, or the text is the longest of them
abbrev pub IsLongest : List Part → ℕ → Option LongestText → Type 0
IsLongest parts count longest =
    MatchOption longest ((number : ℕ) (letters : List ℕ) → number < count → HasLetters parts number letters → ⊥)
    (λ text. IsLongestBelow parts count text.number text.letters.now)

-- the number of letters of the longest so far
abbrev pub HasSize : Option LongestText → ℕ → Type 0
HasSize longest size = MatchOption longest (size ≡ 0) (λ text. size ≡ length text.letters.now)

-- a part without more letters
pub longest-same : (parts : List Part) (count : ℕ) (longest : Option LongestText) (size : ℕ) → HasSize longest size →
    ((letters : List ℕ) → HasLetters parts count letters → length letters ≤ size) → IsLongest parts count longest → IsLongest parts (count + 1) longest
longest-same parts count None size none most known = λ number letters below has.
    elim (cases_lt number count) [
      | inl earlier ↦ known number letters earlier has
      | inr not_earlier ↦
          let same : number ≡ count = omega arith in
          omega (arith, most letters (subst (λ n. HasLetters parts n letters) same has), has.some)
    ]
longest-same parts count (Some text) size is most known = record {
  has = known.has;
  longest = λ n l below has.
      elim (cases_lt n count) [
        | inl earlier ↦ known.longest n l earlier has
        | inr not_earlier ↦
            let same : n ≡ count = omega arith in
            omega (arith, most l (subst (λ k. HasLetters parts k l) same has), is)
      ];
  first = known.first;
}

-- a part without letters
pub longest-other : (parts : List Part) (count : ℕ) (longest : Option LongestText) → ((letters : List ℕ) → HasLetters parts count letters → ⊥) →
    IsLongest parts count longest → IsLongest parts (count + 1) longest
longest-other parts count None none known = longest-same parts count None 0 refl (λ letters has. absurd (none letters has)) known
longest-other parts count (Some text) none known =
    longest-same parts count (Some text) (length text.letters.now) refl (λ letters has. absurd (none letters has)) known

-- every text so far has fewer letters
shorter-before : (parts : List Part) (count : ℕ) (longest : Option LongestText) (size : ℕ) → HasSize longest size → IsLongest parts count longest →
    (n : ℕ) (l : List ℕ) → HasLetters parts n l → n < count → length l ≤ size
shorter-before parts count None size none known n l has below = absurd (known n l below has)
shorter-before parts count (Some text) size is known n l has below = omega (arith, known.longest n l below has, is)

-- a part with more letters
pub longest-more : (parts : List Part) (count : ℕ) (longest : Option LongestText) (size : ℕ) (letters : List ℕ) → HasSize longest size →
    size < length letters → HasLetters parts count letters → ((l : List ℕ) → HasLetters parts count l → length l ≤ length letters) →
    IsLongest parts count longest → IsLongestBelow parts (count + 1) count letters
longest-more parts count longest size letters is more has most known = record {
  has = has;
  longest = λ n l below other.
      elim (cases_lt n count) [
        | inl earlier ↦ omega (arith, shorter-before parts count longest size is known n l other earlier)
        | inr not_earlier ↦
            let same : n ≡ count = omega arith in
            most l (subst (λ k. HasLetters parts k l) same other)
      ];
  first = λ n l other before. omega (arith, shorter-before parts count longest size is known n l other before);
}

pub longest-all : (parts : List Part) (count : ℕ) (longest : Option LongestText) → length parts ≤ count → IsLongest parts count longest →
    MatchOption longest (HasNoLetters parts) (λ text. IsLongestText parts text.number text.letters.now)
longest-all parts count None all known = λ number letters has.
    let inside = letters-within parts number letters has in
    known number letters (omega arith) has
longest-all parts count (Some text) all known = record {
  has = known.has;
  longest = λ n l has. let inside = letters-within parts n l has in known.longest n l (omega arith) has;
  first = known.first;
}
