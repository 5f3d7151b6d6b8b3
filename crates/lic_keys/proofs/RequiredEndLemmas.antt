-- Where the letters of a required text end within what a word of the template spells.
use Rattle.std.proofs.Common.{◌≡◌, inl, inr, ℕ, suc, ◌+◌, ◌<◌, ◌≤◌, Bool, true, false, List, [], ◌∷◌, ◌++◌, length, map, take, drop, Some, refl, sym, ap, ◌∙◌, subst, arith, append_assoc}
use Rattle.std.specs.Prelude.{Contains, slice_get, slice_range}
use Rattle.std.specs.Str.{chars}
use Rattle.std.proofs.Math.Seq.{drop-cons}
use Rattle.std.proofs.lemmas.List.{drop-map, take-append-drop}
use Rattle.std.proofs.lemmas.Option.{get_or_from_slice_get, slice_get_within}
use Rattle.lic_words.specs.Words.{Word, Cat, blank}
use Rattle.lic_words.specs.Expressions.{Language}
use Rattle.lic_words.specs.Describing.{IsDescribed}
use Rattle.lic_phrases.specs.Spelling.{blank_if}
use Rattle.lic_markup.specs.declared.part.Part.{Part}
use Rattle.lic_markup.specs.Meaning.{parts_words}
use Rattle.lic_markup.specs.Parts as nodes
use Rattle.lic_markup.specs.Parts.{Node, part_of}
use Rattle.lic_norm.specs.Tokens.{TokenValue}
use Rattle.lic_norm.specs.Places.{place_end}
use Rattle.lic_places.specs.Places.{AreTexts, spelling_of}
use Rattle.lic_places.specs.Reads.{Reads, Takes}
use Rattle.lic_places.proofs.Reading.{Reads-cut, Reads-order}
use Rattle.lic_places.proofs.TextReading.{end-within, text-read}
use Rattle.lic_places.proofs.TieRange.{spelling_is_read}
use Rattle.lic_places.proofs.TokenPlaces.{OverBlank-order}
use Rattle.lic_literals.specs.Ends.{EndsAt}
use Rattle.lic_keys.specs.Required.{HasLetters, HoldEnds}
use Rattle.lic_places.proofs.TextWords.{text-words}

-- the words of parts, and then of others
pub parts-joined : (xs ys : List Node) (w : Word) → Language (parts_words (xs ++ ys)) w → Cat (Language (parts_words xs)) (Language (parts_words ys)) w
parts-joined [] ys w is = ([], w, refl, is, refl)
parts-joined (x ∷ xs) ys w is =
    let more = parts-joined xs ys is.1 is.3 in (
      is.0 ++ more.0,
      more.1,
      (is.0, more.0, is.2, more.2, refl),
      more.3,
      is.4 ∙ ap (λ x. is.0 ++ x) more.4 ∙ sym (append_assoc is.0 more.0 more.1),
    )

-- a list around one of its elements
around : (ns : List Node) (k : ℕ) (n : Node) → slice_get ns k ≡ Some n → ns ≡ take k ns ++ n ∷ drop (suc k) ns
around ns k n is =
    sym (take-append-drop k ns)
    ∙ ap (λ x. take k ns ++ x) (drop-cons ns k n (slice_get_within ns k n is) ∙ ap (λ x. x ∷ drop (suc k) ns) (get_or_from_slice_get ns k n n is))

-- a blank takes one byte at most
blank-most : (tokens : List TokenValue) (has : Bool) (p q : ℕ) → Reads tokens p (blank_if has) q → (p ≤ q) × (q ≤ p + 1)
blank-most tokens false p q reads = let same : p ≡ q = reads in (omega arith, omega arith)
blank-most tokens true p q (r, taken, same) = by_kind taken
  where
    by_kind : Takes tokens p blank r → (p ≤ q) × (q ≤ p + 1)
    by_kind (inl over) = let order = OverBlank-order tokens p r over.1 in (omega (arith, order.0, same), omega (arith, order.1, same))
    by_kind (inr letter) = absurd (letter.0 refl)

-- A place at which the letters of the text of this number end, and the place from which the parts after it are read: the
-- place itself, or that after a blank.
pub record TextEnds (tokens : List TokenValue) (parts : List Part) (number : ℕ) (letters : List ℕ) (end : ℕ) : Type 0 where
  pub place : ℕ
  pub next : ℕ
  pub word : Word
  pub ends : EndsAt (spelling_of tokens) letters place
  pub from : place ≤ next
  pub to : next ≤ place + 1
  pub is : Language (parts_words (map part_of (drop (number + 1) parts))) word
  pub reads : Reads tokens next word end

pub text-ends : (tokens : List TokenValue) (parts : List Part) (number : ℕ) (letters : List ℕ) (p last : ℕ) (w : Word) → AreTexts tokens →
    HasLetters parts number letters → last < length tokens → Language (parts_words (map part_of parts)) w →
    Reads tokens p w (place_end tokens last) → TextEnds tokens parts number letters (place_end tokens last)
text-ends tokens parts number letters p last w texts has within is reads =
    let ns = map part_of parts in
    let end = place_end tokens last in
    let node = nodes.letters has.text in
    let later = drop (suc number) ns in
    let cut = parts-joined (take number ns) (node ∷ later) w (subst (λ x. Language (parts_words x) w) (around ns number node has.part) is) in
    let start = Reads-cut tokens cut.0 cut.1 p end (subst (λ x. Reads tokens p x end) cut.4 reads) in
    let joined = cut.3 in
    let split = Reads-cut tokens joined.0 joined.1 start.0 end (subst (λ x. Reads tokens start.0 x end) joined.4 start.2) in
    let spelled = (text-words has.text letters has.has_front has.has_end has.edges joined.0).1 joined.2 in
    let front = Reads-cut tokens spelled.0 spelled.1 start.0 split.0 (subst (λ x. Reads tokens start.0 x split.0) spelled.4 split.1) in
    let middle = spelled.3 in
    let back = Reads-cut tokens middle.0 middle.1 front.0 split.0 (subst (λ x. Reads tokens front.0 x split.0) middle.4 front.2) in
    let are = has.edges.are has.some in
    let occurs = (text-read tokens letters front.0 back.0 texts are.utf8 are.piece are.some are.front are.end).0 (subst (λ x. Reads tokens front.0 x back.0) middle.2 back.1) in
    let blanks = blank-most tokens has.has_end back.0 split.0 (subst (λ x. Reads tokens back.0 x split.0) middle.3 back.2) in
    let forward = Reads-order tokens joined.1 split.0 end split.2 in
    let inside = end-within tokens last within in
    record {
      place = back.0;
      next = split.0;
      word = joined.1;
      ends = record { start = front.0; end = occurs.0; within = omega (arith, blanks.0); is = occurs.1 };
      from = blanks.0;
      to = blanks.1;
      is = subst (λ x. Language (parts_words x) joined.1) (ap (λ n. drop n ns) following ∙ drop-map part_of (number + 1) parts) joined.3;
      reads = split.2;
    }
  where
    following : suc number ≡ number + 1
    following = omega arith

-- the same of a place among others
pub record EndsText (tokens : List TokenValue) (parts : List Part) (number : ℕ) (places : List ℕ) (end : ℕ) : Type 0 where
  pub place : ℕ
  pub next : ℕ
  pub word : Word
  pub among : Contains places place
  pub from : place ≤ next
  pub to : next ≤ place + 1
  pub is : Language (parts_words (map part_of (drop (number + 1) parts))) word
  pub reads : Reads tokens next word end

pub ends-text : (tokens : List TokenValue) (parts : List Part) (number : ℕ) (places : List ℕ) (p last : ℕ) (w : Word) → AreTexts tokens →
    HoldEnds (spelling_of tokens) parts number places → last < length tokens → Language (parts_words (map part_of parts)) w →
    Reads tokens p w (place_end tokens last) → EndsText tokens parts number places (place_end tokens last)
ends-text tokens parts number places p last w texts known within is reads =
    let at = text-ends tokens parts number known.letters p last w texts known.text within is reads in
    record {
      place = at.place;
      next = at.next;
      word = at.word;
      among = known.all at.place at.ends;
      from = at.from;
      to = at.to;
      is = at.is;
      reads = at.reads;
    }

-- where a template describes a range of tokens, the letters of each of its texts end somewhere
pub described-ends : (tokens : List TokenValue) (parts : List Part) (number first last : ℕ) (letters : List ℕ) → AreTexts tokens →
    HasLetters parts number letters → first ≤ last → last < length tokens →
    IsDescribed (parts_words (map part_of parts)) (map (λ t. chars t.text) (slice_range tokens first (last + 1))) →
    (e : ℕ) × EndsAt (spelling_of tokens) letters e
described-ends tokens parts number first last letters texts has order within described =
    let w = described.1 in
    let read = (spelling_is_read tokens first last w texts order within).0 described.3 in
    let at = text-ends tokens parts number letters read.0 last w texts has within described.2 read.2 in
    (at.place, at.ends)
