-- Lines and texts on the way from a side.
use Rattle.std.proofs.Common.{◌≡◌, ℕ, ◌+◌, ◌-◌, ◌≤◌, List, length, take, drop, refl, sym, ap, ◌∙◌, arith}
use Rattle.std.specs.Prelude.{slice_range, bytes_eq, reverse}
use Rattle.std.proofs.lemmas.Slice.Eq.{bytes_eq-Decides}
use Rattle.std.proofs.lemmas.List.{length-reverse, length-map, length-take-le, drop-take, drop-map, take-map}
use Rattle.lic_trim.specs.Sources.{SourceChar, chars_of}
use Rattle.lic_trim.specs.Walks.{Side, Front, End, walked}
use Rattle.lic_trim.proofs.TextLemmas.{same_truth, reverse_same, take-reverse, drop-reverse}

pub length-walked : (side : Side) (text : List ℕ) → length (walked side text) ≡ length text
length-walked Front text = refl
length-walked End text = length-reverse text

pub walked_same : (side : Side) (a b : List ℕ) → walked side a ≡ walked side b → a ≡ b
walked_same Front a b e = e
walked_same End a b e = reverse_same a b e

pub bytes_eq-walked : (side : Side) (a b : List ℕ) → bytes_eq a b ≡ bytes_eq (walked side b) (walked side a)
bytes_eq-walked side a b = same_truth _ _
    (λ h. (bytes_eq-Decides _ _).1 (ap (walked side) (sym ((bytes_eq-Decides a b).0 h))))
    (λ h. (bytes_eq-Decides a b).1 (sym (walked_same side b a ((bytes_eq-Decides _ _).0 h))))

-- a part of a line
pub chars_of-range : (line : List SourceChar) (from to : ℕ) → chars_of (slice_range line from to) ≡ slice_range (chars_of line) from to
chars_of-range line from to = sym (take-map (λ (s : SourceChar). s.char) (to - from) (drop from line))
    ∙ ap (take (to - from)) (sym (drop-map (λ (s : SourceChar). s.char) from line))

-- a part on the way from the end
pub reverse-range : (text : List ℕ) (from to : ℕ) → from ≤ to → to ≤ length text
    → reverse (slice_range text (length text - to) (length text - from)) ≡ slice_range (reverse text) from to
reverse-range text from to order within =
    let n = length text in
    let size : n - from - (n - to) ≡ to - from = omega arith in
    let index : n - to + (to - from) ≡ n - from = omega arith in
    let front = take (n - from) text in
    let long : length front ≡ n - from = length-take-le (n - from) text (omega arith) in
    let less : length front - (to - from) ≡ n - to = omega arith in
    -- the part is the end of a front
    let part : slice_range text (n - to) (n - from) ≡ drop (n - to) front =
    ap (λ m. take m (drop (n - to) text)) size ∙ sym (drop-take (n - to) (to - from) text) ∙ ap (λ m. drop (n - to) (take m text)) index in
    ap reverse (part ∙ ap (λ m. drop m front) (sym less))
    ∙ sym (take-reverse (to - from) front (omega arith))
    ∙ ap (take (to - from)) (sym (drop-reverse from text (omega arith)))

pub length-walked_chars : (side : Side) (line : List SourceChar) → length (walked side (chars_of line)) ≡ length line
length-walked_chars side line = length-walked side (chars_of line) ∙ length-map line (λ (s : SourceChar). s.char)
