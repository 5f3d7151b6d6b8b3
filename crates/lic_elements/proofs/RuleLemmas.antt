-- Reading names, values and fields.
use Rattle.std.proofs.Common.{◌≡◌, ℕ, ◌+◌, Bool, true, false, cond, eqb, List, [], ◌∷◌, ◌++◌, length, take, drop, Option, Some, None, Result, Ok, Err, refl, sym, ap, ◌∙◌, append_assoc, arith}
use Rattle.std.specs.Char.{is_ascii_alphanumeric}
use Rattle.std.specs.Option.{option_map}
use Rattle.std.proofs.lemmas.List.{drop-drop, drop_at, append-nil}
use Rattle.lic_ere.specs.Located.{Located, with_remaining, further}
use Rattle.lic_elements.specs.declared.fault.MarkupFault.{MarkupFault}
use Rattle.lic_elements.specs.declared.fault.MarkupCause.TheVariants.{NotClosed}
use Rattle.lic_elements.specs.declared.rule.tag.Tag.{Tag}
use Rattle.lic_elements.specs.Signs.{less, equals, backslash}
use Rattle.lic_elements.specs.Texts.{begins_with, text_of}
use Rattle.lic_elements.specs.Faults.{fault_at, map_ok}
use Rattle.lic_elements.specs.Rules.{word_at, tag_of, tag_at, at_end, ends_quoted, ends_plain, one_more, open_field, without_equals, name_at, quoted_at, plain_at}
use Rattle.lic_elements.proofs.FaultLemmas.{following, following-none, following-following}
use Rattle.lic_elements.proofs.LocatedLemmas.{same_front}

-- ---- words

-- a word is a front
pub word_at-front : (xs : List Located) → take (length (word_at xs)) xs ≡ word_at xs
word_at-front [] = refl
word_at-front (x ∷ xs) = elim (is_ascii_alphanumeric x.1) as (λ b. take (length (cond b (x ∷ word_at xs) [])) (x ∷ xs) ≡ cond b (x ∷ word_at xs) []) [
  | true ↦ ap (λ l. x ∷ l) (word_at-front xs)
  | false ↦ refl
]

-- the letters and digits in front were passed
pub record HasPassedWord (all rest : List Located) : Type 0 where
  pub front : List Located
  pub parts : front ++ rest ≡ all
  pub word : front ++ word_at rest ≡ word_at all

pub no_letter_passed : (all : List Located) → HasPassedWord all all
no_letter_passed all = record { front = []; parts = refl; word = refl }

pub letter_passed : (all rest : List Located) (x : Located) (after : List Located) → rest ≡ x ∷ after
    → is_ascii_alphanumeric x.1 ≡ true → HasPassedWord all rest → HasPassedWord all after
letter_passed all rest x after is letter passed =
    let f = passed.front in
    record {
      front = f ++ x ∷ [];
      parts = append_assoc f (x ∷ []) after ∙ ap (λ l. f ++ l) (sym is) ∙ passed.parts;
      word = append_assoc f (x ∷ []) (word_at after) ∙ ap (λ l. f ++ l) (sym (ap word_at is ∙ ap (λ b. cond b (x ∷ word_at after) []) letter)) ∙ passed.word;
    }

pub no_word : (rest : List Located) (x : Located) (after : List Located) → rest ≡ x ∷ after → is_ascii_alphanumeric x.1 ≡ false → word_at rest ≡ []
no_word rest x after is other = ap word_at is ∙ ap (λ b. cond b (x ∷ word_at after) []) other

pub no_word-end : (rest : List Located) → length rest ≡ 0 → word_at rest ≡ []
no_word-end [] none = refl
no_word-end (x ∷ rest) none = absurd (omega arith)

pub before_none : (all rest : List Located) → length rest ≡ 0 → all ++ rest ≡ all
before_none all [] none = append-nil all
before_none all (x ∷ rest) none = absurd (omega arith)

-- the word where it ends, and what follows it
module _ (all rest front : List Located) (ends : word_at rest ≡ []) (parts : front ++ rest ≡ all) (passed : HasPassedWord all rest) where
  pub whole_word : front ≡ word_at all
  whole_word =
      same_front front passed.front rest all parts passed.parts ∙ sym (append-nil passed.front)
      ∙ ap (λ l. passed.front ++ l) (sym ends) ∙ passed.word

  pub following_word : rest ≡ drop (length (word_at all)) all
  following_word = sym (drop_at front rest (length front) refl) ∙ (λ i. drop (length (whole_word i)) (parts i))

-- ---- tags

-- a `<` is followed by no other
pub no_tag : (offset : ℕ) (rest : List Located) → begins_with less rest ≡ false → option_map (with_remaining rest) (tag_at (offset, less) rest) ≡ None
unfolding tag_at
no_tag offset rest other = rw other refl

-- it is followed by another, and this by a word
module _ (offset : ℕ) (rest following_it : List Located) (word : List ℕ) (sign : begins_with less rest ≡ true)
    (is : text_of (word_at (drop 1 rest)) ≡ word) (others : following_it ≡ drop (length (word_at (drop 1 rest))) (drop 1 rest)) where
  pub tag_of_word : (o : Option Tag) → tag_of word ≡ o
      → option_map (with_remaining rest) (tag_at (offset, less) rest) ≡ option_map (λ tag. (tag, following_it)) o
  unfolding tag_at
  tag_of_word o tag =
      rw sign (ap (λ t. option_map (with_remaining rest) (option_map (λ tag. (tag, 1 + length (word_at (drop 1 rest)))) t)) (ap tag_of is ∙ tag)
      ∙ by_tag o)
    where
      by_tag : (o : Option Tag) → option_map (with_remaining rest) (option_map (λ tag. (tag, 1 + length (word_at (drop 1 rest)))) o) ≡ option_map (λ tag. (tag, following_it)) o
      by_tag None = refl
      by_tag (Some tag) = ap (λ (l : List Located). Some (tag, l)) (sym (others ∙ drop-drop (length (word_at (drop 1 rest))) 1 rest))

-- ---- readers

-- a reading, with what comes after the characters that it takes
abbrev pub read : {A : Type 0} → List Located → Result (A × ℕ) MarkupFault → Result (A × List Located) MarkupFault
read rest r = map_ok (with_remaining rest) r

-- a reader that takes one character more
pub one_more-read : (x : Located) (after : List Located) (r : Result (List Located × ℕ) MarkupFault)
    → read (x ∷ after) (map_ok (one_more x) r) ≡ following (x ∷ []) (read after r)
one_more-read x after (Ok y) = ap (λ (l : List Located). Ok (x ∷ y.0, l)) (sym (drop-drop y.1 1 (x ∷ after)))
one_more-read x after (Err e) = refl

-- a loop has passed the characters in front: those and what is read from here on are what is read of all
pub record HasPassed (all rest : List Located) (here total : Result (List Located × List Located) MarkupFault) : Type 0 where
  pub front : List Located
  pub parts : front ++ rest ≡ all
  pub so_far : following front here ≡ total

pub none_passed : (all : List Located) (here : Result (List Located × List Located) MarkupFault) → HasPassed all all here here
none_passed all here = record { front = []; parts = refl; so_far = following-none here }

-- where a reader takes one more
pub pass : (all rest : List Located) (x : Located) (after : List Located) (scan next : List Located → Result (List Located × ℕ) MarkupFault)
    (total : Result (List Located × List Located) MarkupFault)
    → rest ≡ x ∷ after → scan (x ∷ after) ≡ map_ok (one_more x) (next after)
    → HasPassed all rest (read rest (scan rest)) total → HasPassed all after (read after (next after)) total
pass all rest x after scan next total is turn passed =
    let f = passed.front in
    record {
      front = f ++ x ∷ [];
      parts = append_assoc f (x ∷ []) after ∙ ap (λ l. f ++ l) (sym is) ∙ passed.parts;
      so_far = following-following f (x ∷ []) (read after (next after))
          ∙ ap (following f) (sym (ap (read (x ∷ after)) turn ∙ one_more-read x after (next after)))
          ∙ ap (λ (l : List Located). following f (read l (scan l))) (sym is)
          ∙ passed.so_far;
    }

-- where the reader stops
pub stop : (all rest front following_it : List Located) (r : Result (List Located × ℕ) MarkupFault) (taken : ℕ)
    (total : Result (List Located × List Located) MarkupFault)
    → r ≡ Ok ([], taken) → drop taken rest ≡ following_it → front ++ rest ≡ all → HasPassed all rest (read rest r) total
    → total ≡ Ok (front, following_it)
stop all rest front following_it r taken total is others parts passed =
    sym passed.so_far ∙ ap (λ (s : Result (List Located × ℕ) MarkupFault). following passed.front (read rest s)) is
    ∙ (λ i. Ok ((append-nil passed.front ∙ same_front passed.front front rest all passed.parts parts) i, others i))

-- where the reader refuses
pub refuse : (all rest : List Located) (r : Result (List Located × ℕ) MarkupFault) (e : MarkupFault)
    (total : Result (List Located × List Located) MarkupFault)
    → r ≡ Err e → HasPassed all rest (read rest r) total → total ≡ Err e
refuse all rest r e total is passed =
    sym passed.so_far ∙ ap (λ (s : Result (List Located × ℕ) MarkupFault). following passed.front (read rest s)) is

-- ---- names

pub name-ends : (rule start : ℕ) (rest : List Located) (x : Located) (after : List Located) → rest ≡ x ∷ after
    → begins_with equals rest ≡ true → name_at rule start rest ≡ Ok ([], 1)
unfolding name_at
name-ends rule start rest x after is found =
    let here : begins_with equals (x ∷ after) ≡ true = ap (begins_with equals) (sym is) ∙ found in
    ap (name_at rule start) is ∙ rw here refl

pub name-refused : (rule start : ℕ) (rest : List Located) (x : Located) (after : List Located) → rest ≡ x ∷ after
    → begins_with equals rest ≡ false → at_end rest ≡ true → name_at rule start rest ≡ Err (without_equals rule start)
unfolding name_at
name-refused rule start rest x after is other found =
    let one : begins_with equals (x ∷ after) ≡ false = ap (begins_with equals) (sym is) ∙ other in
    let two : at_end (x ∷ after) ≡ true = ap at_end (sym is) ∙ found in
    ap (name_at rule start) is ∙ ap (λ b.
    cond b (Ok ([], 1)) (cond (at_end (x ∷ after)) (Err (without_equals rule start))
    (map_ok (one_more x) (name_at rule start after)))) one
    ∙ ap (λ b. cond b (Err (without_equals rule start)) (map_ok (one_more x) (name_at rule start after))) two

pub name-continues : (rule start : ℕ) (rest : List Located) (x : Located) (after : List Located) → rest ≡ x ∷ after
    → begins_with equals rest ≡ false → at_end rest ≡ false
    → name_at rule start (x ∷ after) ≡ map_ok (one_more x) (name_at rule start after)
unfolding name_at
name-continues rule start rest x after is other further =
    let one : begins_with equals (x ∷ after) ≡ false = ap (begins_with equals) (sym is) ∙ other in
    let two : at_end (x ∷ after) ≡ false = ap at_end (sym is) ∙ further in
    ap (λ b. cond b (Ok ([], 1)) (cond (at_end (x ∷ after)) (Err (without_equals rule start)) (map_ok (one_more x) (name_at rule start after)))) one
    ∙ ap (λ b. cond b (Err (without_equals rule start)) (map_ok (one_more x) (name_at rule start after))) two

pub name-open : (rule start : ℕ) (rest : List Located) → length rest ≡ 0 → name_at rule start rest ≡ Err (open_field rule start)
unfolding name_at
name-open rule start [] none = refl
name-open rule start (x ∷ rest) none = absurd (omega arith)

-- ---- values

pub quoted-ends : (rule : ℕ) (rest : List Located) (x : Located) (after : List Located) → rest ≡ x ∷ after
    → ends_quoted rest ≡ true → quoted_at rule rest ≡ Ok ([], 1)
unfolding quoted_at
quoted-ends rule rest x after is found =
    let here : ends_quoted (x ∷ after) ≡ true = ap ends_quoted (sym is) ∙ found in
    ap (quoted_at rule) is ∙ ap (λ b. cond b (Ok ([], 1)) (map_ok (one_more x) (quoted_at rule after))) here

pub quoted-continues : (rule : ℕ) (rest : List Located) (x : Located) (after : List Located) → rest ≡ x ∷ after
    → ends_quoted rest ≡ false → quoted_at rule (x ∷ after) ≡ map_ok (one_more x) (quoted_at rule after)
unfolding quoted_at
quoted-continues rule rest x after is other =
    let here : ends_quoted (x ∷ after) ≡ false = ap ends_quoted (sym is) ∙ other in
    ap (λ b. cond b (Ok ([], 1)) (map_ok (one_more x) (quoted_at rule after))) here

pub quoted-open : (rule : ℕ) (rest : List Located) → length rest ≡ 0 → quoted_at rule rest ≡ Err (fault_at rule NotClosed)
unfolding quoted_at
quoted-open rule [] none = refl
quoted-open rule (x ∷ rest) none = absurd (omega arith)

pub plain-ends : (rule : ℕ) (escaped : Bool) (rest : List Located) (x : Located) (after : List Located)
    → rest ≡ x ∷ after → ends_plain escaped rest ≡ true → plain_at rule escaped rest ≡ Ok ([], 0)
unfolding plain_at
plain-ends rule escaped rest x after is found =
    let here : ends_plain escaped (x ∷ after) ≡ true = ap (ends_plain escaped) (sym is) ∙ found in
    ap (plain_at rule escaped) is ∙ ap (λ b. cond b (Ok ([], 0)) (map_ok (one_more x) (plain_at rule (eqb x.1 backslash) after))) here

pub plain-continues : (rule : ℕ) (escaped : Bool) (rest : List Located) (x : Located) (after : List Located)
    → rest ≡ x ∷ after → ends_plain escaped rest ≡ false
    → plain_at rule escaped (x ∷ after) ≡ map_ok (one_more x) (plain_at rule (eqb x.1 backslash) after)
unfolding plain_at
plain-continues rule escaped rest x after is other =
    let here : ends_plain escaped (x ∷ after) ≡ false = ap (ends_plain escaped) (sym is) ∙ other in
    ap (λ b. cond b (Ok ([], 0)) (map_ok (one_more x) (plain_at rule (eqb x.1 backslash) after))) here

pub plain-open : (rule : ℕ) (escaped : Bool) (rest : List Located) → length rest ≡ 0 → plain_at rule escaped rest ≡ Err (fault_at rule NotClosed)
unfolding plain_at
plain-open rule escaped [] none = refl
plain-open rule escaped (x ∷ rest) none = absurd (omega arith)
