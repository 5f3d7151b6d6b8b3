-- Where the texts of tokens are in their canonical spelling.
use Rattle.std.proofs.Common.{◌≡◌, ℕ, zero, suc, ◌+◌, ◌-◌, ◌≤◌, ◌<◌, ◌==◌, ◌&&◌, Bool, true, false, List, [], ◌∷◌, ◌++◌, length, map, take, drop, reverse, get_or, All, refl, sym, ap, ap₂, subst, ◌∙◌, arith, append_assoc, append-nil, length-append}
use Rattle.std.specs.List.{slice_range}
use Rattle.std.specs.Str.{chars, IsUtf8}
use Rattle.std.proofs.Math.Seq.{drop-append_seam, get_or-append_seam}
use Rattle.std.proofs.lemmas.Bool.{cond-true, cond-false, eqb-true, false_from_ne_true, true≢false}
use Rattle.std.proofs.lemmas.List.{length-reverse, reverse-append, take_all, take-append-le}
use Rattle.std.proofs.lemmas.List.Elements.{All-head, All-tail}
use Rattle.std.proofs.lemmas.Str.{chars-append, chars-nil, encode_ascii, encodes-chars, IsUtf8-append, IsUtf8-encode, IsUtf8-nil}
use Rattle.std.specs.Prelude.{encode_utf8_all}
use Rattle.lic_phrases.specs.Rewriting.{SpannedText}
use Rattle.lic_phrases.specs.Spelling.{first_is_word, begins_in_word, ends_in_word, is_parted, blank_if, spelled}
use Rattle.lic_phrases.specs.TokenTexts.{IsTokenText}
use Rattle.lic_tokens.specs.Places.{texts_of, place_end, place_start}
use Rattle.lic_tokens.specs.Tokens.{AreTokenTexts, TokenValue, reported}
use Rattle.lic_tokens.specs.Entries.{text_from}

-- ---- texts of tokens in UTF-8

abbrev pub AreTexts : List (List ℕ) → Type 0
AreTexts [] = Unit {0}
AreTexts (text ∷ texts) = IsUtf8 text × IsTokenText text × AreTexts texts

pub are_texts : (tokens : List TokenValue) → All (λ t. IsUtf8 t.text) tokens → AreTokenTexts tokens → AreTexts (texts_of tokens)
are_texts [] utf8 texts = tt
are_texts (t ∷ tokens) utf8 texts = (
  All-head (λ u. IsUtf8 u.text) t tokens utf8,
  All-head (λ u. IsTokenText u.text) t tokens texts,
  are_texts tokens (All-tail (λ u. IsUtf8 u.text) t tokens utf8) (All-tail (λ u. IsTokenText u.text) t tokens texts),
)

pub AreTexts-snoc : (texts : List (List ℕ)) (text : List ℕ) → AreTexts texts → IsUtf8 text → IsTokenText text → AreTexts (texts ++ text ∷ [])
AreTexts-snoc [] text known utf8 is = (utf8, is, tt)
AreTexts-snoc (t ∷ texts) text known utf8 is = (known.0, known.1, AreTexts-snoc texts text known.2 utf8 is)

AreTexts-take : (n : ℕ) (texts : List (List ℕ)) → AreTexts texts → AreTexts (take n texts)
AreTexts-take zero texts known = tt
AreTexts-take (suc n) [] known = tt
AreTexts-take (suc n) (t ∷ texts) known = (known.0, known.1, AreTexts-take n texts known.2)

AreTexts-drop : (n : ℕ) (texts : List (List ℕ)) → AreTexts texts → AreTexts (drop n texts)
AreTexts-drop zero texts known = known
AreTexts-drop (suc n) [] known = tt
AreTexts-drop (suc n) (t ∷ texts) known = AreTexts-drop n texts known.2

AreTexts-at : (texts : List (List ℕ)) (i : ℕ) → i < length texts → AreTexts texts
    → IsUtf8 (get_or texts i []) × IsTokenText (get_or texts i [])
AreTexts-at [] i inside known = absurd (omega arith)
AreTexts-at (t ∷ texts) zero inside known = (known.0, known.1)
AreTexts-at (t ∷ texts) (suc i) inside known = AreTexts-at texts i (omega arith) known.2

-- ---- their letters

pub no_last_letter : ends_in_word [] ≡ false
no_last_letter = ap (λ cs. first_is_word (reverse cs)) chars-nil

pub no_first_letter : begins_in_word [] ≡ false
no_first_letter = ap first_is_word chars-nil

has_letters : (text : List ℕ) → IsUtf8 text → 0 < length text → 0 < length (chars text)
has_letters text utf8 some = at (chars text) (encodes-chars text utf8)
  where
    at : (cs : List ℕ) → encode_utf8_all cs ≡ text → 0 < length cs
    at [] is = absurd (let none : 0 ≡ length text = ap length is in omega arith)
    at (c ∷ cs) is = omega arith

first_of_front : (xs ys : List ℕ) → 0 < length xs → first_is_word (xs ++ ys) ≡ first_is_word xs
first_of_front [] ys some = absurd (omega arith)
first_of_front (x ∷ xs) ys some = refl

-- what comes before a text has no effect on how it ends
pub ends_as : (front text : List ℕ) → IsUtf8 front → IsUtf8 text → 0 < length text → ends_in_word (front ++ text) ≡ ends_in_word text
ends_as front text front_utf8 utf8 some =
    let some_letters : 0 < length (reverse (chars text)) = omega (arith, length-reverse (chars text), has_letters text utf8 some) in
    ap (λ cs. first_is_word (reverse cs)) (chars-append front text front_utf8)
    ∙ ap first_is_word (reverse-append (chars front) (chars text))
    ∙ first_of_front (reverse (chars text)) (reverse (chars front)) some_letters

no_blank_first : (c : ℕ) (text : List ℕ) → IsTokenText (c ∷ text) → (c == 0x20) ≡ false
no_blank_first c text is = false_from_ne_true (c == 0x20) (λ blank.
    let word : ends_in_word [] ≡ true = (is.blanks [] text (ap (λ b. b ∷ text) (eqb-true c 0x20 blank))).0 in
    true≢false (sym word ∙ no_last_letter))

-- ---- one more text of a spelling

pub blank_utf8 : (parted : Bool) → IsUtf8 (blank_if parted)
blank_utf8 true = subst IsUtf8 (encode_ascii 0x20 (omega arith)) (IsUtf8-encode 0x20 refl)
blank_utf8 false = IsUtf8-nil

pub spelled_utf8 : (texts : List (List ℕ)) → AreTexts texts → IsUtf8 (spelled texts)
spelled_utf8 [] known = IsUtf8-nil
spelled_utf8 (text ∷ []) known = known.0
spelled_utf8 (text ∷ next ∷ texts) known =
    let blank = blank_if (is_parted text next) in
    let later = spelled (next ∷ texts) in
    IsUtf8-append text (blank ++ later) known.0
    (IsUtf8-append blank later (blank_utf8 (is_parted text next)) (spelled_utf8 (next ∷ texts) known.2))

spelled_some : (text : List ℕ) (texts : List (List ℕ)) → 0 < length text → 0 < length (spelled (text ∷ texts))
spelled_some text [] some = some
spelled_some text (next ∷ texts) some = omega (arith, length-append text (blank_if (is_parted text next) ++ spelled (next ∷ texts)))

pub spelled-snoc : (texts : List (List ℕ)) (text : List ℕ) → AreTexts texts
    → spelled (texts ++ text ∷ []) ≡ spelled texts ++ (blank_if (is_parted (spelled texts) text) ++ text)
spelled-snoc [] text known = ap (λ b. blank_if (b && begins_in_word text) ++ text) (sym no_last_letter)
spelled-snoc (t ∷ []) text known = refl
spelled-snoc (t ∷ u ∷ texts) text known =
    let blank = blank_if (is_parted t u) in
    let later = spelled (u ∷ texts) in
    let added : Bool → List ℕ = λ word. blank_if (word && begins_in_word text) ++ text in
    let same : ends_in_word (t ++ (blank ++ later)) ≡ ends_in_word later =
    ap ends_in_word (sym (append_assoc t blank later))
    ∙ ends_as (t ++ blank) later (IsUtf8-append t blank known.0 (blank_utf8 (is_parted t u)))
    (spelled_utf8 (u ∷ texts) known.2) (spelled_some u texts known.2.1.not_empty) in
    ap (λ l. t ++ (blank ++ l)) (spelled-snoc (u ∷ texts) text known.2)
    ∙ ap (λ l. t ++ l) (sym (append_assoc blank later (added (ends_in_word later))))
    ∙ sym (append_assoc t (blank ++ later) (added (ends_in_word later)))
    ∙ ap (λ b. (t ++ (blank ++ later)) ++ added b) (sym same)

-- more texts of a spelling
spelled-more : (before texts : List (List ℕ)) → AreTexts before → AreTexts texts
    → (more : List ℕ) × IsUtf8 more × (spelled (before ++ texts) ≡ spelled before ++ more)
spelled-more before [] known are = ([], IsUtf8-nil, ap spelled (append-nil before) ∙ sym (append-nil (spelled before)))
spelled-more before (text ∷ texts) known are =
    let later = spelled-more (before ++ text ∷ []) texts (AreTexts-snoc before text known are.0 are.1) are.2 in
    let parted = is_parted (spelled before) text in
    let added = blank_if parted ++ text in (
      added ++ later.0,
      IsUtf8-append added later.0 (IsUtf8-append (blank_if parted) text (blank_utf8 parted) are.0) later.1,
      ap spelled (sym (append_assoc before (text ∷ []) texts)) ∙ later.2
          ∙ ap (λ l. l ++ later.0) (spelled-snoc before text known)
          ∙ append_assoc (spelled before) added later.0,
    )

-- ---- a text among others

after_blank : (parted : Bool) (before text more : List ℕ) → IsTokenText text
    → text_from (before ++ ((blank_if parted ++ text) ++ more)) (length before) ≡ length (before ++ blank_if parted)
after_blank true before text more is =
    let whole = before ++ 0x20 ∷ (text ++ more) in
    let place = length before in
    cond-true (get_or whole place 0 == 0x20) (suc place) place (ap (λ b. b == 0x20) (get_or-append_seam before 0x20 (text ++ more) 0))
    ∙ sym (let e : length (before ++ 0x20 ∷ []) ≡ suc place = omega (arith, length-append before (0x20 ∷ [])) in e)
after_blank false before [] more is = absurd (omega (arith, is.not_empty))
after_blank false before (c ∷ text) more is =
    let whole = before ++ c ∷ (text ++ more) in
    let place = length before in
    cond-false (get_or whole place 0 == 0x20) (suc place) place
    (ap (λ b. b == 0x20) (get_or-append_seam before c (text ++ more) 0) ∙ no_blank_first c text is)
    ∙ sym (ap length (append-nil before))

-- a text is between a prefix of the spelling and more
pub record IsBetween (before : List (List ℕ)) (text : List ℕ) (after : List (List ℕ)) : Type 0 where
  pub front : List ℕ
  pub more : List ℕ
  pub utf8 : IsUtf8 more
  pub parts : spelled (before ++ text ∷ after) ≡ front ++ (text ++ more)
  pub ends : length (spelled (before ++ text ∷ [])) ≡ length front + length text
  pub from : text_from (spelled (before ++ text ∷ after)) (length (spelled before)) ≡ length front
  pub order : length (spelled before) ≤ length front

pub occurs : (before : List (List ℕ)) (text : List ℕ) (after : List (List ℕ)) → AreTexts before → IsUtf8 text → IsTokenText text → AreTexts after
    → IsBetween before text after
occurs before text after known utf8 is are =
    let later = spelled-more (before ++ text ∷ []) after (AreTexts-snoc before text known utf8 is) are in
    let parted = is_parted (spelled before) text in
    let blank = blank_if parted in
    let front = spelled before ++ blank in
    let whole : spelled (before ++ text ∷ after) ≡ spelled before ++ ((blank ++ text) ++ later.0) =
    ap spelled (sym (append_assoc before (text ∷ []) after)) ∙ later.2
    ∙ ap (λ l. l ++ later.0) (spelled-snoc before text known)
    ∙ append_assoc (spelled before) (blank ++ text) later.0 in
    record {
      front = front;
      more = later.0;
      utf8 = later.1;
      parts = whole ∙ ap (λ l. spelled before ++ l) (append_assoc blank text later.0) ∙ sym (append_assoc (spelled before) blank (text ++ later.0));
      ends = ap length (spelled-snoc before text known ∙ sym (append_assoc (spelled before) blank text)) ∙ length-append front text;
      from = ap (λ l. text_from l (length (spelled before))) whole ∙ after_blank parted (spelled before) text later.0 is;
      order = omega (arith, length-append (spelled before) blank);
    }

-- a text is a slice of what it is in
pub slice_parts : (whole front text more : List ℕ) (start end : ℕ) → whole ≡ front ++ (text ++ more) → start ≡ length front
    → end ≡ length front + length text → slice_range whole start end ≡ text
slice_parts whole front text more start end parts starts ends =
    let size : end - start ≡ length text = omega (arith, starts, ends) in
    ap₂ (λ n l. take (end - n) (drop n l)) starts parts
    ∙ ap₂ (λ n l. take n l) (ap (λ n. end - n) (sym starts) ∙ size) (drop-append_seam front (text ++ more))
    ∙ take-append-le (length text) text more (omega arith) ∙ take_all (length text) text (omega arith)

-- ---- the text of a number

split_at : (texts : List (List ℕ)) (i : ℕ) → i < length texts → texts ≡ take i texts ++ get_or texts i [] ∷ drop (suc i) texts
split_at [] i inside = absurd (omega arith)
split_at (t ∷ texts) zero inside = refl
split_at (t ∷ texts) (suc i) inside = ap (λ l. t ∷ l) (split_at texts i (omega arith))

take_one_more : (texts : List (List ℕ)) (i : ℕ) → i < length texts → take (suc i) texts ≡ take i texts ++ get_or texts i [] ∷ []
take_one_more [] i inside = absurd (omega arith)
take_one_more (t ∷ texts) zero inside = refl
take_one_more (t ∷ texts) (suc i) inside = ap (λ l. t ∷ l) (take_one_more texts i (omega arith))

pub length-texts_of : (tokens : List TokenValue) → length (texts_of tokens) ≡ length tokens
length-texts_of [] = refl
length-texts_of (t ∷ tokens) = ap suc (length-texts_of tokens)

-- the text of a token is between a prefix of the spelling and more
pub record IsTextAt (tokens : List TokenValue) (i : ℕ) (whole text : List ℕ) : Type 0 where
  pub front : List ℕ
  pub more : List ℕ
  pub utf8 : IsUtf8 more
  pub parts : whole ≡ front ++ (text ++ more)
  pub starts : place_start tokens i ≡ length front
  pub ends : place_end tokens i ≡ length front + length text
  pub from : text_from whole (length (spelled (take i (texts_of tokens)))) ≡ length front
  pub order : length (spelled (take i (texts_of tokens))) ≤ length front

pub occurs_at : (tokens : List TokenValue) (i : ℕ) (whole : List ℕ) → i < length tokens → AreTexts (texts_of tokens)
    → whole ≡ spelled (texts_of tokens) → IsTextAt tokens i whole (get_or (texts_of tokens) i [])
unfolding place_end place_start
occurs_at tokens i whole inside known is =
    let texts = texts_of tokens in
    let within : i < length texts = omega (arith, length-texts_of tokens) in
    let text = get_or texts i [] in
    let one = AreTexts-at texts i within known in
    let s = occurs (take i texts) text (drop (suc i) texts) (AreTexts-take i texts known) one.0 one.1 (AreTexts-drop (suc i) texts known) in
    let split : whole ≡ spelled (take i texts ++ text ∷ drop (suc i) texts) = is ∙ ap spelled (split_at texts i within) in
    let end : place_end tokens i ≡ length s.front + length text = ap (λ l. length (spelled l)) (take_one_more texts i within) ∙ s.ends in
    record {
      front = s.front;
      more = s.more;
      utf8 = s.utf8;
      parts = split ∙ s.parts;
      starts = let e : place_end tokens i - length text ≡ length s.front = omega (arith, end) in e;
      ends = end;
      from = ap (λ l. text_from l (length (spelled (take i texts)))) split ∙ s.from;
      order = s.order;
    }

-- tokens keep their texts as callers see them
pub texts_of-reported : (ts : List SpannedText) → texts_of (map reported ts) ≡ map (λ t. t.text) ts
texts_of-reported [] = refl
texts_of-reported (t ∷ ts) = ap (λ l. t.text ∷ l) (texts_of-reported ts)
