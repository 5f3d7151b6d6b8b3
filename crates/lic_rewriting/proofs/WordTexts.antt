-- Texts of which what is beyond ASCII is of words: their parts, and their first and last bytes.
use Rattle.std.proofs.Common.{◌≡◌, ℕ, suc, ◌+◌, ◌-◌, ◌<◌, ◌≤◌, true, not, ◌||◌, List, [], ◌∷◌, ◌++◌, length, take, drop, reverse, get_or, inl, inr, sym, ap, subst, ◌∙◌, arith, append-nil, take-append-drop, length-append}
use Rattle.std.specs.Prelude.{nat_lt, IsAscii, IsUtf8, encode_utf8_all}
use Rattle.std.specs.Char.{encode_utf8}
use Rattle.std.specs.List.{AllByRecursion}
use Rattle.std.specs.Str.{IsCharBoundary, chars}
use Rattle.std.proofs.Math.Seq.{get_or-append_seam}
use Rattle.std.proofs.lemmas.Bool.{cases_Bool, cases_lt, lt-ltb, ltb-true}
use Rattle.std.proofs.lemmas.List.{reverse-append}
use Rattle.std.proofs.lemmas.Str.{byte_from_char, chars-append, chars-IsAscii, encode_ascii, encodes-append, encodes-chars, IsUtf8-between, IsUtf8-take}
use Rattle.lic_columns.specs.Bytes.{is_word}
use Rattle.lic_columns.specs.PlainLines.{HasWords, IsOfWord}
use Rattle.lic_kind.specs.Kinds.{is_word_kind, kind_of}
use Rattle.lic_phrases.specs.Spelling.{first_is_word, begins_in_word, ends_in_word}
use Rattle.lic_tokens.proofs.PartedLemmas.{begins-ascii, ends-ascii, split_last}

-- ---- parts

front_of : (xs ys : List ℕ) → AllByRecursion IsOfWord (xs ++ ys) → AllByRecursion IsOfWord xs
front_of [] ys words = tt
front_of (x ∷ xs) ys words = (words.0, front_of xs ys words.1)

rest_of : (xs ys : List ℕ) → AllByRecursion IsOfWord (xs ++ ys) → AllByRecursion IsOfWord ys
rest_of [] ys words = words
rest_of (x ∷ xs) ys words = rest_of xs ys words.1

-- the characters of a text that is cut between two of them
cut : (text : List ℕ) (n : ℕ) → IsUtf8 (take n text) → chars text ≡ chars (take n text) ++ chars (drop n text)
cut text n front = ap chars (sym (take-append-drop n text)) ∙ chars-append (take n text) (drop n text) front

pub take_words : (text : List ℕ) (n : ℕ) → IsUtf8 (take n text) → HasWords text → HasWords (take n text)
take_words text n front words = front_of (chars (take n text)) (chars (drop n text)) (subst (AllByRecursion IsOfWord) (cut text n front) words)

drop_words : (text : List ℕ) (n : ℕ) → IsUtf8 (take n text) → HasWords text → HasWords (drop n text)
drop_words text n front words = rest_of (chars (take n text)) (chars (drop n text)) (subst (AllByRecursion IsOfWord) (cut text n front) words)

pub words_between : (text : List ℕ) (i j : ℕ) → IsUtf8 text → HasWords text → i ≤ j → IsCharBoundary text i → IsCharBoundary text j
    → HasWords (take (j - i) (drop i text))
words_between text i j utf8 words order from to =
    take_words (drop i text) (j - i) (IsUtf8-between text i j utf8 order from to) (drop_words text i (IsUtf8-take text i utf8 from) words)

all_ascii : (text : List ℕ) → IsAscii text → AllByRecursion IsOfWord text
all_ascii [] ascii = tt
all_ascii (b ∷ text) ascii = (λ big. absurd (omega (arith, big, ascii 0)), all_ascii text (λ i. ascii (suc i)))

-- a text of ASCII has nothing beyond it
pub words-ascii : (text : List ℕ) → IsAscii text → HasWords text
words-ascii text ascii = subst (AllByRecursion IsOfWord) (sym (chars-IsAscii text ascii)) (all_ascii text ascii)

-- ---- bytes

ascii_byte : (b : ℕ) → b < 128 → is_word b ≡ is_word_kind (kind_of b)
ascii_byte b small = ap (λ t. not t || is_word_kind (kind_of b)) (lt-ltb b 128 small)

high_byte : (b : ℕ) → 128 ≤ b → is_word b ≡ true
high_byte b high = elim (cases_Bool (nat_lt b 128)) [
  | inl below ↦ absurd (let low : b < 128 = ltb-true b 128 below in omega (arith, low, high))
  | inr none ↦ ap (λ t. not t || is_word_kind (kind_of b)) none
]

first_of_words : (cs text : List ℕ) → encode_utf8_all cs ≡ text → 0 < length text → 128 ≤ get_or text 0 0 → AllByRecursion IsOfWord cs
    → first_is_word cs ≡ true
first_of_words [] text is some high words = absurd (omega (arith, some, ap length is))
first_of_words (c ∷ cs) text is some high words = elim (cases_lt c 128) [
  | inl low ↦ absurd (
      let same : get_or text 0 0 ≡ c = byte_from_char text (encode_utf8_all cs) c (sym is) low in
      omega (arith, same, low, high))
  | inr big ↦ ap is_word_kind (words.0 big)
]

-- the first byte says whether the text begins in a word
pub begins-words : (text : List ℕ) → IsUtf8 text → HasWords text → 0 < length text → is_word (get_or text 0 0) ≡ begins_in_word text
begins-words text utf8 words some = elim (cases_lt (get_or text 0 0) 128) [
  | inl low ↦ ascii_byte (get_or text 0 0) low ∙ begins-ascii text utf8 some low
  | inr high ↦ high_byte (get_or text 0 0) high ∙ sym (first_of_words (chars text) text (encodes-chars text utf8) some high words)
]

last_of_words : (front text : List ℕ) (c n : ℕ) → encode_utf8_all (front ++ c ∷ []) ≡ text → n + 1 ≡ length text → 128 ≤ get_or text n 0
    → AllByRecursion IsOfWord (front ++ c ∷ []) → first_is_word (reverse (front ++ c ∷ [])) ≡ true
last_of_words front text c n is count high words = elim (cases_lt c 128) [
  | inl low ↦ absurd (
      let before = encode_utf8_all front in
      let parts : text ≡ before ++ c ∷ [] =
      sym is ∙ encodes-append front (c ∷ []) ∙ ap (λ l. before ++ l) (append-nil (encode_utf8 c) ∙ encode_ascii c low) in
      let long : length before ≡ n = omega (arith, count, ap length parts, length-append before (c ∷ [])) in
      let same : get_or text n 0 ≡ c =
      ap (λ l. get_or l n 0) parts ∙ ap (λ k. get_or (before ++ c ∷ []) k 0) (sym long) ∙ get_or-append_seam before c [] 0 in
      omega (arith, same, low, high))
  | inr big ↦ ap first_is_word (reverse-append front (c ∷ [])) ∙ ap is_word_kind ((rest_of front (c ∷ []) words).0 big)
]

ends_high : (cs text : List ℕ) (n : ℕ) → encode_utf8_all cs ≡ text → n + 1 ≡ length text → 128 ≤ get_or text n 0 → AllByRecursion IsOfWord cs
    → first_is_word (reverse cs) ≡ true
ends_high [] text n is count high words = absurd (omega (arith, count, ap length is))
ends_high (c ∷ cs) text n is count high words =
    let parts = split_last (c ∷ cs) (length cs) (omega arith) in
    let front = take (length cs) (c ∷ cs) in
    let last = get_or (c ∷ cs) (length cs) 0 in
    ap (λ l. first_is_word (reverse l)) parts
    ∙ last_of_words front text last n (ap encode_utf8_all (sym parts) ∙ is) count high (subst (AllByRecursion IsOfWord) parts words)

-- and the last byte whether it ends in one
pub ends-words : (text : List ℕ) (n : ℕ) → IsUtf8 text → HasWords text → n + 1 ≡ length text → is_word (get_or text n 0) ≡ ends_in_word text
ends-words text n utf8 words count = elim (cases_lt (get_or text n 0) 128) [
  | inl low ↦ ascii_byte (get_or text n 0) low ∙ ends-ascii text n utf8 count low
  | inr high ↦ high_byte (get_or text n 0) high ∙ sym (ends_high (chars text) text n (encodes-chars text utf8) count high words)
]
