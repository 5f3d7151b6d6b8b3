-- The bytes of characters beyond ASCII.
use Rattle.std.proofs.Common.{◌≡◌, ℕ, ◌+◌, ◌-◌, ◌*◌, ◌/◌, ◌%◌, ◌<◌, ◌≤◌, ◌||◌, true, List, All, [], ◌∷◌, ◌++◌, length, replicate, get_or, take, drop, inl, inr, refl, sym, ap, ap₂, subst, ◌∙◌, arith}
use Rattle.std.specs.Char.{encode_utf8, len_utf8, to_ascii_lowercase}
use Rattle.std.specs.List.{AllByRecursion}
use Rattle.std.specs.Prelude.{nat_lt, if◌then◌else◌, encode_utf8_all, IsUtf8}
use Rattle.std.proofs.lemmas.Bool.{false≢true, cases_lt, cond-false, le-ltb}
use Rattle.std.proofs.lemmas.Str.{encode_ascii, length-encode, len_utf8_ascii, IsUtf8-encode, IsUtf8-from_ascii}
use Rattle.std.proofs.lemmas.Str.Ascii.{IsAscii-cons, IsAscii-nil}
use Rattle.std.proofs.lemmas.List.{append-nil}
use Rattle.std.proofs.lemmas.List.Elements.{All-head, All-tail}
use Rattle.std.proofs.Math.Seq.{take-append_seam}
use Rattle.std.proofs.Math.Utf8.{scalar}
use Rattle.lic_kind.specs.declared.Kind.TheVariants as kind
use Rattle.lic_kind.specs.Kinds.{is_dash, is_quote, is_mark_kind, is_word_kind, kind_of, spell}
use Rattle.lic_kind.proofs.KindLemmas.{kind_of-dash, kind_of-quote}
use Rattle.lic_kind.proofs.LetterLemmas.{spell-dash, spell-quote, word_letters}
use Rattle.lic_kind.proofs.WordFoldings.{spell-ascii}
use Rattle.lic_letters.specs.Bytes as bytes
use Rattle.lic_letters.specs.Simple.{AreOwn, IsOwnLetter, IsSimple, in_place}
use Rattle.lic_letters.proofs.SpelledFronts.{char_put}
use Rattle.lic_letters.proofs.FirstBytes.{encoded_two, encoded_three}
use Rattle.lic_letters.proofs.InPlace.{blank_in_place, encoded_own, letter_in_place, letter_is, mark_in_place, or-true}

-- the character of two bytes
pub two_is : (a b c : ℕ) → 194 ≤ a → a ≤ 223 → 128 ≤ b → b ≤ 191 → c ≡ (a - 192) * 64 + (b - 128) → encode_utf8 c ≡ a ∷ b ∷ []
two_is a b c a_low a_high b_low b_high is =
    let first : 192 + c / 64 ≡ a = omega (arith, is) in
    let second : 128 + c % 64 ≡ b = omega (arith, is) in
    encoded_two c (omega (arith, is)) (omega (arith, is)) ∙ ap₂ (λ m n. m ∷ n ∷ []) first second

-- the character of three bytes
pub three_is : (a b d c : ℕ) → 224 ≤ a → a ≤ 239 → 128 ≤ b → b ≤ 191 → 128 ≤ d → d ≤ 191 → c ≡ ((a - 224) * 64 + (b - 128)) * 64 + (d - 128)
    → 2048 ≤ c → encode_utf8 c ≡ a ∷ b ∷ d ∷ []
three_is a b d c a_low a_high b_low b_high d_low d_high is big =
    let first : 224 + c / 4096 ≡ a = omega (arith, is) in
    let second : 128 + c / 64 % 64 ≡ b = omega (arith, is) in
    let third : 128 + c % 64 ≡ d = omega (arith, is) in
    encoded_three c big (omega (arith, is)) ∙ ap₂ (λ m l. m ∷ l) first (ap₂ (λ m n. m ∷ n ∷ []) second third)

-- ---- what is added in place of a character

pub blank_added : (c w : ℕ) (old new : List ℕ) → 128 ≤ c → w ≡ len_utf8 c → kind_of c ≡ kind.Blank → new ≡ old ++ replicate w 0x20 → new ≡ old ++ in_place c
blank_added c w old new big width is added =
    added ∙ ap (λ l. old ++ l) (ap (λ n. replicate n 0x20) width ∙ sym (blank_in_place c big is))

pub quote_added : (c w : ℕ) (old new : List ℕ) → 128 ≤ c → w ≡ len_utf8 c → is_quote c ≡ true → new ≡ old ++ replicate w 0x27 → new ≡ old ++ in_place c
quote_added c w old new big width is added =
    added ∙ ap (λ l. old ++ l) (ap (λ n. replicate n 0x27) width ∙ sym (mark_in_place c 0x27 big (kind_of-quote c is) (spell-quote c is)))

pub dash_added : (c w : ℕ) (old new : List ℕ) → 128 ≤ c → w ≡ len_utf8 c → is_dash c ≡ true → new ≡ old ++ replicate w 0x2D → new ≡ old ++ in_place c
dash_added c w old new big width is added =
    added ∙ ap (λ l. old ++ l) (ap (λ n. replicate n 0x2D) width ∙ sym (mark_in_place c 0x2D big (kind_of-dash c is) (spell-dash c is)))

pub blank_simple : (c : ℕ) → kind_of c ≡ kind.Blank → IsSimple c
blank_simple c is = inr (inr (inl is))

pub quote_simple : (c w : ℕ) → w ≡ len_utf8 c → w ≤ 3 → is_quote c ≡ true → IsSimple c
quote_simple c w width few is = inr (inr (inr (record { joins = inl is; width = omega (arith, width, few) })))

pub dash_simple : (c w : ℕ) → w ≡ len_utf8 c → w ≤ 3 → is_dash c ≡ true → IsSimple c
dash_simple c w width few is = inr (inr (inr (record { joins = inr is; width = omega (arith, width, few) })))

-- ---- the character at the start of bytes

width_two : (c : ℕ) → 128 ≤ c → c < 2048 → len_utf8 c ≡ 2
width_two c low high = sym (length-encode c) ∙ ap length (encoded_two c low high)

width_three : (c : ℕ) → 2048 ≤ c → c < 65536 → len_utf8 c ≡ 3
width_three c low high = sym (length-encode c) ∙ ap length (encoded_three c low high)

two_of : (bytes : List ℕ) → 2 ≤ length bytes → bytes ≡ get_or bytes 0 0 ∷ get_or bytes 1 0 ∷ drop 2 bytes
two_of [] h = absurd (omega arith)
two_of (a ∷ []) h = absurd (omega arith)
two_of (a ∷ b ∷ bytes) h = refl

three_of : (bytes : List ℕ) → 3 ≤ length bytes → bytes ≡ get_or bytes 0 0 ∷ get_or bytes 1 0 ∷ get_or bytes 2 0 ∷ drop 3 bytes
three_of [] h = absurd (omega arith)
three_of (a ∷ []) h = absurd (omega arith)
three_of (a ∷ b ∷ []) h = absurd (omega arith)
three_of (a ∷ b ∷ c ∷ bytes) h = refl

-- ---- a letter in place of a word character

width_four : (c : ℕ) → 65536 ≤ c → len_utf8 c ≡ 4
width_four c far =
    cond-false {A = ℕ} (nat_lt c 0x80) 1 (if nat_lt c 0x800 then 2 else (if nat_lt c 0x1_0000 then 3 else 4)) (le-ltb c 0x80 (omega (arith, far)))
    ∙ cond-false {A = ℕ} (nat_lt c 0x800) 2 (if nat_lt c 0x1_0000 then 3 else 4) (le-ltb c 0x800 (omega (arith, far)))
    ∙ cond-false {A = ℕ} (nat_lt c 0x1_0000) 3 4 (le-ltb c 0x1_0000 far)

wide_two : (c : ℕ) → 128 ≤ c → 2 ≤ len_utf8 c
wide_two c big = elim (cases_lt c 2048) [
  | inl below ↦ omega (arith, width_two c big below)
  | inr above ↦ elim (cases_lt c 65536) [
    | inl below ↦ omega (arith, width_three c above below)
    | inr far ↦ omega (arith, width_four c far)
  ]
]

wide_high : (c letter : ℕ) → 128 ≤ c → len_utf8 letter ≡ len_utf8 c → 128 ≤ letter
wide_high c letter big same = elim (cases_lt letter 128) [
  | inl small ↦ absurd (omega (arith, len_utf8_ascii letter small, same, wide_two c big))
  | inr high ↦ high
]

one_encoded : (c letter : ℕ) → spell c ≡ letter ∷ [] → encode_utf8_all (spell c) ≡ encode_utf8 letter
one_encoded c letter spelled = ap encode_utf8_all spelled ∙ append-nil (encode_utf8 letter)

pub letter_simple : (c w letter : ℕ) (text : List ℕ) → 128 ≤ c → w ≡ len_utf8 c → len_utf8 letter ≡ w → kind_of c ≡ kind.Word → spell c ≡ letter ∷ []
    → IsUtf8 text → text ≡ encode_utf8 letter → IsSimple c
letter_simple c w letter text big width same word spelled utf8 is =
    let all : encode_utf8_all (spell c) ≡ encode_utf8 letter = one_encoded c letter spelled in
    inr (inl (record {
      word = word;
      utf8 = subst IsUtf8 (is ∙ sym all) utf8;
      width = ap length all ∙ length-encode letter ∙ same ∙ width;
      own = subst (AllByRecursion IsOwnLetter) (sym all) (encoded_own letter (wide_high c letter big (same ∙ width)));
    }))

pub letter_added : (c letter : ℕ) (text old new : List ℕ) → 128 ≤ c → kind_of c ≡ kind.Word → spell c ≡ letter ∷ [] → text ≡ encode_utf8 letter
    → new ≡ old ++ text → new ≡ old ++ in_place c
letter_added c letter text old new big word spelled is added =
    added ∙ ap (λ l. old ++ l) (is ∙ sym (one_encoded c letter spelled) ∙ sym (letter_in_place c big word))

-- ---- two letters of ASCII in place of a word character

small_own : (d : ℕ) → d < 128 → to_ascii_lowercase d ≡ d → kind_of d ≡ kind.Word → IsOwnLetter d
small_own d small own word = (
  ap (λ k. bytes.is_high d || is_word_kind k) word ∙ or-true (bytes.is_high d),
  letter_is d (to_ascii_lowercase d) small (spell-ascii d word small) (ap (λ k. is_word_kind k || is_mark_kind k) word) ∙ own,
)

pair_encoded : (c one two : ℕ) → spell c ≡ one ∷ two ∷ [] → one < 128 → two < 128 → encode_utf8_all (spell c) ≡ one ∷ two ∷ []
pair_encoded c one two spelled one_small two_small =
    ap encode_utf8_all spelled ∙ ap₂ (λ k l. k ++ (l ++ [])) (encode_ascii one one_small) (encode_ascii two two_small)

pub pair_is : (l : List ℕ) (a b : ℕ) → 2 ≤ length l → length l < 3 → a ≡ get_or l 0 a → b ≡ get_or l 1 b → l ≡ a ∷ b ∷ []
pair_is [] a b many few a_is b_is = absurd (omega (arith, many))
pair_is (x ∷ []) a b many few a_is b_is = absurd (omega (arith, many))
pair_is (x ∷ y ∷ []) a b many few a_is b_is = ap₂ (λ m n. m ∷ n ∷ []) (sym a_is) (sym b_is)
pair_is (x ∷ y ∷ z ∷ l) a b many few a_is b_is = absurd (omega (arith, few))

pub pair_simple : (c one two : ℕ) → len_utf8 c ≡ 2 → kind_of c ≡ kind.Word → spell c ≡ one ∷ two ∷ [] → one < 128 → two < 128
    → to_ascii_lowercase one ≡ one → to_ascii_lowercase two ≡ two → IsSimple c
pair_simple c one two width word spelled one_small two_small one_own two_own =
    let all : encode_utf8_all (spell c) ≡ one ∷ two ∷ [] = pair_encoded c one two spelled one_small two_small in
    let is_word : (ℕ → Type 0) = λ d. kind_of d ≡ kind.Word in
    let words : All is_word (one ∷ two ∷ []) = subst (All is_word) spelled (word_letters c word) in
    let ascii = IsAscii-cons one (two ∷ []) one_small (IsAscii-cons two [] two_small IsAscii-nil) in
    inr (inl (record {
      word = word;
      utf8 = subst IsUtf8 (sym all) (IsUtf8-from_ascii (one ∷ two ∷ []) ascii);
      width = ap length all ∙ sym width;
      own = subst (AllByRecursion IsOwnLetter) (sym all) (
        small_own one one_small one_own (All-head is_word one (two ∷ []) words),
        (small_own two two_small two_own (All-head is_word two [] (All-tail is_word one (two ∷ []) words)), tt),
      );
    }))

pub pair_added : (c one two : ℕ) (old new : List ℕ) → 128 ≤ c → kind_of c ≡ kind.Word → spell c ≡ one ∷ two ∷ [] → one < 128 → two < 128
    → new ≡ old ++ one ∷ two ∷ [] → new ≡ old ++ in_place c
pair_added c one two old new big word spelled one_small two_small added =
    added ∙ ap (λ l. old ++ l) (sym (pair_encoded c one two spelled one_small two_small) ∙ sym (letter_in_place c big word))

-- a word character that is its own letter stays as it is
pub letter_own : (c : ℕ) (bytes : List ℕ) → scalar c ≡ true → 128 ≤ c → kind_of c ≡ kind.Word → spell c ≡ c ∷ [] → len_utf8 c ≤ length bytes
    → bytes ≡ encode_utf8 c ++ drop (len_utf8 c) bytes → AreOwn bytes (len_utf8 c)
letter_own c bytes is_scalar big word spelled within parts =
    let front : take (len_utf8 c) bytes ≡ encode_utf8 c =
    ap₂ take (sym (length-encode c)) parts ∙ take-append_seam (encode_utf8 c) (drop (len_utf8 c) bytes) in
    let utf8 = IsUtf8-encode c is_scalar in
    record {
      within = within;
      put = λ old.
          char_put c (len_utf8 c) bytes old (old ++ take (len_utf8 c) bytes) is_scalar
          (letter_simple c (len_utf8 c) c (encode_utf8 c) big refl refl word spelled utf8 refl) within parts
          (λ mark. absurd (false≢true (sym (ap is_word_kind (sym word ∙ mark)))))
          (letter_added c c (encode_utf8 c) old (old ++ take (len_utf8 c) bytes) big word spelled refl (ap (λ l. old ++ l) front));
    }
