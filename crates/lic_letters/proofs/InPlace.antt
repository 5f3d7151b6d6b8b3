-- What is put in place of a character, byte for byte.
use Rattle.std.proofs.Common.{◌≡◌, ℕ, zero, suc, ◌<◌, ◌≤◌, Bool, true, false, not, ◌&&◌, ◌||◌, List, [], ◌∷◌, length, get_or, inl, inr, refl, sym, ap, ap₂, ◌∙◌, arith}
use Rattle.std.specs.Prelude.{encode_utf8_all, replicate, nat_lt}
use Rattle.std.specs.Char.{encode_utf8, len_utf8}
use Rattle.std.specs.List.{AllByRecursion}
use Rattle.std.proofs.lemmas.Bool.{cases_lt, lt-ltb, le-ltb, cond-true, cond-false}
use Rattle.std.proofs.lemmas.List.{append-nil, length-append}
use Rattle.std.proofs.lemmas.Str.{length-encode, len_utf8_ascii, inside_one}
use Rattle.lic_kind.specs.declared.Kind.TheVariants as kind
use Rattle.lic_kind.specs.Kinds.{kind_of, is_word_kind, is_mark_kind, spell}
use Rattle.lic_kind.proofs.KindLemmas.{kind_of-dash, kind_of-quote}
use Rattle.lic_kind.proofs.LetterLemmas.{spell-Mark, spell-dash, spell-quote}
use Rattle.lic_letters.specs.Bytes as bytes
use Rattle.lic_letters.specs.Bytes.{letter}
use Rattle.lic_letters.specs.Simple.{IsOwnLetter, IsSimple, AreSimple, in_place, in_place_of, all_in_place}

-- ---- bytes and their letters

pub or-true : (t : Bool) → (t || true) ≡ true
or-true true = refl
or-true false = refl

pub letter_is : (b l : ℕ) → b < 128 → spell b ≡ l ∷ [] → (is_word_kind (kind_of b) || is_mark_kind (kind_of b)) ≡ true → letter b ≡ l
letter_is b l small e has =
    cond-true (bytes.has_letter b) _ _ (ap₂ (λ t u. t && u) (lt-ltb b 128 small) has) ∙ ap (λ s. get_or s 0 0) e

abbrev AreHigh : List ℕ → Type 0
AreHigh [] = Unit {0}
AreHigh (b ∷ bs) = (128 ≤ b) × AreHigh bs

high_from : (l : List ℕ) → ((k : ℕ) → k < length l → 128 ≤ get_or l k 0) → AreHigh l
high_from [] h = tt
high_from (b ∷ bs) h = (h zero (omega arith), high_from bs (λ k lt. h (suc k) (omega (arith, lt))))

encoded_high : (c : ℕ) → 128 ≤ c → AreHigh (encode_utf8 c)
encoded_high c big = high_from (encode_utf8 c) (λ k lt. elim (cases_lt (get_or (encode_utf8 c) k 0) 128) [
  | inl low ↦ let e : c ≡ get_or (encode_utf8 c) k 0 = inside_one c [] (encode_utf8 c) k (sym (append-nil (encode_utf8 c))) lt low in absurd (omega (arith, e))
  | inr high ↦ high
])

high_letter : (b : ℕ) → 128 ≤ b → letter b ≡ b
high_letter b big =
    cond-false (bytes.has_letter b) _ _ (ap (λ t. t && (is_word_kind (kind_of b) || is_mark_kind (kind_of b))) (le-ltb b 128 big))

high_word : (b : ℕ) → 128 ≤ b → bytes.is_word b ≡ true
high_word b big = ap (λ t. not t || is_word_kind (kind_of b)) (le-ltb b 128 big)

all_own : (l : List ℕ) → AreHigh l → AllByRecursion IsOwnLetter l
all_own [] h = tt
all_own (b ∷ bs) h = ((high_word b h.0, high_letter b h.0), all_own bs h.1)

pub encoded_own : (c : ℕ) → 128 ≤ c → AllByRecursion IsOwnLetter (encode_utf8 c)
encoded_own c big = all_own (encode_utf8 c) (encoded_high c big)

-- ---- what is put in place of a character beyond ASCII

pub letter_in_place : (c : ℕ) → 128 ≤ c → kind_of c ≡ kind.Word → in_place c ≡ encode_utf8_all (spell c)
letter_in_place c big word = cond-false (nat_lt c 128) _ _ (le-ltb c 128 big) ∙ ap (λ k. in_place_of k c) word

pub blank_in_place : (c : ℕ) → 128 ≤ c → kind_of c ≡ kind.Blank → in_place c ≡ replicate (len_utf8 c) 0x20
blank_in_place c big is = cond-false (nat_lt c 128) _ _ (le-ltb c 128 big) ∙ ap (λ k. in_place_of k c) is

pub mark_in_place : (c l : ℕ) → 128 ≤ c → kind_of c ≡ kind.Mark → spell c ≡ l ∷ [] → in_place c ≡ replicate (len_utf8 c) l
mark_in_place c l big is spelled =
    cond-false (nat_lt c 128) _ _ (le-ltb c 128 big) ∙ ap (λ k. in_place_of k c) is
    ∙ ap (λ d. replicate (len_utf8 c) d) (ap (λ s. get_or s 0 0) (sym (spell-Mark c is) ∙ spelled))

-- ---- it has as many bytes

pub size-replicate : (n v : ℕ) → length (replicate n v) ≡ n
size-replicate zero v = refl
size-replicate (suc n) v = ap suc (size-replicate n v)

offset_size : (c : ℕ) → IsSimple c → length (in_place c) ≡ len_utf8 c
offset_size c simple = elim (cases_lt c 128) [
  | inl small ↦
      let own : in_place c ≡ c ∷ [] = cond-true (nat_lt c 128) _ _ (lt-ltb c 128 small) in
      ap length own ∙ sym (len_utf8_ascii c small)
  | inr big ↦ elim simple [
    | inl small ↦ absurd (omega (arith, small, big))
    | inr other ↦ elim other [
      | inl is ↦ ap length (letter_in_place c big is.word) ∙ is.width
      | inr more ↦ elim more [
        | inl is ↦ ap length (blank_in_place c big is) ∙ size-replicate (len_utf8 c) 0x20
        | inr is ↦ elim is.joins [
          | inl quote ↦ ap length (mark_in_place c 0x27 big (kind_of-quote c quote) (spell-quote c quote)) ∙ size-replicate (len_utf8 c) 0x27
          | inr dash ↦ ap length (mark_in_place c 0x2D big (kind_of-dash c dash) (spell-dash c dash)) ∙ size-replicate (len_utf8 c) 0x2D
        ]
      ]
    ]
  ]
]

pub offsets_size : (cs : List ℕ) → AreSimple cs → length (encode_utf8_all cs) ≡ length (all_in_place cs)
offsets_size [] are = refl
offsets_size (c ∷ cs) are =
    omega (
      arith,
      length-append (encode_utf8 c) (encode_utf8_all cs),
      length-append (in_place c) (all_in_place cs),
      length-encode c,
      offset_size c are.0,
      offsets_size cs are.2,
    )
