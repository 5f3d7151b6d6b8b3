-- Whether texts begin and end in words, by their letters of ASCII.
use Rattle.std.proofs.Common.{◌≡◌, ℕ, zero, suc, ◌+◌, ◌<◌, false, List, [], ◌∷◌, ◌++◌, length, take, reverse, get_or, refl, sym, ap, ◌∙◌, arith}
use Rattle.std.specs.Prelude.{IsAscii}
use Rattle.std.specs.Str.{chars, IsUtf8}
use Rattle.std.proofs.lemmas.List.{reverse-append}
use Rattle.std.proofs.lemmas.Str.{chars-append, chars-IsAscii, chars_past_char, encode_ascii, IsCharBoundary-before_ascii, IsUtf8-take}
use Rattle.lic_kind.specs.Kinds.{is_word_kind, kind_of}
use Rattle.lic_phrases.specs.Spelling.{first_is_word, begins_in_word, ends_in_word}
use Rattle.lic_tokens.proofs.SpellingPlaces.{no_first_letter, no_last_letter}

-- a text without letters neither begins nor ends in a word
pub none_begins : (text : List ℕ) → length text < 1 → false ≡ begins_in_word text
none_begins [] few = sym no_first_letter
none_begins (b ∷ text) few = absurd (omega arith)

pub none_ends : (text : List ℕ) → length text < 1 → false ≡ ends_in_word text
none_ends [] few = sym no_last_letter
none_ends (b ∷ text) few = absurd (omega arith)

one_ascii : (b : ℕ) → b < 128 → IsAscii (b ∷ [])
one_ascii b small zero = small
one_ascii b small (suc i) = omega arith

pub split_last : (bytes : List ℕ) (n : ℕ) → n + 1 ≡ length bytes → bytes ≡ take n bytes ++ get_or bytes n 0 ∷ []
split_last [] n count = absurd (omega arith)
split_last (b ∷ []) zero count = refl
split_last (b ∷ c ∷ bytes) zero count = absurd (omega arith)
split_last (b ∷ bytes) (suc n) count = ap (λ l. b ∷ l) (split_last bytes n (omega arith))

pub ends-ascii : (bytes : List ℕ) (n : ℕ) → IsUtf8 bytes → n + 1 ≡ length bytes → get_or bytes n 0 < 128
    → is_word_kind (kind_of (get_or bytes n 0)) ≡ ends_in_word bytes
ends-ascii bytes n utf8 count small =
    let last = get_or bytes n 0 in
    let front = take n bytes in
    let front_utf8 : IsUtf8 front = IsUtf8-take bytes n utf8 (IsCharBoundary-before_ascii bytes n (omega arith) small) in
    let letters : chars bytes ≡ chars front ++ last ∷ [] =
    ap chars (split_last bytes n count) ∙ chars-append front (last ∷ []) front_utf8
    ∙ ap (λ l. chars front ++ l) (chars-IsAscii (last ∷ []) (one_ascii last small)) in
    sym (ap (λ cs. first_is_word (reverse cs)) letters ∙ ap first_is_word (reverse-append (chars front) (last ∷ [])))

pub begins-ascii : (bytes : List ℕ) → IsUtf8 bytes → 0 < length bytes → get_or bytes 0 0 < 128
    → is_word_kind (kind_of (get_or bytes 0 0)) ≡ begins_in_word bytes
begins-ascii [] utf8 some small = absurd (omega arith)
begins-ascii (b ∷ bytes) utf8 some small =
    sym (ap first_is_word (chars_past_char (b ∷ bytes) bytes b utf8 (ap (λ l. l ++ bytes) (sym (encode_ascii b small)))))
