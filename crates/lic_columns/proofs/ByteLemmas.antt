-- The tables of classes, and small letters, against the kinds and letters of bytes.
use Rattle.std.proofs.Common.{◌≡◌, ℕ, ◌<◌, ◌+◌, ◌-◌, ◌%◌, ◌^◌, Bool, true, false, cond, ltb, ltb-true, bit_or, ◌&&◌, ◌||◌, ◌==◌, nat_le, nat_lt, if◌then◌else◌, List, map, get_or, Fits, w8, refl, sym, ap, ◌∙◌, eqb-true}
use Rattle.std.proofs.lemmas.Bool.{agree_below_at}
use Rattle.std.proofs.lemmas.Simd.{map-map}
use Rattle.std.specs.Char.{to_ascii_lowercase}
use lib.Lanes.{Each1}
use Rattle.lic_kind.specs.declared.Kind.{Kind}
use Rattle.lic_kind.specs.declared.Kind.TheVariants.{Blank, Dropped, Mark, Word}
use Rattle.lic_kind.specs.Kinds.{kind_of, is_word_kind, is_mark_kind, is_dash, is_quote, letter_of, spell}
use Rattle.lic_kind.proofs.LetterLemmas.{spell-Mark}
use Rattle.lic_kind.proofs.WordFoldings.{spell-ascii}
use Rattle.lic_letters.specs.Bytes.{is_word, is_mark, letter}
use Rattle.lic_columns.specs.Classes.{class_of}
use Rattle.lic_letters.proofs.Lanes.{every_below}
use Rattle.lic_columns.proofs.Lanes.{map_same}

word_class : (b : ℕ) → b < 256 → (class_of b == 0) ≡ is_word b
unfolding kind_of
word_class b small = agree_below_at (λ d. class_of d == 0) is_word 256 b refl small

mark_class : (b : ℕ) → b < 256 → nat_le 3 (class_of b) ≡ is_mark b
unfolding kind_of
mark_class b small = agree_below_at (λ d. nat_le 3 (class_of d)) is_mark 256 b refl small

pub word_classes : (v : List ℕ) → Each1 (Fits w8) v → map (λ d. d == 0) (map class_of v) ≡ map is_word v
word_classes v fits = map-map (λ d. d == 0) class_of v ∙ map_same (λ b. class_of b == 0) is_word word_class v fits

pub mark_classes : (v : List ℕ) → Each1 (Fits w8) v → map (λ d. nat_le 3 d) (map class_of v) ≡ map is_mark v
mark_classes v fits = map-map (λ d. nat_le 3 d) class_of v ∙ map_same (λ b. nat_le 3 (class_of b)) is_mark mark_class v fits

-- ---- letters

-- the quotes that have the letter of another
abbrev pub is_other_quote : ℕ → Bool
is_other_quote b = (b == 34) || (b == 96)

-- the letter as it is computed
abbrev pub made_letter : ℕ → ℕ
made_letter b = cond (is_other_quote b) 39 (to_ascii_lowercase b)

-- the letter by the kind
abbrev kind_letter : Kind → ℕ → ℕ
kind_letter Blank b = b
kind_letter Dropped b = b
kind_letter Mark b = letter_of b
kind_letter Word b = to_ascii_lowercase b

abbrev ascii_letter : ℕ → ℕ
ascii_letter b = if nat_lt b 128 then kind_letter (kind_of b) b else b

made_letter-ascii : (b : ℕ) → b < 256 → made_letter b ≡ ascii_letter b
unfolding kind_of is_dash is_quote
made_letter-ascii b small = eqb-true _ _ (every_below (λ d. made_letter d == ascii_letter d) 256 refl b small)

letter_is : (b : ℕ) → ascii_letter b ≡ letter b
letter_is b = go (kind_of b) (nat_lt b 128) refl refl
  where
    go : (k : Kind) (t : Bool) → kind_of b ≡ k → nat_lt b 128 ≡ t
        → (if t then kind_letter k b else b) ≡ (if t && (is_word_kind k || is_mark_kind k) then get_or (spell b) 0 0 else b)
    go k false e f = refl
    go Blank true e f = refl
    go Dropped true e f = refl
    go Mark true e f = sym (ap (λ l. get_or l 0 0) (spell-Mark b e))
    go Word true e f = sym (ap (λ l. get_or l 0 0) (spell-ascii b e (ltb-true b 128 f)))

pub letters_made : (v : List ℕ) → Each1 (Fits w8) v → map made_letter v ≡ map letter v
letters_made v fits = map_same made_letter letter (λ b small. made_letter-ascii b small ∙ letter_is b) v fits

-- a capital is one of 26 letters
abbrev pub is_capital : ℕ → Bool
is_capital b = ltb ((b + (2 ^ 8 - 65)) % 2 ^ 8) 26

abbrev pub made_small : ℕ → ℕ
made_small b = bit_or b (cond (is_capital b) 32 0)

made_small-is : (b : ℕ) → b < 256 → made_small b ≡ to_ascii_lowercase b
made_small-is b small = eqb-true _ _ (every_below (λ d. made_small d == to_ascii_lowercase d) 256 refl b small)

pub small_letters : (v : List ℕ) → Each1 (Fits w8) v → map made_small v ≡ map to_ascii_lowercase v
small_letters v fits = map_same made_small to_ascii_lowercase made_small-is v fits
