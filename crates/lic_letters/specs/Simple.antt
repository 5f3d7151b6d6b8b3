-- Texts of simple characters: those that are spelled byte for byte.
use Rattle.std.specs.Prelude.{◌≡◌, true, ◌⊎◌, ℕ, ◌<◌, ◌≤◌, if◌then◌else◌, nat_lt, List, [], ◌∷◌, ◌++◌, replicate, length, drop, take, chars, IsUtf8, encode_utf8_all}
use Rattle.std.specs.Char.{len_utf8}
use Rattle.std.proofs.Math.Utf8.{scalars}
use Rattle.std.specs.List.{AllByRecursion, flat_map}
use Rattle.lic_kind.specs.Kinds.{is_dash, is_quote, kind_of, letter_of, spell}
use Rattle.lic_kind.specs.LineRules.{LineRules}
use Rattle.lic_trim.specs.declared.source.SourceChar.{SourceChar}
use Rattle.lic_trim.specs.Lines.{cut_of, whole_line}
use Rattle.lic_trim.specs.Sources.{chars_of, lines_of}
use Rattle.lic_trim.specs.Spaces.{TakesSpaces}
use Rattle.lic_kind.specs.declared.Kind.{Kind}
use Rattle.lic_kind.specs.declared.Kind.TheVariants.{Blank, Dropped, Mark, Word}
use Rattle.lic_letters.specs.Bytes.{is_word, letter}

-- a byte of a word that is its own letter
abbrev pub IsOwnLetter : ℕ → Type 0
IsOwnLetter b = (is_word b ≡ true) × (letter b ≡ b)

-- a word character whose letters take as many bytes as it does, each of these its own letter
pub record IsSimpleLetter (c : ℕ) : Type 0 where
  pub word : kind_of c ≡ Word
  pub utf8 : IsUtf8 (encode_utf8_all (spell c))
  pub width : length (encode_utf8_all (spell c)) ≡ len_utf8 c
  pub own : AllByRecursion IsOwnLetter (encode_utf8_all (spell c))

-- a quote or a dash of at most three bytes
pub record IsSimpleMark (c : ℕ) : Type 0 where
  pub joins : (is_quote c ≡ true) ⊎ (is_dash c ≡ true)
  pub width : len_utf8 c ≤ 3

-- a character of ASCII, or beyond it a word character of such letters, white space, a quote or a dash
abbrev pub IsSimple : ℕ → Type 0
IsSimple c = (c < 128) ⊎ IsSimpleLetter c ⊎ (kind_of c ≡ Blank) ⊎ IsSimpleMark c

-- the first of these characters is another one than this, if this is a mark beyond ASCII
abbrev pub IsAlone : ℕ → List ℕ → Type 0
IsAlone c [] = Unit {0}
IsAlone c (d ∷ cs) = 128 ≤ c → kind_of c ≡ Mark → c ≡ d → ⊥

-- each of these characters is simple, and no mark beyond ASCII comes right after itself
abbrev pub AreSimple : List ℕ → Type 0
AreSimple [] = Unit {0}
AreSimple (c ∷ cs) = IsSimple c × IsAlone c cs × AreSimple cs

-- what is put in place of the bytes of a character of this kind: its letters, or as many blanks or letters of the mark
abbrev pub in_place_of : Kind → ℕ → List ℕ
in_place_of Blank c = replicate (len_utf8 c) 0x20
in_place_of Dropped c = []
in_place_of Mark c = replicate (len_utf8 c) (letter_of c)
in_place_of Word c = encode_utf8_all (spell c)

-- the same of any character; one of ASCII stays
abbrev pub in_place : ℕ → List ℕ
in_place c = if nat_lt c 128 then c ∷ [] else in_place_of (kind_of c) c

-- these characters byte for byte, each beyond ASCII by its letters
abbrev pub all_in_place : List ℕ → List ℕ
all_in_place = flat_map in_place

-- of each line of these characters nothing but white space is taken
abbrev pub TakeSpaces : LineRules → List SourceChar → Type 0
TakeSpaces rules source = AllByRecursion (λ line. TakesSpaces (cut_of rules whole_line (chars_of line)) (chars_of line)) (lines_of source)

-- these bytes do not begin with those
abbrev pub IsNoFront : List ℕ → List ℕ → Type 0
IsNoFront front bytes = (rest : List ℕ) → bytes ≡ front ++ rest → ⊥

-- Simple characters at the start of these bytes, which take n of them, were put after what was there: and with whatever simple
-- characters come next they are simple.
pub record ArePut (bytes : List ℕ) (n : ℕ) (old new : List ℕ) : Type 0 where
  pub front : List ℕ
  pub scalar : scalars front ≡ true
  pub within : n ≤ length bytes
  pub spells : bytes ≡ encode_utf8_all front ++ drop n bytes
  pub added : new ≡ old ++ all_in_place front
  pub simple : (others after : List ℕ) → AreSimple others → drop n bytes ≡ encode_utf8_all others ++ after → AreSimple (front ++ others)

-- the first n of these bytes are simple characters that stay as they are
pub record AreOwn (bytes : List ℕ) (n : ℕ) : Type 0 where
  pub within : n ≤ length bytes
  pub put : (old : List ℕ) → ArePut bytes n old (old ++ take n bytes)

-- in this copy of the start of bytes, simple characters at their start, which take n of them, are put in place of their bytes
pub record AreDone (bytes : List ℕ) (n : ℕ) (copy : List ℕ) : Type 0 where
  pub within : n ≤ length copy
  pub put : ArePut bytes n [] (take n copy)
  pub after : List ℕ
  pub copied : drop n bytes ≡ drop n copy ++ after

-- a text of simple characters is spelled byte for byte
pub record IsSpelled (text spelled : List ℕ) : Type 0 where
  pub utf8 : IsUtf8 text
  pub simple : AreSimple (chars text)
  pub is : spelled ≡ all_in_place (chars text)
