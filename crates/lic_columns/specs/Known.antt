-- What is known of the bytes of a text, offset by offset.
use Rattle.std.specs.Prelude.{◌≡◌, ℕ, Bool, false, ◌&&◌, ◌||◌, List, map, length, ◌++◌}
use Rattle.lic_letters.specs.Bytes.{letter, is_word, is_mark, is_feed}
use Rattle.lic_columns.specs.Flags.{cleared}
use Rattle.lic_columns.specs.Masks.{flag_at}

-- the letter of each byte, and of each kind a flag at each byte
pub record Known : Type 0 where
  pub letters : List ℕ
  pub word : List Bool
  pub mark : List Bool
  pub feed : List Bool

-- something is known of n bytes
pub record HasLength (n : ℕ) (known : Known) : Type 0 where
  pub letters : length known.letters ≡ n
  pub word : length known.word ≡ n
  pub mark : length known.mark ≡ n
  pub feed : length known.feed ≡ n

-- something is known of n bytes, and none is a word character and a mark
pub record IsText (n : ℕ) (known : Known) : Type 0 where
  pub whole : HasLength n known
  pub apart : (k : ℕ) → (flag_at known.word k && flag_at known.mark k) ≡ false

-- what the bytes say by themselves
abbrev pub known_of : List ℕ → Known
known_of bytes = record {
  letters = map letter bytes;
  word = map is_word bytes;
  mark = map is_mark bytes;
  feed = map is_feed bytes;
}

-- the one text, and then the other
abbrev pub followed_by : Known → Known → Known
followed_by one two = record {
  letters = one.letters ++ two.letters;
  word = one.word ++ two.word;
  mark = one.mark ++ two.mark;
  feed = one.feed ++ two.feed;
}

-- the bytes of a range count as blanks
abbrev pub blanked : ℕ → ℕ → Known → Known
blanked from to known = record known { word = cleared from to known.word; mark = cleared from to known.mark }

-- the byte at an offset is no blank
abbrev pub is_dark : Known → ℕ → Bool
is_dark known k = flag_at known.word k || flag_at known.mark k
