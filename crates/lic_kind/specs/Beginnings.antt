-- Which two characters the texts of a side begin with.
use Rattle.std.specs.Prelude.{◌≡◌, ◌≢◌, ℕ, ◌<◌, ◌+◌, Bool, true, ◌||◌, ◌&&◌, ◌==◌, List, [], ◌∷◌, length, min, reverse, slice_index, slice_index_or, bit_and, bit_or}
use Rattle.std.specs.Char.{is_whitespace}
use Rattle.std.specs.Int.{bit_at}
use Rattle.lic_kind.specs.declared.rules.beginnings.Beginnings.{Beginnings}

-- whether bit n of a mask is set
abbrev pub has_bit : ℕ → ℕ → Bool
has_bit mask n = bit_at mask n == 1

-- whether this is the first of these characters, or there is none
abbrev pub may_be_next : ℕ → List ℕ → Bool
may_be_next d [] = true
may_be_next d (b ∷ text) = d == b

-- whether a text begins with these two characters; with the first, if it has one alone; any may do for one that begins in white space
abbrev pub may_begin : ℕ → ℕ → List ℕ → Bool
may_begin c d [] = true
may_begin c d (a ∷ text) = is_whitespace a || ((c == a) && may_be_next d text)

-- the mask has bit i if text i begins so, or begins so from its end
abbrev pub HasFronts : ℕ → ℕ → ℕ → List (List ℕ) → Type 0
HasFronts mask c d texts = (i : ℕ) → i < length texts → may_begin c d (slice_index_or texts i []) ≡ true → has_bit mask i ≡ true

abbrev pub HasEnds : ℕ → ℕ → ℕ → List (List ℕ) → Type 0
HasEnds mask c d texts = (i : ℕ) → i < length texts → may_begin c d (reverse (slice_index_or texts i [])) ≡ true → has_bit mask i ≡ true

-- the mask has some bit if one of the texts does
abbrev pub HasSomeFront : ℕ → ℕ → ℕ → List (List ℕ) → Type 0
HasSomeFront mask c d texts = (i : ℕ) → i < length texts → may_begin c d (slice_index_or texts i []) ≡ true → mask ≢ 0

abbrev pub HasSomeEnd : ℕ → ℕ → ℕ → List (List ℕ) → Type 0
HasSomeEnd mask c d texts = (i : ℕ) → i < length texts → may_begin c d (reverse (slice_index_or texts i [])) ≡ true → mask ≢ 0

-- the slot of a character in a table
abbrev pub slot_of : ℕ → ℕ
slot_of c = min c 255

-- the bit of text i of a kind whose texts have the bits from this one on
abbrev pub bit_of : ℕ → ℕ → ℕ
bit_of from i = min (from + i) 63

-- the bits of the texts that begin with these two characters
abbrev pub begun : Beginnings → ℕ → ℕ → ℕ
begun b c d = bit_and (slice_index b.firsts (slot_of c)) (bit_or (slice_index b.seconds (slot_of d)) b.alone)

-- the tables have a text by this bit
abbrev pub IsKnown : Beginnings → ℕ → List ℕ → Type 0
IsKnown b k text = (c d : ℕ) → may_begin c d text ≡ true → has_bit (begun b c d) k ≡ true

-- they have these texts, or have them from their ends, by the bits from this one on
abbrev pub AreFrontsKnown : Beginnings → ℕ → List (List ℕ) → Type 0
AreFrontsKnown b from texts = (i : ℕ) → i < length texts → IsKnown b (bit_of from i) (slice_index_or texts i [])

abbrev pub AreEndsKnown : Beginnings → ℕ → List (List ℕ) → Type 0
AreEndsKnown b from texts = (i : ℕ) → i < length texts → IsKnown b (bit_of from i) (reverse (slice_index_or texts i []))

-- the second tables have what the first have
abbrev pub Grows : Beginnings → Beginnings → Type 0
Grows b new = (k : ℕ) (text : List ℕ) → k < 64 → IsKnown b k text → IsKnown new k text
