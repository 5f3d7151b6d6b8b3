-- What lines begin with, as it is kept from line to line.
use Rattle.std.specs.Prelude.{ℕ, ◌+◌, ◌-◌, ◌/◌, ◌%◌, ◌^◌, ◌<◌, ◌≤◌, ◌≡◌, List, [], ◌∷◌, ◌++◌, decimal, get_or, length, map, take}
use Rattle.std.specs.List.{range_with_len}
use Rattle.lic_fields.specs.Fields.{field}

-- the digits of a number of three digits or more without the last three
abbrev pub first_digits : ℕ → List ℕ
first_digits n = take (length (decimal n) - 3) (decimal n)

-- the last three digits of a number, and the tab
abbrev pub last_digits : ℕ → List ℕ
last_digits n = (48 + n / 100 % 10) ∷ (48 + n / 10 % 10) ∷ (48 + n % 10) ∷ 0x09 ∷ []

-- those of the numbers below 1,000
abbrev pub last_digits_below_1000 : List (List ℕ)
last_digits_below_1000 = map last_digits (range_with_len 0 1000)

-- four bytes end the field of a number after its first digits: the last three, and the tab
abbrev pub EndsField : List ℕ → List ℕ → ℕ → Type 0
EndsField first four n = (length four ≡ 4) × (field (decimal n) 0x09 ≡ first ++ four)

-- numbers that have the same first digits, from the least on, and what ends the field of each
pub record IsThousand (least : ℕ) (digits : List (List ℕ)) : Type 0 where
  pub least_fits : least < 2 ^ 63
  pub few : length digits ≤ 1000
  pub ends : (k : ℕ) → k < length digits → EndsField (first_digits least) (get_or digits k []) (least + k)

-- the bytes that are the same in all, and after them two numbers as fields, which have the same first digits and what ends each; and
-- then enough bytes that a block can be copied
pub record IsKept (bytes : List ℕ) (same first_end len : ℕ) (first : List ℕ) : Type 0 where
  pub first_four : List ℕ
  pub second_four : List ℕ
  pub first_long : length first_four ≡ 4
  pub second_long : length second_four ≡ 4
  pub bytes_are : take len bytes ≡ take same bytes ++ ((first ++ first_four) ++ (first ++ second_four))
  pub end_is : first_end ≡ same + (length first + 4)
  pub end_fits : len ≤ same + 42
  pub enough : same + 170 ≤ length bytes
