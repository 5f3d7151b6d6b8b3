-- How the bounds of a repetition are read.
use Rattle.std.specs.Prelude.{ℕ, ◌||◌, ◌&&◌, ◌==◌, nat_lt, nat_le, List, [], ◌∷◌, length, drop, Option, Some, None, if◌then◌else◌}
use Rattle.std.specs.Option.{option_map, option_and_then}
use Rattle.std.specs.Char.{is_ascii_digit}
use Rattle.std.specs.Str.Parse.{digits_value}
use Rattle.lic_ere.specs.declared.lexeme.bounds.Bounds.{Bounds}
use Rattle.lic_ere.specs.Signs.{comma, close_brace}
use Rattle.lic_ere.specs.Located.{Located, further}

-- the decimal digits in front
abbrev pub digits : List Located → List ℕ
digits [] = []
digits (x ∷ rest) = if is_ascii_digit x.1 then x.1 ∷ digits rest else []

-- the greatest bound
abbrev pub max_bound : ℕ
max_bound = 65535

-- the number that the digits in front write, and how many they are
unfoldable pub number_at : List Located → Option (ℕ × ℕ)
number_at rest =
    if length (digits rest) == 0 || nat_lt max_bound (digits_value 10 (digits rest)) then None
    else Some (digits_value 10 (digits rest), length (digits rest))

-- after m and n
abbrev pub closed_bounds : ℕ → ℕ → List Located → Option (Bounds × ℕ)
closed_bounds m n [] = None
closed_bounds m n (x ∷ rest) =
    if x.1 == close_brace && nat_le m n then Some (record { min = m; max = Some n }, 1) else None

-- after m and a comma
unfoldable pub upper_bound : ℕ → List Located → Option (Bounds × ℕ)
upper_bound m [] = None
upper_bound m (x ∷ rest) =
    if x.1 == close_brace then Some (record { min = m; max = None }, 1)
    else option_and_then (λ n. option_map (further n.1) (closed_bounds m n.0 (drop n.1 (x ∷ rest))))
    (number_at (x ∷ rest))

-- after m
abbrev pub after_min : ℕ → List Located → Option (Bounds × ℕ)
after_min m [] = None
after_min m (x ∷ rest) =
    if x.1 == close_brace then Some (record { min = m; max = Some m }, 1)
    else (if x.1 == comma then option_map (further 1) (upper_bound m rest)
    else None)

-- the bounds after a `{`, and how many characters they take with their `}`
unfoldable pub bounds_at : List Located → Option (Bounds × ℕ)
bounds_at rest = option_and_then (λ m. option_map (further m.1) (after_min m.0 (drop m.1 rest))) (number_at rest)
