-- How a bracket is read.
use Rattle.std.specs.Prelude.{ℕ, zero, suc, ◌+◌, Bool, true, false, ◌&&◌, ◌||◌, not, ◌==◌, nat_lt, List, [], ◌∷◌, drop, Result, Ok, Err, if◌then◌else◌}
use Rattle.lic_ere.specs.declared.class.Member.{Member}
use Rattle.lic_ere.specs.declared.fault.EreFault.{EreFault}
use Rattle.lic_ere.specs.declared.fault.EreCause.TheVariants.{BracketNotClosed, BracketExtension, RangeOutOfOrder}
use Rattle.lic_ere.specs.Sets.{Brackets}
use Rattle.lic_ere.specs.Signs.{colon, dot, equals, dash, open_bracket, close_bracket, caret}
use Rattle.lic_ere.specs.Located.{Located, further}
use Rattle.lic_ere.specs.Faults.{fault_at, map_ok, ◌>>=◌}

-- `[` directly before `:`, `.` or `=`
abbrev pub begins_extension : ℕ → List Located → Bool
begins_extension c [] = false
begins_extension c (next ∷ rest) = c == open_bracket && (next.1 == colon || next.1 == dot || next.1 == equals)

-- a member of one character
abbrev pub single_at : Located → List Located → Result Member EreFault
single_at x rest =
    if begins_extension x.1 rest then Err (fault_at x.0 BracketExtension)
    else Ok (record { first = x.1; last = x.1 })

-- a range from one character to another, and what comes after it
abbrev pub range_at : Located → Located → List Located → Result Member EreFault
range_at x y rest =
    if nat_lt y.1 x.1 then Err (fault_at x.0 RangeOutOfOrder)
    else (if begins_extension y.1 rest then Err (fault_at y.0 BracketExtension)
    else Ok (record { first = x.1; last = y.1 }))

-- The member that begins with a character, and how many further characters it takes:
-- a range where `-` follows and then a character that is no `]`.
unfoldable pub member_at : Located → List Located → Result (Member × ℕ) EreFault
member_at x [] = map_ok (λ m. (m, 0)) (single_at x [])
member_at x (hyphen ∷ []) = map_ok (λ m. (m, 0)) (single_at x (hyphen ∷ []))
member_at x (hyphen ∷ y ∷ rest) =
    if hyphen.1 == dash && not (y.1 == close_bracket) then map_ok (λ m. (m, 2)) (range_at x y rest)
    else map_ok (λ m. (m, 0)) (single_at x (hyphen ∷ y ∷ rest))

-- a `]` closes the bracket, unless it comes first
abbrev pub closes : Bool → ℕ → Bool
closes first c = not first && c == close_bracket

-- The members up to the `]` that closes the bracket which opens at an offset, and how many characters they take with it.
-- The last member takes some characters more, which are skipped.
unfoldable pub members_at : ℕ → Bool → ℕ → List Located → Result (List Member × ℕ) EreFault
members_at offset first skip [] = Err (fault_at offset BracketNotClosed)
members_at offset first (suc skip) (x ∷ rest) = map_ok (further 1) (members_at offset first skip rest)
members_at offset first zero (x ∷ rest) =
    let others : ℕ → Result (List Member × ℕ) EreFault = λ taken. members_at offset false taken rest in
    if closes first x.1 then Ok ([], 1) else
    (member_at x rest >>= λ m. map_ok (λ ms. (m.0 ∷ ms.0, 1 + ms.1)) (others m.1))

-- whether a `^` comes first, and how many characters it takes
abbrev pub complement_at : List Located → Bool × ℕ
complement_at [] = (false, 0)
complement_at (x ∷ rest) = if x.1 == caret then (true, 1) else (false, 0)

-- after the `[` at an offset: a `^` or none, and the members
unfoldable pub bracket_at : ℕ → List Located → Result (Brackets × ℕ) EreFault
bracket_at offset rest =
    let sign : Bool × ℕ = complement_at rest in
    map_ok (λ ms. (record { members = ms.0; complement = sign.0 }, sign.1 + ms.1))
    (members_at offset true 0 (drop sign.1 rest))
