-- The digits before a list of characters.
use Rattle.std.proofs.Common.{◌≡◌, ℕ, ◌+◌, ◌*◌, ◌<◌, min, Bool, true, false, ◌||◌, not, eqb, List, [], ◌∷◌, length, drop, ne_eqb, refl, sym, ap, ◌∙◌, arith}
use Rattle.std.specs.Char.{digit_value, is_ascii_digit}
use Rattle.std.specs.Str.Parse.{digits_value_after}
use Rattle.std.proofs.lemmas.Bool.Decides.{nat_tests}
use Rattle.lic_ere.specs.Located.{Located}
use Rattle.lic_ere.specs.Bounds.{digits}

pub is_digit : (c : ℕ) → digit_value c < 10 → is_ascii_digit c ≡ true
is_digit c h = grind (arith, nat_tests)

-- two numbers that a bound cannot tell apart stay so after more digits
pub digits_same : (a b : ℕ) (ds : List ℕ) → min a 65536 ≡ min b 65536 → min (digits_value_after 10 a ds) 65536 ≡ min (digits_value_after 10 b ds) 65536
digits_same a b [] same = same
digits_same a b (c ∷ ds) same = digits_same (a * 10 + digit_value c) (b * 10 + digit_value c) ds (omega arith)

digits_more : (x : Located) (rest : List Located) → digit_value x.1 < 10 → digits (x ∷ rest) ≡ x.1 ∷ digits rest
digits_more x rest h = rw (is_digit x.1 h) refl

-- one more digit in front
pub digits_turn : (x : Located) (rest after : List Located) → rest ≡ x ∷ after → digit_value x.1 < 10 → digits rest ≡ x.1 ∷ digits after
digits_turn x rest after all h = ap digits all ∙ digits_more x after h

-- after a digit there are some
pub some_turn : (b total : Bool) (c : ℕ) (ds more : List ℕ) → ds ≡ c ∷ more → (b || not (eqb (length ds) 0)) ≡ total → true ≡ total
some_turn true total c ds more is so_far = so_far
some_turn false total c ds more is so_far =
    let some : not (eqb (length (c ∷ more)) 0) ≡ true = ap not (ne_eqb (length (c ∷ more)) 0 (λ h. omega (arith, h))) in
    sym some ∙ ap (λ (l : List ℕ). not (eqb (length l) 0)) (sym is) ∙ so_far

-- what comes after the digits, with one more of them
pub rest_turn : (x : Located) (rest after total : List Located) (ds more : List ℕ) → rest ≡ x ∷ after → ds ≡ x.1 ∷ more
    → drop (length ds) rest ≡ total → drop (length more) after ≡ total
rest_turn x rest after total ds more all is so_far = sym (λ i. drop (length (is i)) (all i)) ∙ so_far

-- the number so far, with one more digit
pub number_turn : (v w d : ℕ) (c total : ℕ) (ds : List ℕ) → d ≡ digit_value c → w ≡ min (v * 10 + d) 65536
    → min (digits_value_after 10 v (c ∷ ds)) 65536 ≡ total → min (digits_value_after 10 w ds) 65536 ≡ total
number_turn v w d c total ds is said so_far = digits_same w (v * 10 + digit_value c) ds (omega arith) ∙ so_far
