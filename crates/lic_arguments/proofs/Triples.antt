-- The parts of a text FIRST:LAST:ID are those round its first two colons.
use Rattle.std.proofs.Common.{◌≡◌, ◌≢◌, ℕ, ◌<◌, List, ◌∷◌, ◌++◌, length, get_or, Option, Some, None, Bor, MatchOption, IfNone, ◌⊎◌, ⊎_elim, inr, arith}
use Rattle.std.proofs.lemmas.Str.Parse.{IsNumeralModel, numerals_by_value, tells_digits, not_in_digits}
use Rattle.std.proofs.lemmas.Str.Pattern.{IsSplitOnceResult, split_after}
use Rattle.std.specs.Str.Parse.{AllDigits, digits_value}
use Rattle.lic_arguments.specs.After.{IsNumber, IsAfter}
use Rattle.lic_arguments.specs.declared.after.After.{After}

pub digits_model : IsNumeralModel (AllDigits 10) (digits_value 10)
digits_model = numerals_by_value (AllDigits 10) tells_digits

-- what is no digit is in no number
pub not_in_number : (text : List ℕ) (n c : ℕ) → IsNumber text n → (c < 48) ⊎ (57 < c) → (i : ℕ) → i < length text → get_or text i 0 ≢ c
not_in_number text n c is other i within =
    not_in_digits digits_model text c is.digits.1 (λ range. ⊎_elim (λ low. omega arith) (λ high. omega arith) other) i within

pub at_first_colon : (text : List ℕ) (after : After) (r : Option (Bor (List ℕ) × Bor (List ℕ))) (is : IsAfter text after)
    → IsSplitOnceResult 58 text r → MatchOption r ⊥ (λ x. (x.0.now ≡ is.first) × (x.1.now ≡ is.last ++ 58 ∷ after.id.now))
at_first_colon text after r is split =
    split_after 58 text is.first (is.last ++ 58 ∷ after.id.now) r split (omega arith) is.written (not_in_number is.first after.first 58 is.is_first (inr (omega arith)))

pub at_second_colon : (text rest : List ℕ) (after : After) (r : Option (Bor (List ℕ) × Bor (List ℕ))) (is : IsAfter text after)
    → rest ≡ is.last ++ 58 ∷ after.id.now → IsSplitOnceResult 58 rest r → MatchOption r ⊥ (λ x. (x.0.now ≡ is.last) × (x.1.now ≡ after.id.now))
at_second_colon text rest after r is same split =
    split_after 58 rest is.last after.id.now r split (omega arith) same (not_in_number is.last after.last 58 is.is_last (inr (omega arith)))

-- what is no triple in any case is none here
pub if_none : (o : Option After) (text : List ℕ) → ((after : After) → ¬ IsAfter text after) → IfNone o ((after : After) → ¬ IsAfter text after)
if_none None text none = none
if_none (Some after) text none = tt
