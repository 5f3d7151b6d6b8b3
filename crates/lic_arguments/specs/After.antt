-- The triple that an argument names, FIRST:LAST:ID, and what else has to be given with it.
use Rattle.std.specs.Prelude.{◌≡◌, ℕ, ◌^◌, ◌<◌, ◌≤◌, true, false, List, ◌∷◌, ◌++◌, Option, Some, None, IsSome, IsSomeAnd}
use Rattle.std.specs.Borrow.{Bor}
use Rattle.std.specs.Str.Parse.{IsNumeral, digits_value}
use Rattle.lic_arguments.specs.declared.after.After.{After}
use Rattle.lic_arguments.specs.declared.after.Given.{Given}
use Rattle.lic_arguments.specs.declared.fault.ArgumentFault.{ArgumentFault}
use Rattle.lic_arguments.specs.declared.fault.ArgumentFault.TheVariants.{AfterNeedsAll, LimitNeedsAll, AfterFiles, BadTriple}

-- one or more ASCII digits, whose number fits a `usize`
pub record IsNumber (text : List ℕ) (n : ℕ) : Type 0 where
  pub digits : IsNumeral 10 text
  pub value : n ≡ digits_value 10 text
  pub fits : n < 2 ^ 64

-- two numbers with a colon after each, and then the identifier
pub record IsAfter (text : List ℕ) (after : After) : Type 0 where
  pub first : List ℕ
  pub last : List ℕ
  pub written : text ≡ first ++ 0x3A ∷ (last ++ 0x3A ∷ after.id.now)
  pub is_first : IsNumber first after.first
  pub is_last : IsNumber last after.last

-- a triple exactly where a text is given, and the one that the text names
abbrev pub IsNamedBy : Option (Bor (List ℕ)) → Option After → Type 0
IsNamedBy None None = Unit {0}
IsNamedBy (Some text) (Some after) = IsAfter text.now after
IsNamedBy _ _ = ⊥

-- nothing is at fault, and this is the triple that is given
pub record IsAsGiven (given : Given) (after : Option After) : Type 0 where
  pub all : IsSome given.after → given.all ≡ true
  pub limit : given.has_limit ≡ true → given.all ≡ true
  pub files : IsSome given.after → given.files ≤ 1
  pub named : IsNamedBy given.after after

-- the fault that is reported: what `--after` lacks, then what `--limit` lacks, then too many files, then a text that is no triple
abbrev pub IsFirstFault : Given → ArgumentFault → Type 0
IsFirstFault given AfterNeedsAll = (given.all ≡ false) × IsSome given.after
IsFirstFault given LimitNeedsAll = (given.all ≡ false) × (given.after ≡ None) × (given.has_limit ≡ true)
IsFirstFault given AfterFiles = (given.all ≡ true) × IsSome given.after × (1 < given.files)
IsFirstFault given BadTriple = (given.all ≡ true) × (given.files ≤ 1)
    × IsSomeAnd given.after (λ text. (after : After) → ¬ IsAfter text.now after)
IsFirstFault given _ = ⊥
