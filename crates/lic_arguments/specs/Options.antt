-- What the parser of the command line found of each option.
use Rattle.std.specs.Prelude.{◌≡◌, ℕ, ◌^◌, ◌<◌, Bool, true, false, List, [], ◌∷◌, Option, Some, None, codes, is_some, option_map, unwrap_or}
use Rattle.std.specs.Borrow.{Bor}
use Rattle.std.specs.Str.Parse.{IsNumeral, digits_value}
use Rattle.clap.specs.Matches.{first_value, one_text, matched_of, raw_values}
use Rattle.clap.specs.declared.parser.matches.Found.{Found}
use Rattle.lic_arguments.specs.declared.after.Given.{Given}

-- a flag is set exactly where it is given
pub record IsFlag (found : Found) (id : List ℕ) (flag : Bool) : Type 0 where
  pub none : one_text found id ≡ None → flag ≡ false
  pub set : one_text found id ≡ Some (codes "true") → flag ≡ true
  pub clear : one_text found id ≡ Some (codes "false") → flag ≡ false

-- the text that is given of an option
abbrev pub IsText : Found → List ℕ → Option (Bor (List ℕ)) → Type 0
IsText found id text = option_map (λ s. s.now) text ≡ first_value found id

-- the number that is given as a limit
pub record IsLimit (found : Found) (limit : Option ℕ) : Type 0 where
  pub none : one_text found (codes "limit") ≡ None → limit ≡ None
  pub some : (text : List ℕ) → one_text found (codes "limit") ≡ Some text → IsNumeral 10 text
      → digits_value 10 text < 2 ^ 32 → limit ≡ Some (digits_value 10 text)

abbrev or_input : List (List ℕ) → List (List ℕ)
or_input [] = codes "-" ∷ []
or_input (file ∷ files) = file ∷ files

-- the files that are given, or standard input alone where none is
abbrev pub files_in : Found → List (List ℕ)
files_in found = or_input (unwrap_or (option_map raw_values (matched_of found (codes "files"))) [])

-- what is given of the options of which one asks for another
pub record IsGiven (found : Found) (count : ℕ) (given : Given) : Type 0 where
  pub all : IsFlag found (codes "all") given.all
  pub limit : given.has_limit ≡ is_some (matched_of found (codes "limit"))
  pub after : IsText found (codes "after") given.after
  pub files : given.files ≡ count
