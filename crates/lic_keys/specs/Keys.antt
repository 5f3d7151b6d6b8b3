-- The longest texts of templates.
use Rattle.std.specs.Prelude.{◌≡◌, ℕ, ◌<◌, List, [], Option, None, Some, length, slice_index_or}
use Rattle.std.specs.List.{slice_get}
use Rattle.lic_markup.specs.declared.part.Part.{Part}
use Rattle.lic_keys.specs.Required.{HasNoLetters, IsLongestText}

-- What is looked for of each template: the number of a text among its parts, if there is one, and the letters, or none.
pub record KeysValue : Type 0 where
  pub texts : List (Option ℕ)
  pub letters : List (List ℕ)

-- of the template of this number
abbrev pub text_of : KeysValue → ℕ → Option ℕ
text_of keys k = slice_index_or keys.texts k None

abbrev pub letters_of : KeysValue → ℕ → List ℕ
letters_of keys k = slice_index_or keys.letters k []

-- where there is a text, it has letters
pub record HaveLetters (texts : List (Option ℕ)) (letters : List (List ℕ)) : Type 0 where
  pub count : length letters ≡ length texts
  pub some : (k number : ℕ) → slice_get texts k ≡ Some (Some number) → 0 < length (slice_index_or letters k [])

-- the longest text of some parts, or no letters where no text has some
abbrev pub IsKeyOf : List Part → Option ℕ → List ℕ → Type 0
IsKeyOf parts None letters = (letters ≡ []) × HasNoLetters parts
IsKeyOf parts (Some number) letters = IsLongestText parts number letters

-- the longest text of each template, which has these parts
pub record AreKeysOf (templates : List (List Part)) (keys : KeysValue) : Type 0 where
  pub count : length keys.texts ≡ length templates
  pub letters : length keys.letters ≡ length templates
  pub each : (k : ℕ) (parts : List Part) → slice_get templates k ≡ Some parts → IsKeyOf parts (text_of keys k) (letters_of keys k)
