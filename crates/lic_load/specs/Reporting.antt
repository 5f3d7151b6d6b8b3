-- What is written to standard error.
use Rattle.std.specs.Prelude.{◌≡◌, ◌⊎◌, ℕ, ◌+◌, List, ◌++◌, codes, Option}
use Rattle.std.specs.Io.KnownBytes.{Appends}
use Rattle.lic_fields.specs.Fields.{escaped}
use Rattle.lic_stream.specs.Stream.{one_more, BeginsWith}

-- a text was written: all of it, or a beginning, and then one call failed
abbrev pub IsReported : Option (List ℕ) → Option (List ℕ) → ℕ → ℕ → List ℕ → Type 0
IsReported old new failed_old failed_new text =
    (Appends old new text × (failed_new ≡ failed_old))
    ⊎ (BeginsWith old new text × (failed_new ≡ one_more failed_old))

-- a text was written so often
pub data IsRepeated (text : List ℕ) (old : Option (List ℕ)) (failed_old : ℕ) : ℕ → Option (List ℕ) → ℕ → Type 0 where
  never : IsRepeated text old failed_old 0 old failed_old
  once_more : {n failed_mid failed_new : ℕ} {mid new : Option (List ℕ)} → IsRepeated text old failed_old n mid failed_mid
      → IsReported mid new failed_mid failed_new text → IsRepeated text old failed_old (n + 1) new failed_new

-- the line about a name that is not UTF-8
abbrev pub line_of_unnamed : List ℕ
line_of_unnamed = codes "licscan: templates: a file name is not UTF-8\n"

-- the line about a template that is left out, and why
abbrev pub line_of_template : List ℕ → List ℕ → List ℕ
line_of_template id why = codes "licscan: template " ++ (escaped id ++ (codes ": " ++ (why ++ codes "\n")))
