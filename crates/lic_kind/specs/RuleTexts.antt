-- The texts that a value of the code holds, each in two forms.
use Rattle.std.specs.Prelude.{ℕ, List, map, string_bytes}
use Rattle.std.specs.Str.{chars}
use Rattle.lic_kind.specs.declared.texts.Held.{Held}
use Rattle.lic_kind.specs.declared.texts.Held.TheVariants.{Fixed, Owned}

-- the characters of each text, read from the string
abbrev pub read_in : Held → List (List ℕ)
read_in (Fixed texts) = map (λ text. chars text.0.now) texts.now
read_in (Owned texts) = map (λ text. chars (string_bytes text.string)) texts.items

-- the characters of each text, as they are held
abbrev pub characters_in : Held → List (List ℕ)
characters_in (Fixed texts) = map (λ text. text.1.now) texts.now
characters_in (Owned texts) = map (λ text. text.characters.items) texts.items
