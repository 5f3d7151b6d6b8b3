-- The texts of one kind of line rule.
use Rattle.std.specs.Prelude.{ℕ, List}
use Rattle.lic_kind.specs.RuleTexts.{characters_in}
use Rattle.lic_kind.specs.declared.texts.Texts.{Texts}

-- the texts that a value of the code holds, each as its characters
abbrev pub texts_of : Texts → List (List ℕ)
texts_of texts = characters_in texts.held
