-- Lines of which nothing but white space is taken, as two characters at each of their edges show.
use Rattle.std.specs.Prelude.{◌≡◌, ◌≢◌, ◌⊎◌, ℕ, true, false, List, [], ◌∷◌, ◌++◌}
use Rattle.std.specs.List.{AllByRecursion}
use Rattle.std.specs.Char.{is_whitespace}
use Rattle.lic_kind.specs.Kinds.{kind_of, is_mark_kind}
use Rattle.lic_kind.specs.LineRules.{LineRules}
use Rattle.lic_trim.specs.Lines.{cut_of, whole_line}
use Rattle.lic_trim.specs.Spaces.{TakesSpaces}

-- two characters that are not one same mark
abbrev pub AreApart : ℕ → ℕ → Type 0
AreApart c d = (c ≢ d) ⊎ (is_mark_kind (kind_of c) ≡ false)

-- white space, then a text that begins with the first two of these characters and ends with the other two, and white space again
pub record HasEdges (line : List ℕ) (first second before last : ℕ) : Type 0 where
  pub lead : List ℕ
  pub tail : List ℕ
  pub past : List ℕ
  pub ahead : List ℕ
  pub all : line ≡ lead ++ ((first ∷ second ∷ past) ++ tail)
  pub end : first ∷ second ∷ past ≡ ahead ++ before ∷ last ∷ []
  pub lead_white : AllByRecursion (λ w. is_whitespace w ≡ true) lead
  pub tail_white : AllByRecursion (λ w. is_whitespace w ≡ true) tail
  pub first_dark : is_whitespace first ≡ false
  pub last_dark : is_whitespace last ≡ false

-- of each line with these edges white space alone is taken
abbrev pub KeepsAll : LineRules → ℕ → ℕ → ℕ → ℕ → Type 0
KeepsAll rules first second before last = (line : List ℕ) → HasEdges line first second before last → TakesSpaces (cut_of rules whole_line line) line
