-- Whether templates describe their original texts.
use Rattle.std.specs.Prelude.{◌≡◌, ◌↔◌, ℕ, Bool, IsTrue, List, ◌++◌, All, map, decimal, codes, if◌then◌else◌}
use Rattle.std.specs.List.{flat_map}
use Rattle.lic_kind.specs.LineRules.{LineRules}
use Rattle.lic_words.specs.Describing.{IsDescribed}
use Rattle.lic_norm.specs.Tokens.{tokens_of}
use Rattle.lic_phrases.specs.Rewriting.{Phrase}
use Rattle.lic_set.specs.Matches.{all_letters}
use Rattle.lic_set.specs.Sets.{Known, words_of}
use Rattle.lic_fields.specs.Fields.{escaped, field}

-- the template describes all tokens of its original text, and there is one
abbrev pub DescribesItsOriginal : LineRules → List Phrase → Known → Type 0
DescribesItsOriginal rules words known =
    IsDescribed (words_of known) (all_letters (tokens_of rules words known.template.original))

-- a template, and the verdict on it
pub record Checked : Type 0 where
  pub known : Known
  pub yes : Bool

abbrev pub known_of : Checked → Known
known_of c = c.known

abbrev pub says_yes : Checked → Bool
says_yes c = c.yes

-- the verdict yes is given to a template that describes its original text, and of no other
abbrev pub IsVerdict : LineRules → List Phrase → Checked → Type 0
IsVerdict rules words c = IsTrue c.yes ↔ DescribesItsOriginal rules words c.known

-- the line of a template: its identifier, its weight, and `yes` or `no`
abbrev pub check_line : Checked → List ℕ
check_line c =
    field (escaped c.known.id) 0x09 ++ (field (decimal c.known.template.weight) 0x09
    ++ field (if c.yes then codes "yes" else codes "no") 0x0A)

-- What is written is a line for each template of the set, in order, with the verdict on it.
pub record IsCheckReport (rules : LineRules) (set : List Known) (words : List Phrase) (checked : List Checked)
    (written : List ℕ) : Type 0 where
  pub templates : map known_of checked ≡ set
  pub verdicts : All (IsVerdict rules words) checked
  pub lines : written ≡ flat_map check_line checked
