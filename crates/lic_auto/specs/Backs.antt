-- Which tokens a backward machine over templates of a set has taken, and what it has counted.
use Rattle.std.specs.Prelude.{◌≡◌, ◌↔◌, ℕ, List, take, Some, Contains}
use Rattle.std.specs.List.{slice_get}
use Rattle.lic_words.specs.Describing.{IsDescribed}
use Rattle.lic_words.specs.Reversal.{reversed_tokens}
use Rattle.lic_set.specs.Sets.{Known, words_of}
use Rattle.lic_auto.specs.TemplateBacks.{HaveTakenBackward, back_numbers}
use Rattle.lic_auto.specs.declared.back.Back.{Back}

-- the templates
abbrev pub set_of_back : Back → List Known
set_of_back back = back.set.now

-- the numbers of its templates
abbrev pub numbers_of_back : Back → List ℕ
numbers_of_back back = back_numbers back.backs.items

-- the steps that were counted
abbrev pub steps_of_back : Back → ℕ
steps_of_back back = back.steps

-- the template of this number describes some beginning of the tokens
abbrev pub IsLive : List Known → List (List ℕ) → ℕ → Type 0
IsLive set ts k = (known : Known) × (slice_get set k ≡ Some known) × (n : ℕ) × IsDescribed (words_of known) (take n ts)

-- The machine has taken this list of tokens: each matcher has taken it from its end, and the numbers that are kept as live are those
-- of the live templates.
pub record BackHasTaken (back : Back) (ts : List (List ℕ)) : Type 0 where
  pub backs : HaveTakenBackward (set_of_back back) back.backs.items (reversed_tokens ts)
  pub live : (k : ℕ) → Contains (take back.live_count back.live.items) k
      ↔ (Contains (numbers_of_back back) k × IsLive (set_of_back back) ts k)
