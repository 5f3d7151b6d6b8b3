-- What the matchers of single templates have taken, from the end of a list of tokens.
use Rattle.std.specs.Prelude.{◌≡◌, ℕ, ◌<◌, List, [], ◌∷◌, ◌++◌, map, reverse, Some}
use Rattle.std.specs.List.{slice_get}
use Rattle.lic_words.specs.Expressions.{Expression}
use Rattle.lic_words.specs.Reversal.{reversed_expression}
use Rattle.lic_marks.specs.Cores.{HasWordsOf}
use Rattle.lic_marks.specs.Nodes.{core_of}
use Rattle.lic_marks.specs.Unanchored.{DescribesEnd, HasReadEnds, tree_of}
use Rattle.lic_set.specs.Sets.{Known, words_of}
use Rattle.lic_auto.specs.declared.template_backs.TemplateBack.{TemplateBack}

-- the numbers of the templates
abbrev pub back_numbers : List TemplateBack → List ℕ
back_numbers backs = map (λ one. one.number) backs

-- the matcher's tree has the words of the template, read from their ends
abbrev pub IsReversed : TemplateBack → Known → Type 0
IsReversed one known = HasWordsOf (core_of (tree_of one.matcher)) (reversed_expression (words_of known))

-- the matcher has taken the tokens
abbrev pub HasTakenBackward : TemplateBack → Known → List (List ℕ) → Type 0
HasTakenBackward one known ts = HasReadEnds one.matcher (reversed_expression (words_of known)) ts

-- each matcher's tree has the words of its template, read from their ends
abbrev pub AreReversed : List Known → List TemplateBack → Type 0
AreReversed set backs = (index : ℕ) (one : TemplateBack) (known : Known) → slice_get backs index ≡ Some one
    → slice_get set one.number ≡ Some known → ∥ IsReversed one known ∥₁

-- each matcher has taken the tokens
abbrev pub HaveTakenBackward : List Known → List TemplateBack → List (List ℕ) → Type 0
HaveTakenBackward set backs ts = (index : ℕ) (one : TemplateBack) (known : Known) → slice_get backs index ≡ Some one
    → slice_get set one.number ≡ Some known → ∥ HasTakenBackward one known ts ∥₁

-- the matcher begins anew
pub record BeginsAnew (old new : TemplateBack) : Type 0 where
  pub number : new.number ≡ old.number
  pub tree : tree_of new.matcher ≡ tree_of old.matcher
  pub seeks : (e : Expression) → HasWordsOf (core_of (tree_of old.matcher)) e → HasReadEnds new.matcher e []

-- the matcher takes the token, from its end
pub record TakesReversed (token : List ℕ) (old new : TemplateBack) : Type 0 where
  pub number : new.number ≡ old.number
  pub tree : tree_of new.matcher ≡ tree_of old.matcher
  pub seeks : (e : Expression) (ts : List (List ℕ)) → HasReadEnds old.matcher e ts → HasReadEnds new.matcher e (ts ++ reverse token ∷ [])

-- a matcher before an index has this number, and its template describes some end of the tokens
abbrev pub IsFoundBefore : List Known → List TemplateBack → ℕ → List (List ℕ) → ℕ → Type 0
IsFoundBefore set backs end ts number = (index : ℕ) × (index < end)
    × ((one : TemplateBack) × (slice_get backs index ≡ Some one) × (one.number ≡ number))
    × ((known : Known) × (slice_get set number ≡ Some known) × DescribesEnd (reversed_expression (words_of known)) ts)
