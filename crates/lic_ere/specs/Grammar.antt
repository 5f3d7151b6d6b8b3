-- The grammar of patterns, apart from how they are read: `.. ls rest ..` says that the lexemes ls begin so and go
-- on with rest. Each lexeme is beside its offset.
use Rattle.std.specs.Prelude.{◌≡◌, ℕ, suc, ◌<◌, List, [], ◌∷◌, Some}
use Rattle.lic_ere.specs.declared.lexeme.bounds.Bounds.{Bounds}
use Rattle.lic_ere.specs.Signs.{close_paren}
use Rattle.lic_ere.specs.Trees.{Tree, repeat, units_tree, choice_tree, letters_tree}
use Rattle.lic_ere.specs.Located.{located}
use Rattle.lic_ere.specs.Lexemes.{Lexeme, unit, sign, opening, closing, bar, anchor}
use Rattle.lic_ere.specs.Spelling.{AreLexemes}
use Rattle.lic_ere.specs.Reading.{max_depth}

mutual
  -- a unit inside that many groups
  pub data IsUnit : ℕ → List (ℕ × Lexeme) → List (ℕ × Lexeme) → Tree → Type 0 where
    -- `.`, a bracket or a character
    plain : {depth offset : ℕ} {t : Tree} {rest : List (ℕ × Lexeme)} → IsUnit depth ((offset, unit t) ∷ rest) rest t
    -- alternatives between parentheses
    group : {depth offset end : ℕ} {ls rest : List (ℕ × Lexeme)} {ts : List Tree} → depth < max_depth
        → IsChoice (suc depth) ls ((end, closing) ∷ rest) ts
        → IsUnit depth ((offset, opening) ∷ ls) rest (choice_tree ts)
    -- a `)` outside of all groups is an ordinary character
    closes_nothing : {offset : ℕ} {rest : List (ℕ × Lexeme)}
        → IsUnit 0 ((offset, closing) ∷ rest) rest (letters_tree close_paren)

  -- units in a row, each with one repetition sign or with none
  pub data IsSequence : ℕ → List (ℕ × Lexeme) → List (ℕ × Lexeme) → List Tree → Type 0 where
    no_unit : {depth : ℕ} {rest : List (ℕ × Lexeme)} → IsSequence depth rest rest []
    once : {depth : ℕ} {ls more rest : List (ℕ × Lexeme)} {t : Tree} {ts : List Tree} → IsUnit depth ls more t
        → IsSequence depth more rest ts → IsSequence depth ls rest (t ∷ ts)
    repeated : {depth offset : ℕ} {ls more rest : List (ℕ × Lexeme)} {t : Tree} {b : Bounds} {ts : List Tree}
        → IsUnit depth ls ((offset, sign (Some b)) ∷ more) t → IsSequence depth more rest ts
        → IsSequence depth ls rest (repeat t b.min b.max ∷ ts)

  -- one sequence, or several with `|` between them
  pub data IsChoice : ℕ → List (ℕ × Lexeme) → List (ℕ × Lexeme) → List Tree → Type 0 where
    only : {depth : ℕ} {ls rest : List (ℕ × Lexeme)} {ts : List Tree} → IsSequence depth ls rest ts
        → IsChoice depth ls rest (units_tree ts ∷ [])
    or : {depth offset : ℕ} {ls more rest : List (ℕ × Lexeme)} {ts us : List Tree}
        → IsSequence depth ls ((offset, bar) ∷ more) ts → IsChoice depth more rest us
        → IsChoice depth ls rest (units_tree ts ∷ us)

-- the first `^` and the last `$` mean nothing
abbrev pub without_anchors : List (ℕ × Lexeme) → List (ℕ × Lexeme)
without_anchors [] = []
without_anchors ((offset, unit t) ∷ ls) = (offset, unit t) ∷ without_anchors ls
without_anchors ((offset, sign b) ∷ ls) = (offset, sign b) ∷ without_anchors ls
without_anchors ((offset, opening) ∷ ls) = (offset, opening) ∷ without_anchors ls
without_anchors ((offset, closing) ∷ ls) = (offset, closing) ∷ without_anchors ls
without_anchors ((offset, bar) ∷ ls) = (offset, bar) ∷ without_anchors ls
without_anchors ((offset, anchor) ∷ ls) = without_anchors ls

-- all of the pattern, given as its bytes, is lexemes that are alternatives, and this is their tree
pub record IsPattern (pattern : List ℕ) (t : Tree) : Type 0 where
  pub lexemes : List (ℕ × Lexeme)
  pub are : AreLexemes (located pattern) lexemes
  pub alternatives : List Tree
  pub choice : IsChoice 0 (without_anchors lexemes) [] alternatives
  pub tree : t ≡ choice_tree alternatives
