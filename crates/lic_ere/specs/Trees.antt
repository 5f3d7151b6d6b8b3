-- The tree of a pattern.
use Rattle.std.specs.Prelude.{ℕ, List, [], ◌∷◌, map, Option}
use Rattle.lic_kind.specs.Kinds.{spell}
use Rattle.lic_ere.specs.Sets.{Brackets}
use Rattle.lic_ere.specs.declared.ere.Ere.{Ere}
use Rattle.lic_ere.specs.declared.ere.Ere.TheOpen.{Ere-F}
use Rattle.lic_ere.specs.declared.ere.Ere.TheFolds.{fold-Ere}

mutual
  -- a pattern without where it lies in memory
  pub data Tree : Type 0 where
    empty : Tree
    char : ℕ → Tree
    any : Tree
    set : Brackets → Tree
    cat : Trees → Tree
    alt : Trees → Tree
    repeat : Tree → ℕ → Option ℕ → Tree

  pub data Trees : Type 0 where
    no_tree : Trees
    one_more : Tree → Trees → Trees

-- trees in a row
abbrev pub sequence : List Tree → Trees
sequence [] = no_tree
sequence (t ∷ ts) = one_more t (sequence ts)

-- a node, with the tree of each child in its place
abbrev pub node_tree : Ere-F Tree → Tree
node_tree Ere-F.Empty = empty
node_tree (Ere-F.Char c) = char c
node_tree Ere-F.Any = any
node_tree (Ere-F.Set class) = set class
node_tree (Ere-F.Cat subs) = cat (sequence subs.items)
node_tree (Ere-F.Alt subs) = alt (sequence subs.items)
node_tree (Ere-F.Repeat body min max) = repeat body.value min max

abbrev pub tree_of : Ere → Tree
tree_of = fold-Ere Tree node_tree

-- the units of a sequence: one is by itself, and none is the empty word
abbrev pub units_tree : List Tree → Tree
units_tree [] = empty
units_tree (t ∷ []) = t
units_tree (t ∷ u ∷ ts) = cat (sequence (t ∷ u ∷ ts))

-- alternatives, of which there is always one: one is by itself
abbrev pub choice_tree : List Tree → Tree
choice_tree [] = empty
choice_tree (t ∷ []) = t
choice_tree (t ∷ u ∷ ts) = alt (sequence (t ∷ u ∷ ts))

-- the unit that an ordinary or an escaped character is: its letters in a row
abbrev pub letters_tree : ℕ → Tree
letters_tree c = units_tree (map char (spell c))
