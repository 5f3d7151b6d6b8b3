-- The cores of compiled expressions, and whether their cached numbers are right.
use Rattle.std.specs.Prelude.{IsTrue, ◌≡◌, ℕ, Bool, true, ◌==◌, ◌&&◌, List, map, replicate}
use Rattle.std.specs.Bool.{beq}
use Rattle.std.specs.List.{list_all}
use Rattle.lic_ere.specs.Sets.{is_in}
use Rattle.lic_marks.specs.Cores.{Core, one, cat, cat_all, alt_all, any_prefix, copies, up_to, plus, tidy}
use Rattle.lic_marks.specs.Marks.{is_nullable}
use Rattle.lic_marks.specs.Rows.{weight}
use Rattle.lic_marks.specs.declared.test.Test.{Test}
use Rattle.lic_marks.specs.declared.test.Test.TheVariants.{Letter, Any, Class}
use Rattle.lic_marks.specs.declared.node.Times.{Times}
use Rattle.lic_marks.specs.declared.node.Times.TheVariants.{Bounded, Unbounded}
use Rattle.lic_marks.specs.declared.node.Node.{Node}
use Rattle.lic_marks.specs.declared.node.Node.TheOpen.{Node-F}
use Rattle.lic_marks.specs.declared.node.Node.TheFolds.{fold-Node, para-Node}

-- whether a letter passes a test
abbrev pub passes : Test → ℕ → Bool
passes (Letter d) c = c == d
passes Any c = true
passes (Class brackets) c = is_in brackets c

-- these letters in a row
abbrev pub letter_cores : List ℕ → List Core
letter_cores text = map (λ d. one (λ c. c == d)) text

-- that many of these in a row
abbrev pub times_over : Times → Core → Core
times_over (Bounded needed more) a = cat (copies needed a) (up_to more a)
times_over (Unbounded before) a = cat (copies before a) (plus a)

-- one node, with the core of each child in its position
abbrev pub node_core : Node-F Core → Core
node_core (Node-F.Letters text) = cat_all (letter_cores text.items)
node_core (Node-F.One test) = one (passes test)
node_core (Node-F.Copies test count) = cat_all (replicate count (one (passes test)))
node_core (Node-F.UpTo test count) = any_prefix (replicate count (one (passes test)))
node_core (Node-F.Cat children weight) = cat_all children.items
node_core (Node-F.Alt children weight) = alt_all children.items
node_core (Node-F.Repeat child times weight) = times_over times child.value
node_core (Node-F.Plus child weight) = plus child.value
node_core (Node-F.Tidy child weight is_nullable) = tidy child.value

-- the core of a node
abbrev pub core_of : Node → Core
core_of = fold-Node Core node_core

-- each node of the list with whether its cached numbers are right
abbrev pub are_right : List (Node × Bool) → Bool
are_right children = list_all (λ p. p.1) children

-- the cores of these nodes
abbrev pub cores_of : List (Node × Bool) → List Core
cores_of children = map (λ p. core_of p.0) children

-- one node, with each child and whether its cached numbers are right: the node's own are the weight of its core, and
-- for a tidy node whether its child has the empty word
abbrev pub node_is_measured : Node-F (Node × Bool) → Bool
node_is_measured (Node-F.Letters text) = true
node_is_measured (Node-F.One test) = true
node_is_measured (Node-F.Copies test count) = true
node_is_measured (Node-F.UpTo test count) = true
node_is_measured (Node-F.Cat children kept) =
    are_right children.items && (kept == weight (cat_all (cores_of children.items)))
node_is_measured (Node-F.Alt children kept) =
    are_right children.items && (kept == weight (alt_all (cores_of children.items)))
node_is_measured (Node-F.Repeat child times kept) =
    child.value.1 && (kept == weight (times_over times (core_of child.value.0)))
node_is_measured (Node-F.Plus child kept) = child.value.1 && (kept == weight (core_of child.value.0))
node_is_measured (Node-F.Tidy child kept has_empty) =
    child.value.1 && (kept == weight (core_of child.value.0)) && beq has_empty (is_nullable (core_of child.value.0))

-- whether all cached numbers of a node are right
abbrev pub is_measured : Node → Bool
is_measured = para-Node Bool node_is_measured

-- this is the node's core, and its cached numbers are right
pub record IsBuilt (r : Core) (node : Node) : Type 0 where
  pub core : core_of node ≡ r
  pub measured : IsTrue (is_measured node)
