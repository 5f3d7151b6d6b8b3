-- The equations of a node's core and of its cached numbers, one for each variant.
use Rattle.std.proofs.Common.{◌≡◌, ℕ, Bool, true, ◌==◌, ◌&&◌, List, [], ◌∷◌, length, map, replicate, Vec, Box, Global, refl, sym, ap, ◌∙◌, false, eqb-true}
use Rattle.std.specs.List.{list_all}
use Rattle.std.specs.Bool.{beq}
use Rattle.lic_marks.specs.Cores.{Core, one, cat_all, alt_all, any_prefix, plus, tidy}
use Rattle.lic_marks.specs.Marks.{is_nullable}
use Rattle.lic_marks.specs.Rows.{weight}
use Rattle.lic_marks.specs.Nodes.{passes, letter_cores, times_over, node_core, core_of, are_right, cores_of, node_is_measured, is_measured}
use Rattle.lic_marks.proofs.LetterSteps.{weight-letters, weight-copies, weight-up_to}
use Rattle.lic_marks.proofs.Cuts.{and_left, and_right}
use Rattle.lic_marks.specs.declared.test.Test.{Test}
use Rattle.lic_marks.specs.declared.node.Times.{Times}
use Rattle.lic_marks.specs.declared.node.Node.{Node, Node-F, fold-roll-Node, para-roll-Node}
use Rattle.lic_marks.specs.declared.node.Node.TheVariants.{Letters, One, Copies, UpTo, Cat, Alt, Repeat, Plus, Tidy, rolls-Letters, rolls-One, rolls-Copies, rolls-UpTo, rolls-Cat, rolls-Alt, rolls-Repeat, rolls-Plus, rolls-Tidy}

pub core_of-Letters : (text : Vec ℕ Global) → core_of (Letters text) ≡ cat_all (letter_cores text.items)
core_of-Letters text = ap core_of (sym (rolls-Letters text)) ∙ fold-roll-Node Core node_core (Node-F.Letters text)

pub core_of-One : (test : Test) → core_of (One test) ≡ one (passes test)
core_of-One test = ap core_of (sym (rolls-One test)) ∙ fold-roll-Node Core node_core (Node-F.One test)

module _ (test : Test) (count : ℕ) where
  pub core_of-Copies : core_of (Copies test count) ≡ cat_all (replicate count (one (passes test)))
  core_of-Copies = ap core_of (sym (rolls-Copies test count)) ∙ fold-roll-Node Core node_core (Node-F.Copies test count)

  pub core_of-UpTo : core_of (UpTo test count) ≡ any_prefix (replicate count (one (passes test)))
  core_of-UpTo = ap core_of (sym (rolls-UpTo test count)) ∙ fold-roll-Node Core node_core (Node-F.UpTo test count)

  pub is_measured-Copies : is_measured (Copies test count) ≡ true
  is_measured-Copies = ap is_measured (sym (rolls-Copies test count)) ∙ para-roll-Node Bool node_is_measured (Node-F.Copies test count)

  pub is_measured-UpTo : is_measured (UpTo test count) ≡ true
  is_measured-UpTo = ap is_measured (sym (rolls-UpTo test count)) ∙ para-roll-Node Bool node_is_measured (Node-F.UpTo test count)

  pub weight-Copies : count ≡ weight (core_of (Copies test count))
  weight-Copies = rw core_of-Copies (sym (weight-copies (passes test) count))

  pub weight-UpTo : count ≡ weight (core_of (UpTo test count))
  weight-UpTo = rw core_of-UpTo (sym (weight-up_to (passes test) count))

module _ (children : Vec Node Global) (kept : ℕ) where
  pub core_of-Cat : core_of (Cat children kept) ≡ cat_all (map core_of children.items)
  core_of-Cat = ap core_of (sym (rolls-Cat children kept)) ∙ fold-roll-Node Core node_core (Node-F.Cat children kept)

  pub core_of-Alt : core_of (Alt children kept) ≡ alt_all (map core_of children.items)
  core_of-Alt = ap core_of (sym (rolls-Alt children kept)) ∙ fold-roll-Node Core node_core (Node-F.Alt children kept)

module _ (child : Box Node Global) (times : Times) (kept : ℕ) where
  pub core_of-Repeat : core_of (Repeat child times kept) ≡ times_over times (core_of child.value)
  core_of-Repeat = ap core_of (sym (rolls-Repeat child times kept)) ∙ fold-roll-Node Core node_core (Node-F.Repeat child times kept)

  pub is_measured-Repeat : is_measured (Repeat child times kept)
      ≡ (is_measured child.value && (kept == weight (times_over times (core_of child.value))))
  is_measured-Repeat = ap is_measured (sym (rolls-Repeat child times kept)) ∙ para-roll-Node Bool node_is_measured (Node-F.Repeat child times kept)

  pub weight-Repeat : is_measured (Repeat child times kept) ≡ true → kept ≡ weight (core_of (Repeat child times kept))
  weight-Repeat h = rw core_of-Repeat (eqb-true kept _ (and_right (is_measured child.value) _ (rw is_measured-Repeat at h)))

  pub child-Repeat : is_measured (Repeat child times kept) ≡ true → is_measured child.value ≡ true
  child-Repeat h = and_left (is_measured child.value) _ (rw is_measured-Repeat at h)

module _ (child : Box Node Global) (kept : ℕ) where
  pub core_of-Plus : core_of (Plus child kept) ≡ plus (core_of child.value)
  core_of-Plus = ap core_of (sym (rolls-Plus child kept)) ∙ fold-roll-Node Core node_core (Node-F.Plus child kept)

  pub core_of-Tidy : (has_empty : Bool) → core_of (Tidy child kept has_empty) ≡ tidy (core_of child.value)
  core_of-Tidy has_empty =
      ap core_of (sym (rolls-Tidy child kept has_empty)) ∙ fold-roll-Node Core node_core (Node-F.Tidy child kept has_empty)

  pub is_measured-Plus : is_measured (Plus child kept) ≡ (is_measured child.value && (kept == weight (core_of child.value)))
  is_measured-Plus = ap is_measured (sym (rolls-Plus child kept)) ∙ para-roll-Node Bool node_is_measured (Node-F.Plus child kept)

  pub is_measured-Tidy : (has_empty : Bool) → is_measured (Tidy child kept has_empty)
      ≡ (is_measured child.value && (kept == weight (core_of child.value)) && beq has_empty (is_nullable (core_of child.value)))
  is_measured-Tidy has_empty =
      ap is_measured (sym (rolls-Tidy child kept has_empty)) ∙ para-roll-Node Bool node_is_measured (Node-F.Tidy child kept has_empty)

beq-same : (a b : Bool) → beq a b ≡ true → a ≡ b
beq-same true true h = refl
beq-same true false h = cc
beq-same false true h = cc
beq-same false false h = refl

pub is_measured-Letters : (text : Vec ℕ Global) → is_measured (Letters text) ≡ true
is_measured-Letters text = ap is_measured (sym (rolls-Letters text)) ∙ para-roll-Node Bool node_is_measured (Node-F.Letters text)

pub is_measured-One : (test : Test) → is_measured (One test) ≡ true
is_measured-One test = ap is_measured (sym (rolls-One test)) ∙ para-roll-Node Bool node_is_measured (Node-F.One test)

-- each child with whether it is measured
abbrev measured : Node → Node × Bool
measured n = (n, is_measured n)

are_right-measured : (ns : List Node) → are_right (map measured ns) ≡ list_all is_measured ns
are_right-measured [] = refl
are_right-measured (n ∷ ns) = ap (λ b. is_measured n && b) (are_right-measured ns)

cores_of-measured : (ns : List Node) → cores_of (map measured ns) ≡ map core_of ns
cores_of-measured [] = refl
cores_of-measured (n ∷ ns) = ap (λ rs. core_of n ∷ rs) (cores_of-measured ns)

-- both parts of the test for the nodes of a list
both : (kept : ℕ) (f : List Core → Core) (ns : List Node) →
    (are_right (map measured ns) && (kept == weight (f (cores_of (map measured ns)))))
    ≡ (list_all is_measured ns && (kept == weight (f (map core_of ns))))
both kept f ns =
    ap (λ b. b && (kept == weight (f (cores_of (map measured ns))))) (are_right-measured ns)
    ∙ ap (λ rs. list_all is_measured ns && (kept == weight (f rs))) (cores_of-measured ns)

module _ (children : Vec Node Global) (kept : ℕ) where
  pub is_measured-Cat : is_measured (Cat children kept)
      ≡ (list_all is_measured children.items && (kept == weight (cat_all (map core_of children.items))))
  is_measured-Cat = ap is_measured (sym (rolls-Cat children kept))
      ∙ para-roll-Node Bool node_is_measured (Node-F.Cat children kept) ∙ both kept cat_all children.items

  pub is_measured-Alt : is_measured (Alt children kept)
      ≡ (list_all is_measured children.items && (kept == weight (alt_all (map core_of children.items))))
  is_measured-Alt = ap is_measured (sym (rolls-Alt children kept))
      ∙ para-roll-Node Bool node_is_measured (Node-F.Alt children kept) ∙ both kept alt_all children.items

pub weight-Letters : (text : Vec ℕ Global) → length text.items ≡ weight (core_of (Letters text))
weight-Letters text = rw (core_of-Letters text) (sym (weight-letters text.items))

-- what a measured node with children says: its number is its weight, and its children are measured
module _ (children : Vec Node Global) (kept : ℕ) where
  pub weight-Cat : is_measured (Cat children kept) ≡ true → kept ≡ weight (core_of (Cat children kept))
  weight-Cat h = rw core_of-Cat (eqb-true kept _ (and_right (list_all is_measured children.items) _ (rw is_measured-Cat at h)))

  pub weight-Alt : is_measured (Alt children kept) ≡ true → kept ≡ weight (core_of (Alt children kept))
  weight-Alt h = rw core_of-Alt (eqb-true kept _ (and_right (list_all is_measured children.items) _ (rw is_measured-Alt at h)))

  pub children-Cat : is_measured (Cat children kept) ≡ true → list_all is_measured children.items ≡ true
  children-Cat h = and_left (list_all is_measured children.items) _ (rw is_measured-Cat at h)

  pub children-Alt : is_measured (Alt children kept) ≡ true → list_all is_measured children.items ≡ true
  children-Alt h = and_left (list_all is_measured children.items) _ (rw is_measured-Alt at h)

module _ (child : Box Node Global) (kept : ℕ) where
  pub weight-Plus : is_measured (Plus child kept) ≡ true → kept ≡ weight (core_of (Plus child kept))
  weight-Plus h = rw core_of-Plus (eqb-true kept _ (and_right (is_measured child.value) _ (rw is_measured-Plus at h)))

  pub child-Plus : is_measured (Plus child kept) ≡ true → is_measured child.value ≡ true
  child-Plus h = and_left (is_measured child.value) _ (rw is_measured-Plus at h)

  module _ (has_empty : Bool) (h : is_measured (Tidy child kept has_empty) ≡ true) where
    numbers : (is_measured child.value && (kept == weight (core_of child.value))) ≡ true
    numbers = and_left _ (beq has_empty (is_nullable (core_of child.value))) (rw is_measured-Tidy at h)

    pub weight-Tidy : kept ≡ weight (core_of (Tidy child kept has_empty))
    weight-Tidy = rw core_of-Tidy (eqb-true kept _ (and_right (is_measured child.value) _ numbers))

    pub child-Tidy : is_measured child.value ≡ true
    child-Tidy = and_left (is_measured child.value) _ numbers

    pub nullable-Tidy : has_empty ≡ is_nullable (core_of child.value)
    nullable-Tidy = beq-same has_empty _ (and_right (is_measured child.value && (kept == weight (core_of child.value))) _ (rw is_measured-Tidy at h))
