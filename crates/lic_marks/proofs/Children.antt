-- The children of a node, one after another.
use Rattle.std.proofs.Common.{◌≡◌, ℕ, zero, suc, ◌+◌, ◌≤◌, ◌<◌, true, List, [], ◌∷◌, length, drop, map, get_or, sym, ap, ◌∙◌, subst, arith}
use Rattle.std.specs.List.{list_all}
use Rattle.std.proofs.lemmas.List.{drop_more, drop_all}
use Rattle.lic_marks.specs.Nodes.{core_of, is_measured}
use Rattle.lic_marks.specs.declared.node.Node.{Node}
use Rattle.lic_marks.proofs.Cuts.{and_left, and_right}

module _ (children : List Node) (i : ℕ) (child : Node) (inside : i < length children) (is : child ≡ get_or children i child) where
  -- one child more
  pub cores_more : map core_of (drop i children) ≡ core_of child ∷ map core_of (drop (i + 1) children)
  cores_more = ap (map core_of) (drop_more children i child inside ∙ ap (λ n. n ∷ drop (i + 1) children) (sym is))

-- no child more
pub cores_done : (children : List Node) (i : ℕ) → length children ≤ i → map core_of (drop i children) ≡ []
cores_done children i h = ap (map core_of) (drop_all i children h)

measured_get : (children : List Node) (i : ℕ) (d : Node) → list_all is_measured children ≡ true → i < length children →
    is_measured (get_or children i d) ≡ true
measured_get [] i d h inside = absurd (omega arith)
measured_get (n ∷ ns) zero d h inside = and_left (is_measured n) (list_all is_measured ns) h
measured_get (n ∷ ns) (suc i) d h inside =
    measured_get ns i d (and_right (is_measured n) (list_all is_measured ns) h) (omega (arith, inside))

-- each child of measured children is
pub measured_at : (children : List Node) (i : ℕ) (child : Node) → list_all is_measured children ≡ true → i < length children →
    child ≡ get_or children i child → is_measured child ≡ true
measured_at children i child h inside is = subst (λ n. is_measured n ≡ true) (sym is) (measured_get children i child h inside)
