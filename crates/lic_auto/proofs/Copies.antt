-- Nodes for one letter that passes, that many times.
use Rattle.std.proofs.Common.{◌≡◌, ℕ, replicate, sym, ap, ◌∙◌}
use Rattle.lic_marks.specs.Cores.{one, cat_all, any_prefix, copies, up_to}
use Rattle.lic_marks.specs.Nodes.{core_of, passes, IsBuilt}
use Rattle.lic_marks.specs.declared.test.Test.{Test}
use Rattle.lic_marks.specs.declared.node.Node.{Node, One}
use Rattle.lic_marks.proofs.Nodes.{core_of-One}
use Rattle.lic_auto.proofs.Repetitions.{copies-list, up_to-list}

module _ (body : Node) (test copy : Test) (n : ℕ) (node : Node) (is : body ≡ One test) (same : copy ≡ test) where
  one_is : one (passes copy) ≡ core_of body
  one_is = ap (λ t. one (passes t)) same ∙ sym (ap core_of is ∙ core_of-One test)

  pub copies_of_one : IsBuilt (cat_all (replicate n (one (passes copy)))) node → IsBuilt (copies n (core_of body)) node
  copies_of_one built = record { core = built.core ∙ copies-list n (one (passes copy)) ∙ ap (copies n) one_is; measured = built.measured }

  pub up_to_of_one : IsBuilt (any_prefix (replicate n (one (passes copy)))) node → IsBuilt (up_to n (core_of body)) node
  up_to_of_one built = record { core = built.core ∙ up_to-list n (one (passes copy)) ∙ ap (up_to n) one_is; measured = built.measured }
