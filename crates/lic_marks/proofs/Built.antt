-- Nodes that are made with right numbers.
use Rattle.std.proofs.Common.{◌≡◌, ℕ, ◌+◌, ◌==◌, Bool, true, List, [], ◌∷◌, map, length, Vec, Box, Global, refl, sym, ap, ◌∙◌, arith, eq-eqb, ne_eqb, false, suc, replicate}
use Rattle.std.specs.Bool.{beq}
use Rattle.std.specs.List.{list_all}
use Rattle.lic_marks.specs.Cores.{Core, one, cat_all, alt_all, any_prefix, plus, tidy}
use Rattle.lic_marks.specs.Marks.{is_nullable}
use Rattle.lic_marks.specs.Rows.{weight}
use Rattle.lic_marks.specs.Nodes.{core_of, passes, is_measured, letter_cores, times_over, IsBuilt}
use Rattle.lic_marks.specs.declared.test.Test.{Test}
use Rattle.lic_marks.specs.declared.node.Times.{Times}
use Rattle.lic_marks.specs.declared.node.Node.{Node, Letters, One, Copies, UpTo, Cat, Alt, Repeat, Plus, Tidy}
use Rattle.lic_marks.proofs.Cuts.{and_both}
use Rattle.lic_marks.proofs.Nodes.{core_of-Letters, core_of-One, is_measured-Letters, is_measured-One, core_of-Copies, core_of-UpTo, is_measured-Copies, is_measured-UpTo, core_of-Cat, core_of-Alt, core_of-Repeat, core_of-Plus, core_of-Tidy, is_measured-Cat, is_measured-Alt, is_measured-Repeat, is_measured-Plus, is_measured-Tidy}

pub weight-alt_all : (rs : List Core) → weight (cat_all rs) ≡ weight (alt_all rs)
weight-alt_all [] = refl
weight-alt_all (r ∷ rs) = ap (λ n. weight r + n) (weight-alt_all rs)

pub weight-any_prefix : (rs : List Core) → weight (cat_all rs) ≡ weight (any_prefix rs)
weight-any_prefix [] = refl
weight-any_prefix (r ∷ rs) = omega (arith, weight-any_prefix rs)

pub nullable-any_prefix : (rs : List Core) → is_nullable (any_prefix rs) ≡ true
nullable-any_prefix [] = refl
nullable-any_prefix (r ∷ rs) = refl

beq-refl : (b : Bool) → beq b b ≡ true
beq-refl true = refl
beq-refl false = refl

module _ (children : Vec Node Global) (kept : ℕ) (all : list_all is_measured children.items ≡ true)
    (size : kept ≡ weight (cat_all (map core_of children.items))) where
  pub IsBuilt-Cat : IsBuilt (cat_all (map core_of children.items)) (Cat children kept)
  IsBuilt-Cat = record {
    core = core_of-Cat children kept;
    measured = is_measured-Cat children kept ∙ and_both (list_all is_measured children.items) _ all (eq-eqb kept _ size);
  }

  pub IsBuilt-Alt : IsBuilt (alt_all (map core_of children.items)) (Alt children kept)
  IsBuilt-Alt = record {
    core = core_of-Alt children kept;
    measured = is_measured-Alt children kept
        ∙ and_both (list_all is_measured children.items) _ all (eq-eqb kept _ (size ∙ weight-alt_all (map core_of children.items)));
  }

pub IsBuilt-Repeat : (child : Box Node Global) (times : Times) (kept : ℕ) → is_measured child.value ≡ true →
    kept ≡ weight (times_over times (core_of child.value)) → IsBuilt (times_over times (core_of child.value)) (Repeat child times kept)
IsBuilt-Repeat child times kept all size = record {
  core = core_of-Repeat child times kept;
  measured = is_measured-Repeat child times kept ∙ and_both (is_measured child.value) _ all (eq-eqb kept _ size);
}

module _ (child : Box Node Global) (kept : ℕ) (all : is_measured child.value ≡ true) (size : kept ≡ weight (core_of child.value)) where
  pub IsBuilt-Plus : IsBuilt (plus (core_of child.value)) (Plus child kept)
  IsBuilt-Plus = record {
    core = core_of-Plus child kept;
    measured = is_measured-Plus child kept ∙ and_both (is_measured child.value) _ all (eq-eqb kept _ size);
  }

  pub IsBuilt-Tidy : (has_empty : Bool) → has_empty ≡ is_nullable (core_of child.value) →
      IsBuilt (tidy (core_of child.value)) (Tidy child kept has_empty)
  IsBuilt-Tidy has_empty e = record {
    core = core_of-Tidy child kept has_empty;
    measured = is_measured-Tidy child kept has_empty
        ∙ and_both _ (beq has_empty (is_nullable (core_of child.value)))
        (and_both (is_measured child.value) (kept == weight (core_of child.value)) all (eq-eqb kept _ size))
        (ap (beq has_empty) (sym e) ∙ beq-refl has_empty);
  }

pub nullable-letters : (text : List ℕ) (n : ℕ) → n ≡ length text → (n == 0) ≡ is_nullable (cat_all (letter_cores text))
nullable-letters [] n e = eq-eqb n 0 e
nullable-letters (c ∷ text) n e = ne_eqb n 0 (λ z. let s : suc (length text) ≡ 0 = sym e ∙ z in cc)

pub IsBuilt-Letters : (text : Vec ℕ Global) → IsBuilt (cat_all (letter_cores text.items)) (Letters text)
IsBuilt-Letters text = record { core = core_of-Letters text; measured = is_measured-Letters text }

pub IsBuilt-One : (test : Test) → IsBuilt (one (passes test)) (One test)
IsBuilt-One test = record { core = core_of-One test; measured = is_measured-One test }

pub IsBuilt-Copies : (test : Test) (count : ℕ) → IsBuilt (cat_all (replicate count (one (passes test)))) (Copies test count)
IsBuilt-Copies test count = record { core = core_of-Copies test count; measured = is_measured-Copies test count }

pub IsBuilt-UpTo : (test : Test) (count : ℕ) → IsBuilt (any_prefix (replicate count (one (passes test)))) (UpTo test count)
IsBuilt-UpTo test count = record { core = core_of-UpTo test count; measured = is_measured-UpTo test count }
