use Rattle.std.proofs.Common.{◌≡◌, Result, Ok, Err, sym, ap, ◌∙◌}
use Rattle.lic_elements.specs.declared.fault.MarkupFault.{MarkupFault}
use Rattle.lic_markup.specs.Parts.{Reading}
use Rattle.lic_markup.proofs.TemplateSpelled.{IsTemplate-read}
use Rattle.lic_markup.proofs.laws.a_template_says_one_thing.Goals as goal

same : (one other : Reading) (r : Result Reading MarkupFault) → r ≡ Ok one → r ≡ Ok other → one ≡ other
same one other r is also = ap (λ (o : Result Reading MarkupFault). elim o [ Ok x ↦ x | Err e ↦ one ]) (sym is ∙ also)

pub returns : goal.returns
returns c = λ rules words template one other is also.
    same one other _ (IsTemplate-read rules words template one is) (IsTemplate-read rules words template other also)
