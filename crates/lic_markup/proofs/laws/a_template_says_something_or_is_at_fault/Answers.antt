use Rattle.std.proofs.Common.{◌≡◌, ◌⊎◌, inl, inr, ℕ, List, Result, Ok, Err, refl, sym, ◌∙◌}
use Rattle.lic_kind.specs.LineRules.{LineRules}
use Rattle.lic_phrases.specs.Rewriting.{Phrase}
use Rattle.lic_elements.specs.declared.fault.MarkupFault.{MarkupFault}
use Rattle.lic_markup.specs.FirstFaults.{IsFaultOf}
use Rattle.lic_markup.specs.Parts.{Reading}
use Rattle.lic_markup.specs.Reading.{reading}
use Rattle.lic_markup.specs.Templates.{IsTemplate}
use Rattle.lic_elements.proofs.RuleFaultSpelled.{same_fault, not_failed}
use Rattle.lic_markup.proofs.TemplateSpelled.{reading-IsTemplate, IsTemplate-read}
use Rattle.lic_markup.proofs.FaultSpelled.{reading-IsFaultOf}
use Rattle.lic_markup.proofs.FaultRead.{IsFaultOf-read}
use Rattle.lic_markup.proofs.laws.a_template_says_something_or_is_at_fault.Goals as goal

by_reading : (rules : LineRules) (words : List Phrase) (template : List ℕ) (r : Result Reading MarkupFault)
    → reading rules words template ≡ r
    → ((says : Reading) × IsTemplate rules words template says) ⊎ ((e : MarkupFault) × IsFaultOf rules words template e)
by_reading rules words template (Ok says) is = inl (says, reading-IsTemplate rules words template says is)
by_reading rules words template (Err e) is = inr (e, reading-IsFaultOf rules words template e is)

pub returns-clause-either : goal.returns-clause-either
returns-clause-either c = λ rules words template. by_reading rules words template (reading rules words template) refl

pub returns-clause-never_both : goal.returns-clause-never_both
returns-clause-never_both c = λ rules words template says e is fault.
    not_failed says e (sym (IsTemplate-read rules words template says is) ∙ IsFaultOf-read rules words template e fault)

pub returns-clause-one_fault : goal.returns-clause-one_fault
returns-clause-one_fault c = λ rules words template one other is also.
    same_fault {A = Reading} one other
    (sym (IsFaultOf-read rules words template one is) ∙ IsFaultOf-read rules words template other also)
