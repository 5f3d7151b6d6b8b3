use Rattle.lic_markup.proofs.TemplateSpelled.{reading-IsTemplate}
use Rattle.lic_markup.proofs.laws.the_original_text_is_the_text_without_its_rules.Goals as goal

pub returns : goal.returns
returns c = λ rules words template read is.
    let says = reading-IsTemplate rules words template read is in
    (says.elements, says.cut, says.original)
