use Rattle.std.proofs.Common.{List, ℕ, Result, Ok, Err, IfOk}
use Rattle.lic_kind.specs.LineRules.{rules_of}
use Rattle.lic_markup.specs.Parts.{TemplateValue, template_of}
use Rattle.lic_markup.specs.Templates.{IsTemplate}
use Rattle.lic_load.specs.declared.templates.TemplateFault.{TemplateFault}
use Rattle.lic_load.proofs.templates.load.Goals as goal

-- what these bytes say is what some bytes say
of_some : (P : List ℕ → TemplateValue → Type 0) (bytes : List ℕ) (r : Result TemplateValue TemplateFault) → IfOk r (P bytes)
    → IfOk r (λ t. (some : List ℕ) × P some t)
of_some P bytes (Ok t) is = (bytes, is)
of_some P bytes (Err e) is = tt

pub returns : goal.returns
returns g c =
    of_some (λ bytes t. IsTemplate (rules_of c.args.rules.now) c.args.words.now bytes (template_of t)) c.as_slice.result.now
    c.template_in.result c.template_in.ensures.found
