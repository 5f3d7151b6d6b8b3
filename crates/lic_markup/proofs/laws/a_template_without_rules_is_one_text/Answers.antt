use Rattle.lic_markup.proofs.PlainLemmas.{plain_parts}
use Rattle.lic_markup.proofs.laws.a_template_without_rules_is_one_text.Goals as goal

pub returns : goal.returns
returns c = plain_parts
