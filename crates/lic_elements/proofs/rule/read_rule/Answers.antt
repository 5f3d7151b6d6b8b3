use Rattle.lic_elements.specs.Pieces.{characters}
use Rattle.lic_elements.specs.Views.{values_of, rule_of}
use Rattle.lic_elements.proofs.FieldLemmas.{read_by_fields}
use Rattle.lic_elements.proofs.rule.read_rule.Goals as goal

pub returns : goal.returns
returns c =
    read_by_fields c.args.offset c.args.tag (characters c.args.rest) (characters c.in_ok-values.following) (values_of c.in_ok-values.values)
    (rule_of c.in_ok-complete.field-0) c.in_ok-complete.ensures (characters c.trim_start.result) c.trim_start.ensures c.in_ok-values.ensures
