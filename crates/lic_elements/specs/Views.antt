-- What the values of the code represent.
use Rattle.std.specs.Option.{option_map}
use Rattle.std.specs.String.{string_bytes}
use Rattle.lic_elements.specs.declared.rule.fields.Values as coded_values
use Rattle.lic_elements.specs.declared.rule.Rule.{Rule}
use Rattle.lic_elements.specs.declared.rule.Rule.TheVariants as coded_rules
use Rattle.lic_elements.specs.declared.elements.Element.{Element}
use Rattle.lic_elements.specs.declared.elements.Element.TheVariants as coded_elements
use Rattle.lic_elements.specs.Pieces.{characters}
use Rattle.lic_elements.specs.Rules as rules
use Rattle.lic_elements.specs.Elements as elements

abbrev pub values_of : coded_values.Values → rules.Values
values_of v =
    record {
      name = option_map string_bytes v.name;
      original = option_map string_bytes v.original;
      pattern = option_map (λ p. (p.0, string_bytes p.1)) v.pattern;
    }

abbrev pub rule_of : Rule → rules.Rule
rule_of (coded_rules.Variable name original offset pattern) =
    rules.variable (string_bytes name) (string_bytes original) offset (string_bytes pattern)
rule_of (coded_rules.Begin offset) = rules.begin offset
rule_of (coded_rules.End offset) = rules.finish offset

abbrev pub element_of : Element → elements.Element
element_of (coded_elements.Text piece) = elements.text (characters piece)
element_of (coded_elements.Rule rule) = elements.rule (rule_of rule)
element_of (coded_elements.Refused e) = elements.refused e
