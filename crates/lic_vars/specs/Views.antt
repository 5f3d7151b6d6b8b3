-- What the code's values represent.
use Rattle.lic_vars.specs.Values.{Assigned}
use Rattle.lic_vars.specs.declared.values.Value.{Value}

abbrev pub value_of : Value → Assigned
value_of v = record { name = v.name.now; span = v.span }
