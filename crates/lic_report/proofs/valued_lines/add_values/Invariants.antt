use Rattle.std.proofs.Common.{◌≡◌, ◌++◌, map, take}
use Rattle.std.specs.List.{flat_map}
use Rattle.lic_vars.specs.Views.{value_of}
use Rattle.lic_report.specs.Report.{value_line}
use Rattle.lic_report.proofs.valued_lines.add_values.Given as goal

abbrev pub invariant-loop-value : goal.invariant-loop-value
invariant-loop-value l =
    l.lines.items ≡ l.fn.lines.items ++ flat_map (value_line l.text.source) (map value_of (take l.value-index l.values))
