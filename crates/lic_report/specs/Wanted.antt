-- What is left of the matches that are asked for.
use Rattle.std.specs.Prelude.{List}
use Rattle.lic_set.specs.declared.triple.Triple.{Triple}
use Rattle.lic_report.specs.declared.wanted.Wanted.{Wanted}
use Rattle.lic_report.specs.Report.{first_of}

-- the first n of the matches that are left
abbrev pub wanted_of : Wanted → List Triple
wanted_of w = first_of w.left w.matches
