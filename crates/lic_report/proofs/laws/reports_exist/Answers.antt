use Rattle.lic_report.proofs.ReportLemmas.{report-exists}
use Rattle.lic_report.proofs.laws.reports_exist.Goals as goal

pub returns : goal.returns
returns c =
    report-exists c.matches_exist.ensures c.matches_have_values.ensures c.outer_ones_are_tight.ensures.outer c.outer_ones_are_tight.ensures.tight
