use Rattle.lic_report.proofs.ReportLemmas.{report-is-one}
use Rattle.lic_report.proofs.laws.reports_are_one.Goals as goal

pub returns : goal.returns
returns c = report-is-one c.matches_are_one_list.ensures c.values_are_one_list.ensures
