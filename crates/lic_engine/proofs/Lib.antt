mod DoneLemmas
mod ReportLemmas
mod InputLemmas
mod RunLemmas
mod OuterLemmas
mod CheckLemmas
