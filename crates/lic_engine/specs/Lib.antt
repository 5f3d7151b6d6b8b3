pub mod Failures
pub mod Inputs
pub use Rattle.lic_stream.specs.Stream
pub use Rattle.lic_stream.specs.Counts
pub use Rattle.lic_report.specs.Report
pub use Rattle.lic_report.specs.Checking
