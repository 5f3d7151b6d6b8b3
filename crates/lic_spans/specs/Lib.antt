pub mod Spans
pub mod Sweeps
pub mod Swept
