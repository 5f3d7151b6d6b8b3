pub mod After
pub mod Arguments
pub mod CommandLine
pub mod Options
