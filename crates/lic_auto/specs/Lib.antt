pub mod Directions
pub mod Compiling
pub mod Changes
pub mod Picked
pub mod TemplateRuns
pub mod TemplateBacks
pub mod Backs
pub mod Runs
