pub mod Required
pub mod Keys
pub mod Candidates
