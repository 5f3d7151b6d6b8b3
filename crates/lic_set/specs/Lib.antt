pub mod Sets
pub mod Rising
pub mod Matches
pub mod Candidates
