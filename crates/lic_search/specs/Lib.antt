pub mod Copies
pub mod Matches
pub mod Beginnings
pub mod Ends
pub mod AllMatches
pub mod LeastMatches
