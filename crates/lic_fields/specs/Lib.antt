pub mod Fields
pub mod Fronts
