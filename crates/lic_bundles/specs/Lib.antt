pub mod Bundles
pub mod Listing
pub mod Merging
