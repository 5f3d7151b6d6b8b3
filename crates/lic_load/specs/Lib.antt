pub mod Causes
pub mod Listings
pub mod Loading
pub mod Reporting
pub use Rattle.lic_stream.specs.Stream
