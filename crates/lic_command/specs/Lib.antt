pub mod Commands
pub mod Lines
pub mod Outcomes
pub mod Reporting
pub mod Statuses
pub mod Usage
