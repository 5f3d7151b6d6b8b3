pub mod Cells
pub mod Streaks
pub mod SmallStrings
pub mod Tokens
pub mod Groupings
pub mod TextStarts
