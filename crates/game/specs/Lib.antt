pub mod Types
pub mod Intervals
pub mod Game
pub mod Timed
pub mod Start
pub mod Listing
pub mod Absent
pub mod Theorems
