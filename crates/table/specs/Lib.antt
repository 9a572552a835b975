pub mod Faults
pub mod Colours
pub mod Odd
pub mod Rows
pub mod Ranks
pub mod Check
pub mod Accepts
