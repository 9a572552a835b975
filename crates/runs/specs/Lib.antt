pub mod Walk
pub mod Counted
pub mod Runs
pub mod Wins
