pub mod Members
pub mod Ticks
pub mod Plays
