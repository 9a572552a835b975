pub mod Raises
pub mod Sweeps
pub mod Orders
pub mod Noting
pub mod Telling
pub mod Writing
pub mod Stretches
pub mod Rankings
