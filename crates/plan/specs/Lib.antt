pub mod Index
pub mod Passages
