pub mod Regions
pub mod Theorems
