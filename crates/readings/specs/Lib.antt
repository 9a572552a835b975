pub mod Types
pub mod Grains
pub mod Spotted
pub mod View
pub mod Time
pub mod Theorems
