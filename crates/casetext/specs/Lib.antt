pub mod Faults
pub mod Text
pub mod Fields
pub mod Lines
pub mod Items
pub mod Case
pub mod Sound
