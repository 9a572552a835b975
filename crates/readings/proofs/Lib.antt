pub mod Classes
pub mod Limits
pub mod Stands
pub mod Times
pub mod Laws
