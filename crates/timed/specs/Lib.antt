pub mod Rows
pub mod Carried
pub mod Code
pub mod Rest
