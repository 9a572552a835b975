pub mod Graph
pub mod Lifting
pub mod Table
