pub mod Arcs
pub mod Lifts
pub mod Task
pub mod Notes
pub mod Loops
pub mod Ranked
