pub mod Firsts
pub mod Ranks
pub mod Lifts
pub mod Rings
pub mod Decides
pub mod Arcs
pub mod Tables
