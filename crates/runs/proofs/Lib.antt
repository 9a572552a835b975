pub mod Counts
pub mod Ranked
pub mod Walks
pub mod Endlessly
