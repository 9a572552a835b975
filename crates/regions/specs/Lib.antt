pub mod Types
pub mod Code
pub mod Standing
pub mod Tests
