pub mod Case
pub mod Draft
