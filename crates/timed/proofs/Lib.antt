pub mod Tables
pub mod Answering
pub mod Listing
