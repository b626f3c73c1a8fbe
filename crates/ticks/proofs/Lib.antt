pub mod Steps
pub mod Limits
pub mod Ends
