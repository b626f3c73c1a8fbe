pub mod Orders
pub mod Settlement
pub mod Kept
pub mod Held
pub mod Changes
pub mod Willing
pub mod Members
