pub mod Refusals
pub mod Uniform
pub mod Pairing
pub mod Ways
pub mod Calls
