pub mod Ticks
pub mod Seen
