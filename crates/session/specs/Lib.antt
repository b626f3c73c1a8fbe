pub mod Awards
pub mod Entries
