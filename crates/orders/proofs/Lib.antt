pub mod Keeps
pub mod Sessions
pub mod Bids
pub mod Marks
pub mod Sifts
