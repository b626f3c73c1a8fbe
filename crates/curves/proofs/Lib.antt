pub mod Sums
pub mod Crossings
pub mod Orders
pub mod Awards
pub mod Groups
pub mod Filling
pub mod Prices
