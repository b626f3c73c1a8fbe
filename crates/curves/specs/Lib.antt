pub mod Sums
pub mod Curves
pub mod Crossing
pub mod Orders
pub mod Allotments
pub mod Sharing
pub mod Filling
pub mod Pricing
