pub mod Fairness
pub mod Histories
pub mod Examples
