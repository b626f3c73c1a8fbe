pub mod Prices
pub mod Tests
pub mod Sharing
pub mod Pairs
pub mod Examples
pub mod PricesLemmas
pub mod Choosing
pub mod Quotas
