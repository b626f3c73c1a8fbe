pub mod Laws
pub mod Best
pub mod Orders
pub mod Lines
pub mod Rankings
