pub mod Bests
pub mod Trades
pub mod Loops
