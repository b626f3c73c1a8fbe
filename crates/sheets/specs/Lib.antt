pub mod Rows
pub mod Calls
pub mod Sheet
pub mod Growing
