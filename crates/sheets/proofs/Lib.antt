pub mod Growths
pub mod SoFar
pub mod Ways
