pub mod Words
pub mod Faults
pub mod Fitting
pub mod RoundTrip
pub mod Buffers
pub mod Fronts
