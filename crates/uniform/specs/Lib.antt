pub mod Margins
