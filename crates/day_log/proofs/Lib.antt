pub mod Bytes
pub mod Cuts
pub mod Ends
pub mod Tidy
pub mod Turns
pub mod Begun
pub mod Grouping
pub mod Back
