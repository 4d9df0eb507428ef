pub mod Asks
pub mod Parts
pub mod Records
pub mod Examples
