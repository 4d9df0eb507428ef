pub mod Work
pub mod Promises
