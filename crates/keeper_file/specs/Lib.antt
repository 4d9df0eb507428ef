pub mod File
pub mod Group
pub mod Holding
pub mod Keeping
pub mod Merging
