pub mod Questions
pub mod Extents
pub mod Answers
