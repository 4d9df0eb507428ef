pub mod Names
pub mod Table
pub mod BuiltIn
pub mod Answers
pub mod Meaning
