pub mod Rules
pub mod Answers
pub mod Lengths
pub mod State
pub mod Steps
pub mod Lending
