pub mod Steps
pub mod Laws
pub mod Finding
pub mod Prefix
pub mod Negated
pub mod Integers
pub mod Putting
pub mod Tests
