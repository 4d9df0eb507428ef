pub mod Spelled
pub mod Held
pub mod Lines
pub mod Splits
pub mod Theorems
pub mod Tests
