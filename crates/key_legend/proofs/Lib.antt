pub mod Lowest
pub mod Drawn
pub mod Theorems
pub mod Tests
