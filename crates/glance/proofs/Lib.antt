pub mod Laws
pub mod Ends
pub mod Theorems
pub mod Tests
