pub mod Held
pub mod Laws
pub mod Loops
pub mod Sent
