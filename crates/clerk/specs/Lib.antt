pub mod Calls
pub mod Desk
pub mod Course
