pub mod Short
pub mod Figures
pub mod Showing
pub mod Choices
pub mod Telling
pub mod Exactly
