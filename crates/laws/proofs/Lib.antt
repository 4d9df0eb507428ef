pub mod Cases
pub mod Lists
pub mod Masks
