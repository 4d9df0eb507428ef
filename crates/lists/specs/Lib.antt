pub mod Lists
pub mod Anchors
