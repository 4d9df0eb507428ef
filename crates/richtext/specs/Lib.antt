pub mod Types
pub mod Flags
