pub mod Keys
pub mod Letters
