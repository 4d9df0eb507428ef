pub mod Ageing
pub mod Ageings
pub mod Plans
pub mod Planning
pub mod Proposing
