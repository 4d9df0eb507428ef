pub mod Log
pub mod Groups
