pub mod Saved
pub mod Saying
pub mod Reads
pub mod Writes
pub mod Courses
