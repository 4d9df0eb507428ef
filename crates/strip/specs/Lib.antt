pub mod Strip
pub mod Cells
pub mod Legend
