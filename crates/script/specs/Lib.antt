pub mod Grammar
pub mod Reading
pub mod Lines
pub mod Cells
pub mod Args
pub mod Bodies
pub mod Writing
