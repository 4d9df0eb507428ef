pub mod Pen
