pub mod Laws
pub mod KeptLaws
pub mod Exact
