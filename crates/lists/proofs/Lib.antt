pub mod ListLaws
pub mod AnchorLaws
pub mod AnchorsOnRuns
pub mod CursorLaws
pub mod AnchorListLaws
pub mod ListTests
pub mod Most
pub mod Stretches
