pub mod StripLaws
pub mod Tests
