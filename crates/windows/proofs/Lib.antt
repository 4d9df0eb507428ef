pub mod FirstLaws
pub mod WalkLaws
pub mod ShownLaws
