pub mod NameLaws
pub mod TableLaws
pub mod EntryLaws
pub mod MapLaws
pub mod AnswerLaws
pub mod RetiredLaws
pub mod Theorems
pub mod Tests
