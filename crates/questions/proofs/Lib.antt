pub mod QuestionLaws
pub mod AnswerLaws
pub mod Extents
pub mod QuestionTests
