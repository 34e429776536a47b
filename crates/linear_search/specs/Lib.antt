pub mod Walks
pub mod LinearAnswers
