pub mod DirectAnswers
pub mod Expansions
pub mod Passes
pub mod Counting
