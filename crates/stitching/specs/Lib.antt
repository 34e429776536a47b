pub mod Expansions
pub mod StitchedAnswers
