pub mod Steps
pub mod StepWords
pub mod Judged
