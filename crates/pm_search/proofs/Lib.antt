pub mod MarkWords
pub mod MarkSteps
pub mod SearchSteps
