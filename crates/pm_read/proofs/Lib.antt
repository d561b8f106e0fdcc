pub mod Asking
pub mod Distinct
pub mod Guards
pub mod Items
pub mod Limits
pub mod Lists
pub mod OfWords
pub mod Taken
