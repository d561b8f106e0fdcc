pub mod Computed
pub mod Firsts
pub mod FreshNames
pub mod Knowing
pub mod TargetWords
