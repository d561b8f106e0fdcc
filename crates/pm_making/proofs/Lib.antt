pub mod Accepted
pub mod Known
pub mod Written
