mod Agree
pub mod Asked
pub mod Before
mod Counted
pub mod Counting
mod Edits
pub mod Given
pub mod Lemma
mod Members
mod Merging
mod Moved
pub mod Named
pub mod Once
mod Ones
mod Order
mod Passing
mod Places
mod Puts
pub mod Repaired
mod Rows
pub mod Untouched
mod Walk
pub mod Were
