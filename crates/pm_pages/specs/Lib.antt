pub mod Leaves
pub mod Listed
pub mod Paged
pub mod Kept
pub mod Lending
