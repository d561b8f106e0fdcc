mod Among
mod ClassPlaces
mod ClassChanges
mod Charged
pub mod Granting
mod LastSet
mod Leaving
mod Listed
pub mod Listing
mod Parents
pub mod PlacedClasses
mod NamesKept
mod Regions
mod Repaired
