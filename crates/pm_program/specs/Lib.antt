pub mod Exporting
pub mod Generating
pub mod Making
pub mod Reading
pub mod Said
