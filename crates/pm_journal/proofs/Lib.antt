mod Moments
mod Shapes
mod Bodies
mod Records
mod Standing
mod Sound
mod Results
mod Filling
mod Windows
pub mod Unique
mod Resuming
mod Pieces
mod Keeping
mod Opening
mod ItemByItem
mod Parts
mod Refusing
