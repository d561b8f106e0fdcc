mod Fit
mod Reached
mod Sound
mod Stands
