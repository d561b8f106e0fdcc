mod Defining
mod Found
mod Known
mod Ruled
mod Tied
mod Told
mod Twice
