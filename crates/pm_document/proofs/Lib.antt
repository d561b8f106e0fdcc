mod Lengths
mod Said
