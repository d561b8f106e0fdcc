mod Leaving
mod GoingOn
