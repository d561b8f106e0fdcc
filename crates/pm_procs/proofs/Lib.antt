mod Numbers
mod Places
mod Runs
