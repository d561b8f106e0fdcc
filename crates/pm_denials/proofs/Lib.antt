mod Causes
mod Computed
mod Replies
mod Stops
