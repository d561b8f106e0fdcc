mod FirstDenied
mod Found
mod KeptOf
mod Places
mod Reasons
mod RightNames
mod Watched
mod WordNames
