mod Lists
mod Walking
