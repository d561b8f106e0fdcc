mod Cases
mod Computed
mod Responses
