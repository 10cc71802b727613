mod Requests
mod Codes
mod Placed
mod Steps
mod Paths
