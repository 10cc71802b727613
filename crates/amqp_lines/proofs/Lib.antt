mod Pieces
mod Requests
mod SetLimits
mod Progress
mod Texts
