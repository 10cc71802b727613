pub mod Containers
mod Named
pub mod Among
pub mod Furthers
mod Datas
mod Walked
