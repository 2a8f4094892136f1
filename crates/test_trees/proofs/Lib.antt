pub mod Few
mod Ageing
