mod Core
mod Flat
mod Fronts
mod Refused
