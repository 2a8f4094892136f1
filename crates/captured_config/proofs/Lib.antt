mod Ascending
mod Written
mod Joining
mod Neighbours
mod KeptFacts
mod Fronts
