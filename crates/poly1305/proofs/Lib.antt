mod Products
mod Halves
mod Texts
mod Vectors
mod PartialSums
