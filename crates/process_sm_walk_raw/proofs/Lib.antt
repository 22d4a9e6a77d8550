pub mod Fronts
pub mod Numbers
