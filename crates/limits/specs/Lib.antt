pub mod Table
pub mod Numbers
pub mod Neighbours
pub mod Plain
pub mod Refusals
