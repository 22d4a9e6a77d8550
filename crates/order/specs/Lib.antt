pub mod Order
pub mod Entries
pub mod FloatKey
pub mod Packed
