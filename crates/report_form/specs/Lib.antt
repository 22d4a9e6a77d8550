pub mod Form
pub mod Stores
pub mod Text
pub mod Orderly
pub mod ReadColumns
