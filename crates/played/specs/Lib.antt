pub mod Numbers
pub mod Charts
pub mod Table
