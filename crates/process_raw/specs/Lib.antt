pub mod LentLists
pub mod RawLists
pub mod ProcessedLaid
pub mod inside
