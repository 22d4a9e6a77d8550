pub mod MovedRaw
