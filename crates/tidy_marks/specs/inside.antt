pub mod MarkNumbers
