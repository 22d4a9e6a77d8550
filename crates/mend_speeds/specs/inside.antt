pub mod EvenValues
