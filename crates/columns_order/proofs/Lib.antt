pub mod EachTwoFrom
