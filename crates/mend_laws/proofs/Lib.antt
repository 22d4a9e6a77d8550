pub mod WrittenInOrder
pub mod EachKept
pub mod ScrollsDrawn
pub mod SpeedsAssembled
