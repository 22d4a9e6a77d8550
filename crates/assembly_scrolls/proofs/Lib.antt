pub mod KeptNoLonger
pub mod QuantizedTaken
pub mod Outcomes
pub mod RisingKeys
pub mod Untested
