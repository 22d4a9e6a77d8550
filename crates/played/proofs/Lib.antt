pub mod PlayedSm
pub mod Played
