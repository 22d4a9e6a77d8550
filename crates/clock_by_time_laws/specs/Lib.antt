pub mod OneRound
pub mod AskedBack
