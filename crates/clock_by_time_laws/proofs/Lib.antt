pub mod AtMostOneRound
pub mod FarWarpEnd
pub mod AskedBack
