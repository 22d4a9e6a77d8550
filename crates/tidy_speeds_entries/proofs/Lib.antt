pub mod OneOutcome
pub mod Rooms
pub mod NearNoSpeed
pub mod SpeedsLaid
pub mod SpeedColumns
pub mod FieldsOfSpeeds
