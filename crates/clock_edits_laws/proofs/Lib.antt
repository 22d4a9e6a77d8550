pub mod Fronts
pub mod SameDue
pub mod ReadsNoFurther
pub mod EntriesAtTheFront
pub mod TurnsOnTheCut
pub mod OffTheRow
pub mod LaterEdits
pub mod SmallestPairs
