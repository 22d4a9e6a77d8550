pub mod TakenWhole
