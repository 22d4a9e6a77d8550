pub mod CountNotAbove
