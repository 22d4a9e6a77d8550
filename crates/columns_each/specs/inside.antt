pub mod CountedFront
