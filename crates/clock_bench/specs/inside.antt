pub mod SpotFits
