pub mod CanMove
