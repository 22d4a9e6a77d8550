pub mod NoneOff
