pub mod SpeedTidying
