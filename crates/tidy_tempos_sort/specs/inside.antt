pub mod KeyHalves
