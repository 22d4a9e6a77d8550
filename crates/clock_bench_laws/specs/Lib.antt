pub mod BenchAgrees
