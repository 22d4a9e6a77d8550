pub mod WithATempo
pub mod ListGrows
pub mod RunsOn
pub mod BenchOutcome
pub mod OneOutcome
