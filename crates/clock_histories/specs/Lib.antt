pub mod Costs
pub mod NoDearer
pub mod Demand
pub mod ByTheCursor
pub mod Runs
