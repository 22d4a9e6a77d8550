pub mod AssembledRows
