pub mod MergedWarps
pub mod inside
