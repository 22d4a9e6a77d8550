pub mod MendedScrolls
