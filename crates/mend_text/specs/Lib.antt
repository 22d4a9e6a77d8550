pub mod MendedText
