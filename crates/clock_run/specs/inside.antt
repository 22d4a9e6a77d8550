pub mod Outlook
pub mod Asked
