pub mod Laying
pub mod Each
pub mod Kept
