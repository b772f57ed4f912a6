pub mod Making
pub mod Places
pub mod Lists
pub mod Marks
pub mod Plain
