pub mod Columns
pub mod Known
pub mod Renumbering
