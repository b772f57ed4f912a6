pub mod Exact
pub mod Gathered
pub mod Order
pub mod Outlines
pub mod SameValues
