pub mod Claims
pub mod Growing
pub mod Killing
pub mod Leading
pub mod Listing
pub mod Making
pub mod Ranges
