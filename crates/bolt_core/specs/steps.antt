pub mod Closes
pub mod Ends
pub mod Targets
pub mod Begun
