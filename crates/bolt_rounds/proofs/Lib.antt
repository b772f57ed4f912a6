pub mod Slicing
pub mod Sliced
pub mod Moving
pub mod Shown
pub mod Sent
pub mod Rounding
pub mod Turning
