mod Order
pub mod Least
pub mod Erased
pub mod Basics
pub mod Sound
pub mod Linear
pub mod Numbers
pub mod Nodes
pub mod Formed
pub mod Tabled
mod Known
mod Defined
pub mod Noting
pub mod Declaring
pub mod Saying
pub mod Filed
pub mod Procedural
pub mod Checked
pub mod Lowered
pub mod Building
pub mod Fitting
pub mod Quieting
pub mod Programmed
pub mod Numbered
pub mod Sides
pub mod Places
pub mod Divided
pub mod Scoping
pub mod Globally
