pub mod Taking
mod Accepted
