pub mod Arrivals
pub mod Layers
pub mod RouteFacts
pub mod Searching
