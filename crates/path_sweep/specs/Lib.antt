pub mod Executions
pub mod Guards
pub mod Order
pub mod Ends
pub mod Laws
pub mod steps
