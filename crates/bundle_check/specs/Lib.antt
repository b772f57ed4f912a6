pub mod RightClaims
pub mod Laws
pub mod Made
pub mod Named
pub mod Walked
-- No promise: what the contracts of private functions alone cite
pub mod steps
