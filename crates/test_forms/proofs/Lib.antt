pub mod ByTest
